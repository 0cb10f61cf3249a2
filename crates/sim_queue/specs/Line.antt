-- The deliveries that wait in a line, and the other events of the air's own on a heap.
use Rattle.std.specs.Prelude.{◌≡◌, ℕ, ◌≤◌, List, [], ◌∷◌, false, ◌⊎◌}
use Rattle.std.specs.BinaryHeap.{IsHeap, IsUpperBound, lt_by_cmp}
use Rattle.std.specs.List.{AllByRecursion}
use Rattle.sim_queue.specs.Counted.{AreCounted}
use Rattle.sim_queue.specs.declared.scheduled.Scheduled.{Scheduled}
use Rattle.sim_queue.specs.Waiting.{waiting_cmp}

-- each is taken before those behind it
abbrev pub StandInLine : List Scheduled → Type 0
StandInLine [] = Unit {0}
StandInLine (x ∷ line) = IsUpperBound waiting_cmp x line × StandInLine line

-- each of these is taken before this one
abbrev pub IsBehind : Scheduled → List Scheduled → Type 0
IsBehind x line = AllByRecursion (λ y. lt_by_cmp waiting_cmp y x ≡ false) line

-- the heap is one, the line is in its order, and all on the heap are counted
pub record AreInOrder (heap line : List Scheduled) (kinds : ℕ) (counts : List ℕ) : Type 0 where
  pub on_heap : IsHeap waiting_cmp heap
  pub in_line : StandInLine line
  pub counted : AreCounted kinds counts heap

-- the first of all stands in line
pub record IsLineFirst (heap line : List Scheduled) : Type 0 where
  pub some : line ≡ [] → ⊥
  pub first : (x : Scheduled) (rest : List Scheduled) → line ≡ x ∷ rest →
      IsUpperBound waiting_cmp x heap

-- the first of all stands on the heap, if there is one
pub record IsHeapFirst (heap line : List Scheduled) : Type 0 where
  pub none : heap ≡ [] → line ≡ []
  pub first : (x : Scheduled) → IsUpperBound waiting_cmp x heap → IsUpperBound waiting_cmp x line

-- none of these is before a moment, as the first of them isn't
abbrev pub IsLate : ℕ → List Scheduled → Type 0
IsLate moment heap =
    (heap ≡ [])
    ⊎ ((x : Scheduled) × IsUpperBound waiting_cmp x heap × (moment ≤ x.moment))

-- the one in front isn't before a moment
abbrev pub IsFrontLate : ℕ → List Scheduled → Type 0
IsFrontLate moment line =
    (x : Scheduled) (rest : List Scheduled) → line ≡ x ∷ rest → moment ≤ x.moment
