-- An origin is a line of the log.
use Rattle.std.proofs.Common.{◌≡◌, ℕ, List, [], ◌∷◌, ◌++◌, Option, Some, None, refl, ap, subst, ◌∙◌}
use Rattle.std.proofs.Common.{inl, inr}
use Rattle.std.specs.Prelude.{slice_get}
use Rattle.its_model.specs.World.{What, LogLine, frame_of, with_one_more}
use Rattle.its_model.specs.World.What.{Calls, Deliver}
use Rattle.its_model.specs.Log.{Origin, deeper, origin_by, with_origin, origins}
use Rattle.its_model.specs.Schedules.{IsInLog}
use Rattle.its_model.proofs.Lists.{get_snoc}

-- what is in a log is in a longer one
longer : (line : LogLine) (log : List LogLine) (o : Origin) → IsInLog o log → IsInLog o (line ∷ log)
longer line log o h =
    record {
      later = line ∷ h.later;
      line = h.line;
      number = h.number;
      split = ap (λ xs. line ∷ xs) h.split;
      event = h.event;
      gives = h.gives;
    }

-- a frame that was delivered has its origin in the log
relayed_in : (x : Option Origin) (log : List LogLine) (o : Origin)
    → ((p : Origin) → x ≡ Some p → IsInLog p log) → deeper x ≡ Some o → IsInLog o log
relayed_in None log o h e = cc
relayed_in (Some p) log o h e =
    let g = h p refl in
    let before : p.before ≡ o.before = cc in
    let event : p.event ≡ o.event = cc in
    record {
      later = g.later;
      line = g.line;
      number = g.number;
      split = g.split ∙ ap (λ xs. g.later ++ g.line ∷ xs) before;
      event = g.event ∙ event;
      gives =
          g.gives;
    }

-- the origin that a line makes
new_in : (what : What) (line : LogLine) (log : List LogLine) (n : ℕ) (o : Origin)
    → frame_of line.entry ≡ Some n
    → ((k : ℕ) (p : Origin) → slice_get (origins log) k ≡ Some p → IsInLog p log)
    → origin_by what line.event log (origins log) ≡ Some o → IsInLog o (line ∷ log)
new_in (Calls call) line log n o gives h e =
    let before : log ≡ o.before = cc in
    let event : line.event ≡ o.event = cc in
    record {
      later = [];
      line = line;
      number = n;
      split = ap (λ xs. line ∷ xs) before;
      event = event;
      gives = gives;
    }
new_in (Deliver k) line log n o gives h e =
    longer line log o (relayed_in (slice_get (origins log) k) log o (λ p. h k p) e)

-- one of the origins, or the new one
one_more : (x : Option Origin) (line : LogLine) (log : List LogLine) (k : ℕ) (o : Origin)
    → ((m : ℕ) (p : Origin) → slice_get (origins log) m ≡ Some p → IsInLog p log)
    → ((p : Origin) → x ≡ Some p → IsInLog p (line ∷ log))
    → slice_get (with_one_more (origins log) x) k ≡ Some o → IsInLog o (line ∷ log)
one_more None line log k o h new at = longer line log o (h k o at)
one_more (Some y) line log k o h new at =
    elim (get_snoc (origins log) y k o at) [
      | inl a ↦ longer line log o (h k o a)
      | inr a ↦ subst
          (λ (z : Origin). IsInLog z (line ∷ log)) a.1 (new y refl)
    ]

-- the same by whether the line gives a frame
given : (g : Option ℕ) (line : LogLine) (log : List LogLine) (k : ℕ) (o : Origin)
    → frame_of line.entry ≡ g
    → ((m : ℕ) (p : Origin) → slice_get (origins log) m ≡ Some p → IsInLog p log)
    → slice_get (with_origin g line.event log (origins log)) k ≡ Some o → IsInLog o (line ∷ log)
given None line log k o gives h at = longer line log o (h k o at)
given (Some m) line log k o gives h at =
    one_more (origin_by line.event.what line.event log (origins log)) line log k o h
    (λ p. new_in line.event.what line log m p gives h) at

-- an origin of the log is a line of it
pub origin_in_log : (log : List LogLine) (k : ℕ) (o : Origin) → slice_get (origins log) k ≡ Some o
    → IsInLog o log
unfolding origins
origin_in_log [] k o at = cc
origin_in_log (line ∷ log) k o at =
    given (frame_of line.entry) line log k o refl (origin_in_log log) at
