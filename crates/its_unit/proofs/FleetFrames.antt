-- The frames of a fleet: those that are made, sent and wait, and the lines that name them.
use Rattle.std.proofs.Common.{◌≡◌, ℕ, zero, suc, List, [], ◌∷◌, ◌++◌, map, length}
use Rattle.std.proofs.Common.{◌⊎◌, ◌≢◌, Option, Some, None, refl, sym, ap, subst, inl, inr}
use Rattle.std.specs.Prelude.{slice_get, slice_set}
use Rattle.std.specs.List.{AllZip}
use Rattle.std.proofs.lemmas.Option.{none-some, same_Some}
use Rattle.its_model.specs.Packet.{Transmission}
use Rattle.its_model.specs.World.{LogLine, What}
use Rattle.its_model.specs.World.{with_one_more}
use Rattle.its_model.proofs.Lists.{get_front, get_last, get_set, get_snoc}
use Rattle.its_unit.specs.Fleets.{NumberedFrame, Sending, UnitKind, numbered, FleetWhat}
use Rattle.its_unit.specs.Fleets.{FleetLine}
use Rattle.its_unit.specs.FleetLaws.{IsIn, AreNumbered}
use Rattle.its_unit.specs.FleetLaws.{IsSameWhat, IsLineOf}

-- ---- lists

pub map_set : {X Y : Type 0} (g : X → Y) (xs : List X) (j : ℕ) (x : X)
    → map g (slice_set xs j x) ≡ slice_set (map g xs) j (g x)
map_set g [] j x = refl
map_set g (y ∷ xs) zero x = refl
map_set g (y ∷ xs) (suc j) x = ap (λ l. g y ∷ l) (map_set g xs j x)

-- a write of what is there
pub same_set : {X : Type 0} (xs : List X) (j : ℕ) (x : X) → slice_get xs j ≡ Some x
    → slice_set xs j x ≡ xs
same_set [] j x h = refl
same_set (y ∷ xs) zero x h = ap (λ z. z ∷ xs) (sym (same_Some y x h))
same_set (y ∷ xs) (suc j) x h = ap (λ l. y ∷ l) (same_set xs j x h)

pub get_map : {X Y : Type 0} (g : X → Y) (xs : List X) (j : ℕ) (x : X) → slice_get xs j ≡ Some x
    → slice_get (map g xs) j ≡ Some (g x)
get_map g [] j x h = absurd (none-some x h)
get_map g (y ∷ xs) zero x h = ap (λ z. Some (g z)) (same_Some y x h)
get_map g (y ∷ xs) (suc j) x h = get_map g xs j x h

-- what is there stays with one more
pub get_more : {X : Type 0} (xs : List X) (o : Option X) (k : ℕ) (x : X) → slice_get xs k ≡ Some x
    → slice_get (with_one_more xs o) k ≡ Some x
get_more xs None k x h = h
get_more xs (Some y) k x h = get_front xs (y ∷ []) k x h

zip_by : {X Y : Type 0} {R S : X → Y → Type 0} → ((x : X) (y : Y) → R x y → S x y)
    → (xs : List X) (ys : List Y) → AllZip R xs ys → AllZip S xs ys
zip_by by [] [] h = tt
zip_by by [] (y ∷ ys) h = absurd h
zip_by by (x ∷ xs) [] h = absurd h
zip_by by (x ∷ xs) (y ∷ ys) h = (by x y h.0, zip_by by xs ys h.1)

-- ---- numbered frames

-- the frame is the one of its number
abbrev pub HasNumber : List Transmission → NumberedFrame → Type 0
HasNumber air f = slice_get air f.number ≡ Some f.frame

pub keep_numbers : (air : List Transmission) (o : Option Transmission) (frames : List NumberedFrame)
    → AreNumbered air frames → AreNumbered (with_one_more air o) frames
keep_numbers air o frames h = λ f is. get_more air o f.number f.frame (h f is)

pub one_more_numbered : (air : List Transmission) (frames : List NumberedFrame)
    (o : Option NumberedFrame) → AreNumbered air frames
    → ((f : NumberedFrame) → o ≡ Some f → slice_get air f.number ≡ Some f.frame)
    → AreNumbered air (with_one_more frames o)
one_more_numbered air frames None h one = h
one_more_numbered air frames (Some x) h one = λ f is. by f (get_snoc frames x is.0 f is.1)
  where
    by : (f : NumberedFrame) {k : ℕ}
        → (slice_get frames k ≡ Some f) ⊎ ((k ≡ length frames) × (x ≡ f))
        → slice_get air f.number ≡ Some f.frame
    by f (inl g) = h f (_, g)
    by f (inr g) = one f (ap Some g.1)

-- the frame that is made has its number
pub new_numbered : (air : List Transmission) (o : Option Transmission) (f : NumberedFrame)
    → numbered (length air) o ≡ Some f → slice_get (with_one_more air o) f.number ≡ Some f.frame
new_numbered air None f e = absurd (none-some f e)
new_numbered air (Some t) f e =
    subst (λ (x : NumberedFrame). slice_get (air ++ t ∷ []) x.number ≡ Some x.frame)
    (same_Some (record { number = length air; frame = t }) f e) (get_last air t)

front_numbered : (air : List Transmission) (frames : List NumberedFrame) (o : Option NumberedFrame)
    → AreNumbered air (with_one_more frames o) → AreNumbered air frames
front_numbered air frames o h = λ f is. h f (is.0, get_more frames o is.0 f is.1)

last_numbered : (air : List Transmission) (frames : List NumberedFrame) (o : Option NumberedFrame)
    → AreNumbered air (with_one_more frames o) → (f : NumberedFrame) → o ≡ Some f
    → slice_get air f.number ≡ Some f.frame
last_numbered air frames None h f e = absurd (none-some f e)
last_numbered air frames (Some x) h f e =
    subst (λ (y : NumberedFrame). slice_get air y.number ≡ Some y.frame) (same_Some x f e)
    (h x (length frames, get_last frames x))

-- ---- lines stay as more is sent and made

pub same_what : (sent : List NumberedFrame) (o : Option NumberedFrame) (what : FleetWhat) (w : What)
    → IsSameWhat sent what w → IsSameWhat (with_one_more sent o) what w
same_what sent o (FleetWhat.Calls call) w h = h
same_what sent o (FleetWhat.Deliver n) w h =
    record { frame = h.frame; is = get_more sent o n h.frame h.is; what_is = h.what_is }
same_what sent o (FleetWhat.DeliverVerified n message) w h =
    record { frame = h.frame; is = get_more sent o n h.frame h.is; what_is = h.what_is }
same_what sent o FleetWhat.Release w h = h

same_line : (sent : List NumberedFrame) (o : Option NumberedFrame) (air : List Transmission)
    (new : Option Transmission) (mine : FleetLine) (line : LogLine)
    → IsLineOf sent air mine line
    → IsLineOf (with_one_more sent o) (with_one_more air new) mine line
same_line sent o air new mine line h = record {
  station = h.station;
  moment = h.moment;
  what = same_what sent o mine.event.what line.event.what h.what;
  whole = h.whole;
  entry = h.entry;
  frame = λ t is. get_more air new mine.number t (h.frame t is);
  part = h.part;
}

pub same_lines : (sent : List NumberedFrame) (o : Option NumberedFrame) (air : List Transmission)
    (new : Option Transmission) (log : List FleetLine) (lines : List LogLine)
    → AllZip (IsLineOf sent air) log lines
    → AllZip (IsLineOf (with_one_more sent o) (with_one_more air new)) log lines
same_lines sent o air new log lines h = zip_by (same_line sent o air new) log lines h

-- ---- what a unit sends in a step, and what then waits

-- the frames of all units, after one of them made a step
pub waiting_after : {U : Type 0} (kind : UnitKind U) (units : List U) (j : ℕ)
    (air : List Transmission) (s : Sending U) → ((u : U) → IsIn units u → AreNumbered air (kind.waiting u))
    → AreNumbered air (with_one_more (kind.waiting s.unit) s.sent)
    → (u : U) → IsIn (slice_set units j s.unit) u → AreNumbered air (kind.waiting u)
waiting_after kind units j air s all own u is = by (get_set units j s.unit is.0 u is.1)
  where
    by : {k : ℕ} → ((k ≡ j) × (s.unit ≡ u)) ⊎ ((k ≢ j) × (slice_get units k ≡ Some u))
        → AreNumbered air (kind.waiting u)
    by (inl g) =
        subst (λ v. AreNumbered air (kind.waiting v)) g.1
        (front_numbered air (kind.waiting s.unit) s.sent own)
    by (inr g) = all u (_, g.1)

-- what was sent, and what is sent now
pub sent_after : {U : Type 0} (kind : UnitKind U) (sent : List NumberedFrame)
    (air : List Transmission) (s : Sending U) → AreNumbered air sent
    → AreNumbered air (with_one_more (kind.waiting s.unit) s.sent)
    → AreNumbered air (with_one_more sent s.sent)
sent_after kind sent air s h own =
    one_more_numbered air sent s.sent h (last_numbered air (kind.waiting s.unit) s.sent own)
