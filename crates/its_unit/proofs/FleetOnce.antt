-- No frame of a fleet of units is sent twice.
use Rattle.std.proofs.Common.{◌≡◌, ◌⊎◌, ℕ, ◌<◌, ◌≤◌, List, [], ◌∷◌, ◌++◌, length, Bool, true, false}
use Rattle.std.proofs.Common.{cond, Option, Some, None, refl, sym, ap, subst, ◌∙◌, inl, inr, arith}
use Rattle.std.specs.Prelude.{slice_get}
use Rattle.std.proofs.lemmas.Option.{none-some}
use Rattle.its_model.specs.Packet.{Transmission}
use Rattle.its_model.specs.World as world
use Rattle.its_model.specs.World.{with_one_more}
use Rattle.its_model.proofs.Lists.{get_snoc, length_more}
use Rattle.its_unit.specs.Unit.{UnitModel, step_within, unit_step}
use Rattle.its_unit.specs.Runs.{UnitCallAt, is_withheld}
use Rattle.its_unit.specs.Fleets.{NumberedFrame, numbered, frame_passed, unit_kind, FleetWhat}
use Rattle.its_unit.specs.Fleets.{FleetEvent, FleetModel, new_fleet, Asked, asked, at_time, at_unit}
use Rattle.its_unit.specs.Fleets.{called_if, fleet_step, fleet_run, happened, made_by}
use Rattle.its_unit.specs.FleetLaws.{SendsOnce}
use Rattle.its_unit.proofs.Runs.{station_runs}
use Rattle.its_unit.proofs.FleetUnits.{answer_withheld, part_frame}

-- each frame that was sent has a number of its own, of a frame that was made
record EachOnce (made : List Transmission) (sent : List NumberedFrame) : Type 0 where
  below : (k : ℕ) (a : NumberedFrame) → slice_get sent k ≡ Some a → a.number < length made
  apart : (m n : ℕ) (a b : NumberedFrame) → slice_get sent m ≡ Some a → slice_get sent n ≡ Some b
      → a.number ≡ b.number → m ≡ n

no_fewer : (made : List Transmission) (o : Option Transmission)
    → length made ≤ length (with_one_more made o)
no_fewer made None = omega arith
no_fewer made (Some t) = omega (arith, length_more made t)

-- more is made, and nothing is sent
once_more_made : (made : List Transmission) (sent : List NumberedFrame) (o : Option Transmission)
    → EachOnce made sent → EachOnce (with_one_more made o) sent
once_more_made made sent o h = record {
  below = λ k a at. omega (arith, h.below k a at, no_fewer made o);
  apart = h.apart;
}

-- one is made, and it is sent
once_sent : (made : List Transmission) (sent : List NumberedFrame) (t : Transmission)
    (new : NumberedFrame) → new.number ≡ length made → EachOnce made sent
    → EachOnce (made ++ t ∷ []) (sent ++ new ∷ [])
once_sent made sent t new is h = record {
  below = λ k a at. below a (get_snoc sent new k a at);
  apart = λ m n a b at_m at_n same.
      apart m n a b (get_snoc sent new m a at_m) (get_snoc sent new n b at_n) same;
}
  where
    below : (a : NumberedFrame) {k : ℕ}
        → (slice_get sent k ≡ Some a) ⊎ ((k ≡ length sent) × (new ≡ a))
        → a.number < length (made ++ t ∷ [])
    below a (inl at) = omega (arith, h.below _ a at, length_more made t)
    below a (inr at) =
        omega (arith, ap (λ (f : NumberedFrame). f.number) at.1, is, length_more made t)

    apart : (m n : ℕ) (a b : NumberedFrame)
        → (slice_get sent m ≡ Some a) ⊎ ((m ≡ length sent) × (new ≡ a))
        → (slice_get sent n ≡ Some b) ⊎ ((n ≡ length sent) × (new ≡ b))
        → a.number ≡ b.number → m ≡ n
    apart m n a b (inl p) (inl q) same = h.apart m n a b p q same
    apart m n a b (inl p) (inr q) same =
        absurd (omega (arith, h.below m a p, ap (λ (f : NumberedFrame). f.number) q.1, is, same))
    apart m n a b (inr p) (inl q) same =
        absurd (omega (arith, h.below n b q, ap (λ (f : NumberedFrame). f.number) p.1, is, same))
    apart m n a b (inr p) (inr q) same = p.0 ∙ sym q.0

-- a frame that passes was made
made_if_sent : (u : UnitModel) (c : UnitCallAt) (t : Transmission)
    → frame_passed (unit_step u c.now c.call).answer ≡ Some t
    → (s : Transmission) × (made_by unit_kind u c ≡ Some s)
made_if_sent u c t passed = by (is_withheld u c) refl
  where
    sent : (frame_passed (unit_step u c.now c.call).answer ≡ None)
        ⊎ (frame_passed (unit_step u c.now c.call).answer
        ≡ world.frame_of (step_within u.station c.now c.call).answer)
        → (s : Transmission)
        × (world.frame_of (step_within u.station c.now c.call).answer ≡ Some s)
    sent (inl none) = absurd (none-some t (sym none ∙ passed))
    sent (inr same) = (t, sym same ∙ passed)

    by : (b : Bool) → is_withheld u c ≡ b → (s : Transmission)
        × (cond b None (world.frame_of (step_within u.station c.now c.call).answer) ≡ Some s)
    by true e = absurd (none-some t (sym (ap frame_passed (answer_withheld u c e)) ∙ passed))
    by false e =
        sent (part_frame (unit_step u c.now c.call).answer
        (step_within u.station c.now c.call).answer ((station_runs u).answers [] c e))

-- a call
once_called : (f : FleetModel UnitModel) (u : UnitModel) (c : UnitCallAt) → EachOnce f.made f.sent
    → EachOnce (with_one_more f.made (made_by unit_kind u c))
    (with_one_more f.sent
    (numbered (length f.made) (frame_passed (unit_step u c.now c.call).answer)))
once_called f u c h = by (frame_passed (unit_step u c.now c.call).answer) refl
  where
    by : (o : Option Transmission) → frame_passed (unit_step u c.now c.call).answer ≡ o
        → EachOnce (with_one_more f.made (made_by unit_kind u c))
        (with_one_more f.sent (numbered (length f.made) o))
    by None e = once_more_made f.made f.sent (made_by unit_kind u c) h
    by (Some t) e =
        let s = made_if_sent u c t e in
        let new : NumberedFrame = record { number = length f.made; frame = t } in
        subst (λ (o : Option Transmission). EachOnce (with_one_more f.made o) (f.sent ++ new ∷ []))
        (sym s.1) (once_sent f.made f.sent s.0 new refl h)

once_asked : (f : FleetModel UnitModel) (e : FleetEvent) (u : UnitModel) (o : Option Asked)
    → EachOnce f.made f.sent
    → EachOnce (called_if unit_kind f e u o).made (called_if unit_kind f e u o).sent
once_asked f e u None h = h
once_asked f e u (Some a) h = once_called f u (at_time e a) h

once_happened : (f : FleetModel UnitModel) (e : FleetEvent) (u : UnitModel) (what : FleetWhat)
    → EachOnce f.made f.sent
    → EachOnce (happened unit_kind f e u what).made (happened unit_kind f e u what).sent
once_happened f e u (FleetWhat.Calls call) h =
    once_asked f e u (asked f.sent (FleetWhat.Calls call)) h
once_happened f e u (FleetWhat.Deliver n) h =
    once_asked f e u (asked f.sent (FleetWhat.Deliver n)) h
once_happened f e u (FleetWhat.DeliverVerified n message) h =
    once_asked f e u (asked f.sent (FleetWhat.DeliverVerified n message)) h
once_happened f e u FleetWhat.Release h = h

once_at : (f : FleetModel UnitModel) (e : FleetEvent) (o : Option UnitModel)
    → EachOnce f.made f.sent
    → EachOnce (at_unit unit_kind f e o).made (at_unit unit_kind f e o).sent
once_at f e None h = h
once_at f e (Some u) h = once_happened f e u e.what h

once_run : (events : List FleetEvent) (f : FleetModel UnitModel) → EachOnce f.made f.sent
    → EachOnce (fleet_run unit_kind f events).made (fleet_run unit_kind f events).sent
once_run [] f h = h
once_run (e ∷ events) f h =
    once_run events (fleet_step unit_kind f e) (once_at f e (slice_get f.units e.unit) h)

pub sends_once : (units : List UnitModel) → SendsOnce units
sends_once units events =
    (once_run events (new_fleet units) (record {
      below = λ k a at. absurd (none-some a at);
      apart = λ m n a b at_m at_n same. absurd (none-some a at_m);
    })).apart
