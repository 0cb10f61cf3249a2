use Rattle.std.proofs.Common.{◌≡◌, ℕ, ◌≤◌, ◌<◌, ◌+◌, ◌⊎◌, max, ap, subst, ◌∙◌, arith}
use Rattle.its_model.specs.Calls.Answer.{Sent, Quiet, Refused}
use Rattle.its_model.specs.Calls.OwnCall.{Tick}
use Rattle.its_model.specs.Calls.Refusal.{MomentEarlier}
use Rattle.its_model.specs.Station.{StationModel, own_step, beacon_of}
use Rattle.its_station.specs.State.{StationState}
use Rattle.its_station.proofs.Stations.{at_model}
use Rattle.its_station.proofs.Beacons.{beacon_due_with, beacon_early_with}
use Rattle.its_station.proofs.station.Station.beacon_at.Goals as goal

-- of what the station keeps, as contracts see it
later_of : (a b j a' b' j' result : ℕ) → result ≡ max (a + j) b → a ≡ a' → b ≡ b' → j ≡ j'
    → result ≡ max (a' + j') b'
later_of a b j a' b' j' result is e f g = is ∙ (λ i. max (e i + g i) (f i))

upper : (a b n : ℕ) → max a b ≤ n → (a ≤ n) × (b ≤ n)
upper a b n le = (omega (arith, le), omega (arith, le))

below : (a b n : ℕ) → n < max a b → b ≤ n → n < a
below a b n lt le = omega (arith, lt, le)

pub returns-clause-due : goal.returns-clause-due
returns-clause-due g c = λ s now rep short le to.
    at_model c.args.self.now
    (λ (m : StationModel). (own_step m now (Tick c.args.jitter)).answer ≡ Sent (beacon_of m))
    (λ ports history past.
    let st = c.args.self.now in
    let is = later_of _ _ _ st.beacon_from st.clock c.args.jitter _ c.max.ensures
    (ap (λ (x : StationState). x.beacon_from) c.self.view_is)
    (ap (λ (x : StationState). x.clock) c.self.view_is) c.from.ensures in
    let both = upper (st.beacon_from + c.args.jitter) st.clock now
    (subst (λ (n : ℕ). n ≤ now) is le) in
    beacon_due_with _ now c.args.jitter short both.1 both.0 to) s rep

pub returns-clause-early : goal.returns-clause-early
returns-clause-early g c = λ s now rep short lt to.
    at_model c.args.self.now
    (λ (m : StationModel). ((own_step m now (Tick c.args.jitter)).answer ≡ Quiet)
    ⊎ ((own_step m now (Tick c.args.jitter)).answer ≡ Refused MomentEarlier))
    (λ ports history past.
    let st = c.args.self.now in
    let is = later_of _ _ _ st.beacon_from st.clock c.args.jitter _ c.max.ensures
    (ap (λ (x : StationState). x.beacon_from) c.self.view_is)
    (ap (λ (x : StationState). x.clock) c.self.view_is) c.from.ensures in
    beacon_early_with _ now c.args.jitter short
    (below (st.beacon_from + c.args.jitter) st.clock now (subst (λ (n : ℕ). now < n) is lt)) to)
    s rep
