-- A packet that is forwarded inside of its area.
use Rattle.std.proofs.Common.{◌≡◌, ℕ, List, Option, Some, None, Bool, true, not, cond, ◌&&◌}
use Rattle.std.proofs.Common.{refl, sym, subst}
use Rattle.std.specs.Prelude.{Vec, nat_le}
use Rattle.std.specs.declared.alloc.Global.{Global}
use Rattle.its_gnvalue.specs.Values.{broadcast, mid_of}
use Rattle.its_geometry.specs.Area.{GeoArea, area_holds}
use Rattle.its_model.specs.Packet.{Body, beacon, shb, gbc, gac, Transmission, relay}
use Rattle.its_model.specs.Decision.{Decision, Broadcast}
use Rattle.its_model.specs.History.{Reception}
use Rattle.its_model.specs.Stations.{stations_at}
use Rattle.its_model.specs.Station.{StationModel, decided, relayed, sent_on}
use Rattle.its_forwarding.proofs.Decisions.{decision_is}
use Rattle.its_station.specs.State.{StationState, model_of}
use Rattle.its_station.specs.Receiving.{Encoded, IsRelayBy, copy_of, is_inside}

-- inside of the area the decision is to send to all
to_all : (s : StationModel) (now : ℕ) (area : GeoArea) (sender : Option ℕ)
    → area_holds area s.vector.place ≡ true → decided s now area sender ≡ Broadcast
to_all s now area sender inside =
    decision_is (stations_at s.remember now s.history) s.vector.place area sender true _ inside refl

-- so a copy to all is what is sent on
pub relayed_inside : (E : Encoded) (st : StationState) (ports : List ℕ) (history : List Reception)
    (now : ℕ) (t : Transmission) (b : Body) (w : Vec ℕ Global)
    → is_inside st.vector.place b ≡ true → IsRelayBy E (Some w) (copy_of st.vector t b)
    → IsRelayBy E (Some w) (relayed (model_of st ports history) now t b)
relayed_inside E st ports history now t beacon w inside h = absurd h
relayed_inside E st ports history now t (shb media message) w inside h = absurd h
relayed_inside E st ports history now t (gbc number area message) w inside h =
    subst (λ (d : Decision). IsRelayBy E (Some w)
    (cond (nat_le 2 t.hops_left) (sent_on (model_of st ports history) t d) None))
    (sym (to_all (model_of st ports history) now area (Some t.link_source) inside)) h
relayed_inside E st ports history now t (gac number area message) w inside h =
    absurd (subst (λ (holds : Bool). IsRelayBy E (Some w)
    (cond (not holds && nat_le 2 t.hops_left)
    (Some (relay t (mid_of st.vector.address) broadcast)) None))
    inside h)
