-- Requests, and what is sent for them.
use Rattle.std.proofs.Common.{◌≡◌, ℕ, refl}
use Rattle.its_model.specs.Packet.{AreaKind, geobroadcast, geoanycast, area_body}
use Rattle.its_model.specs.Calls.{GbcRequest, area_call}
use Rattle.its_model.specs.Station.{StationModel, performed, own_refusal, area_refusal, area_packet}
use Rattle.its_model.specs.Station.{after_numbering}
use Rattle.its_model.specs.Calls as model

-- a call for a packet for an area, done
pub performed_area : (kind : AreaKind) (s : StationModel) (t : ℕ) (r : GbcRequest)
    → performed s t (area_call kind r) ≡ record {
      answer = model.Answer.Sent
          (area_packet s t r (area_body kind s.next_number r.area r.message));
      station =
          after_numbering s t;
    }
performed_area geobroadcast s t r = refl
performed_area geoanycast s t r = refl

-- what it is refused for
pub refusal_area : (kind : AreaKind) (s : StationModel) (r : GbcRequest)
    → own_refusal s (area_call kind r) ≡ area_refusal r
refusal_area geobroadcast s r = refl
refusal_area geoanycast s r = refl
