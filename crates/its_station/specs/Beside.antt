-- Steps of a station beside those of the model's calls: a move whose time stamp is that of the fix,
-- and a single-hop broadcast with a lifetime and media-dependent data of its own.
use Rattle.std.specs.Prelude.{ℕ, ℤ, [], ◌∷◌, Bool, Option, Some, None}
use Rattle.its_gnvalue.specs.Values.{Position}
use Rattle.its_model.specs.Packet.{Transmission, shb}
use Rattle.its_model.specs.Calls as model
use Rattle.its_model.specs.Calls.{Refusal, ShbRequest}
use Rattle.its_model.specs.Station.{StationModel, Step, moment_refusal, payload_refusal, first}
use Rattle.its_model.specs.Station.{shb_of, after_sending}
use Rattle.its_station.specs.declared.requests.ShbOptions.{ShbOptions}

-- refused, and then nothing changes, or done
abbrev pub step_by : StationModel → Option Refusal → Step → Step
step_by s (Some refusal) done = record { answer = model.Answer.Refused refusal; station = s }
step_by s None done = done

-- the station after a move whose place is of another moment, that of this time stamp
abbrev pub stands_at : StationModel → ℕ → ℕ → Position → Bool → ℤ → ℕ → StationModel
stands_at s moment timestamp place accurate speed heading =
    record s {
      clock = moment;
      vector = record {
        address = s.address;
        timestamp = timestamp;
        place = place;
        accurate = accurate;
        speed = speed;
        heading = heading;
      };
    }

-- such a move: its moment is checked
abbrev pub move_at_step : StationModel → ℕ → ℕ → Position → Bool → ℤ → ℕ → Step
move_at_step s moment timestamp place accurate speed heading =
    step_by s (moment_refusal s moment) (record {
      answer = model.Answer.Moved;
      station = stands_at s moment timestamp place accurate speed heading;
    })

-- those of the model's single-hop broadcast: 60 s (profile), and zeros
abbrev pub default_options : ShbOptions
default_options = record { lifetime = 26; media = 0 ∷ 0 ∷ 0 ∷ 0 ∷ [] }

-- a single-hop broadcast with this lifetime octet and these octets of media-dependent data
abbrev pub shb_for : StationModel → ShbOptions → ShbRequest → Transmission
shb_for s options r = record (shb_of s r) {
  pdu = record (shb_of s r).pdu {
    lifetime = options.lifetime;
    body = shb options.media r.message;
  };
}

-- why a single-hop broadcast is refused, if it is
abbrev pub shb_refusal : StationModel → ℕ → ShbRequest → Option Refusal
shb_refusal s moment r = first (moment_refusal s moment) (payload_refusal r.message)

-- it is sent, unless it is refused as one of the model is
abbrev pub send_shb_for_step : StationModel → ℕ → ShbOptions → ShbRequest → Step
send_shb_for_step s moment options r =
    step_by s (shb_refusal s moment r) (record {
      answer = model.Answer.Sent (shb_for s options r);
      station = after_sending s moment;
    })
