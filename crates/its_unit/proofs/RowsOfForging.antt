-- What a forger can do although all entities are sound: small runs, evaluated. He sets lifetime, hops
-- and link addresses of a frame, and when it arrives.
use Rattle.std.proofs.Common.{◌≡◌, ℕ, zero, suc, ◌<◌, ◌≤◌, List, [], ◌∷◌, ◌++◌, map, Some, None}
use Rattle.std.proofs.Common.{true, ltb, refl, arith}
use Rattle.std.specs.Prelude.{pos, ◌+◌, ◌*◌, ◌^◌, slice_get, slice_index}
use Rattle.std.proofs.lemmas.Bool.{ltb-true}
use Rattle.its_geometry.specs.declared.area.Shape.TheVariants.{Circle}
use Rattle.its_geometry.specs.Area.{area_holds}
use Rattle.its_geometry.specs.Offsets.{squared_distance}
use Rattle.its_gnvalue.specs.Values.{Position, broadcast}
use Rattle.its_model.specs.History.{known}
use Rattle.its_model.specs.Packet.{Message, Transmission, relay}
use Rattle.its_model.specs.Calls as model
use Rattle.its_model.specs.Calls.{GbcRequest}
use Rattle.its_model.specs.Stations.{stations_at}
use Rattle.its_model.specs.Decision.{decision}
use Rattle.its_model.specs.Station.{StationModel, new_station, gbc_of, own_step, receive_step, verdict}
use Rattle.its_headers.specs.Encoding.{common_header, extended_header, IsPacket}
use Rattle.its_headers.proofs.FieldTests.{latitude_from_test, longitude_from_test, speed_fits}
use Rattle.its_linkframe.specs.Secured.{Verified, EncodesVerified, sealed, secured_octets}
use Rattle.its_station.specs.Receiving.{VerifiedCall}
use Rattle.its_governor.specs.declared.governor.Governor.{Governor}
use Rattle.its_unit.specs.Unit.{UnitModel, UnitCall, UnitAnswer}
use Rattle.its_unit.specs.Signed.{SignedWhat, SignedEvent, SignedLine, SignedModel, new_signed}
use Rattle.its_unit.specs.Signed.{AreSound, WasSealed, IsPlainPart}
use Rattle.its_unit.specs.SignedLaws.{signed_after}

-- ---- two units without limits, a warning of the first, and copies of it

-- the MACs 020000000001 and 020000000002, and the addresses 1400 before them
abbrev mac : ℕ → ℕ
mac n = 2 * 2 ^ 40 + n

abbrev address : ℕ → ℕ
address n = 5120 * 2 ^ 48 + mac n

abbrev here : Position
here = record { latitude = pos 0; longitude = pos 0 }

abbrev near : Position
near = record { latitude = pos 449; longitude = pos 0 }

abbrev far : Position
far = record { latitude = pos 100000; longitude = pos 0 }

abbrev hi : Message
hi = record { port = 2002; info = 0; payload = 104 ∷ 105 ∷ [] }

-- a geobroadcast of hi to 100 m round (0, 0), over ten hops
abbrev request : GbcRequest
request = record {
  class = 0;
  lifetime = 26;
  max_hops = 10;
  area = record { shape = Circle; centre = here; a = 100; b = 0; angle = 0 };
  message = hi;
}

abbrev no_limits : Governor
no_limits = record {
  forward = None;
  sources = None;
  shares = None;
  own = None;
  hop_cap = 255;
  delivered = None;
  counts = record { suppressed = 0; repeated = 0; over_rate = 0 };
}

abbrev unit_of : ℕ → Position → UnitModel
unit_of n where_it_is = record {
  station = new_station (address n) where_it_is 64 8;
  contention = None;
  governor = no_limits;
}

abbrev two : List UnitModel
two = unit_of 1 here ∷ unit_of 2 near ∷ []

-- the second one outside of the area
abbrev second_far : List UnitModel
second_far = unit_of 1 here ∷ unit_of 2 far ∷ []

-- the first one, where it stands by an accurate fix
abbrev warner : StationModel
warner = record (new_station (address 1) here 64 8) {
  clock = 900;
  vector = record {
    address = address 1;
    timestamp = 900;
    place = here;
    accurate = true;
    speed = pos 0;
    heading = 0;
  };
}

abbrev warning : Transmission
warning = gbc_of warner 1000 request

abbrev message : List ℕ
message = 7 ∷ []

abbrev plain : List ℕ
plain = common_header warning.pdu ++ extended_header warning.pdu.vector warning.pdu.body

-- a copy from a link address, with so many hops left
abbrev copy_from : ℕ → ℕ → Verified
copy_from sender hops = record {
  frame = record warning { hops_left = hops; link_source = sender };
  message = message;
}

abbrev copy : ℕ → Verified
copy hops = copy_from (mac 1) hops

abbrev moves : SignedEvent
moves = record {
  unit = 0;
  now = 900;
  what = SignedWhat.Asks (UnitCall.Own (model.OwnCall.Move here true (pos 0) 0)) [];
}

abbrev warns : SignedEvent
warns = record {
  unit = 0;
  now = 1000;
  what = SignedWhat.Asks (UnitCall.Own (model.OwnCall.SendGbc request)) message;
}

abbrev opens : SignedEvent
opens = record {
  unit = 1;
  now = 1000;
  what = SignedWhat.Asks (UnitCall.Own (model.OwnCall.Open 2002)) [];
}

abbrev restarts : ℕ → SignedEvent
restarts now = record {
  unit = 1;
  now = now;
  what = SignedWhat.Asks (UnitCall.Own (model.OwnCall.Restart 0)) [];
}

abbrev reopens : SignedEvent
reopens = record {
  unit = 1;
  now = 2000;
  what = SignedWhat.Asks (UnitCall.Own (model.OwnCall.Open 2002)) [];
}

abbrev arrives_from : ℕ → ℕ → ℕ → SignedEvent
arrives_from sender now hops = record {
  unit = 1;
  now = now;
  what = SignedWhat.Arrives (secured_octets (sealed (copy_from sender hops).frame message)) plain
      (VerifiedCall.Came (copy_from sender hops));
}

abbrev arrives : ℕ → ℕ → SignedEvent
arrives now hops = arrives_from (mac 1) now hops

abbrev answers : SignedModel → List UnitAnswer
answers f = map (λ (line : SignedLine). line.answer) f.log

-- ---- what happens in them

-- A copy with one hop left comes first. It is delivered, and the warning goes on nowhere: the frame
-- with ten hops is a duplicate.
silenced : answers (signed_after two (moves ∷ opens ∷ warns ∷ arrives 1001 1 ∷ arrives 1002 10 ∷ []))
    ≡ UnitAnswer.Passed (model.Answer.Ignored model.Why.Duplicate)
    ∷ UnitAnswer.Passed (model.Answer.Accepted (Some hi) None)
    ∷ UnitAnswer.Passed (model.Answer.Sent warning)
    ∷ UnitAnswer.Passed model.Answer.Opened ∷ UnitAnswer.Passed model.Answer.Moved ∷ []
unfolding own_step receive_step verdict known stations_at decision area_holds squared_distance
silenced = refl

-- Without that copy the warning goes on.
goes_on : answers (signed_after two (moves ∷ opens ∷ warns ∷ arrives 1002 10 ∷ []))
    ≡ UnitAnswer.Passed (model.Answer.Accepted (Some hi) (Some (relay warning (mac 2) broadcast)))
    ∷ UnitAnswer.Passed (model.Answer.Sent warning)
    ∷ UnitAnswer.Passed model.Answer.Opened ∷ UnitAnswer.Passed model.Answer.Moved ∷ []
unfolding own_step receive_step verdict known stations_at decision area_holds squared_distance
goes_on = refl

-- A recorded frame is delivered again after a restart, if the entity returns its plain part again.
again_after_a_restart : answers (signed_after two
    (moves ∷ opens ∷ warns ∷ arrives 1002 10 ∷ restarts 2000 ∷ reopens ∷ arrives 2001 1 ∷ []))
    ≡ UnitAnswer.Passed (model.Answer.Accepted (Some hi) None)
    ∷ UnitAnswer.Passed model.Answer.Opened
    ∷ UnitAnswer.Passed model.Answer.Restarted
    ∷ UnitAnswer.Passed (model.Answer.Accepted (Some hi) (Some (relay warning (mac 2) broadcast)))
    ∷ UnitAnswer.Passed (model.Answer.Sent warning)
    ∷ UnitAnswer.Passed model.Answer.Opened ∷ UnitAnswer.Passed model.Answer.Moved ∷ []
unfolding own_step receive_step verdict known stations_at decision area_holds squared_distance
again_after_a_restart = refl

-- So it is 20 s after it came, when its source is forgotten.
again_when_forgotten : answers (signed_after two
    (moves ∷ opens ∷ warns ∷ arrives 1002 10 ∷ arrives 21002 1 ∷ []))
    ≡ UnitAnswer.Passed (model.Answer.Accepted (Some hi) None)
    ∷ UnitAnswer.Passed (model.Answer.Accepted (Some hi) (Some (relay warning (mac 2) broadcast)))
    ∷ UnitAnswer.Passed (model.Answer.Sent warning)
    ∷ UnitAnswer.Passed model.Answer.Opened ∷ UnitAnswer.Passed model.Answer.Moved ∷ []
unfolding own_step receive_step verdict known stations_at decision area_holds squared_distance
again_when_forgotten = refl

-- Outside of the area: a copy that a station outside sent goes on.
onward : answers (signed_after second_far (moves ∷ opens ∷ warns ∷ arrives_from (mac 3) 1002 9 ∷ []))
    ≡ UnitAnswer.Passed (model.Answer.Accepted None (Some (relay (copy_from (mac 3) 9).frame (mac 2) broadcast)))
    ∷ UnitAnswer.Passed (model.Answer.Sent warning)
    ∷ UnitAnswer.Passed model.Answer.Opened ∷ UnitAnswer.Passed model.Answer.Moved ∷ []
unfolding own_step receive_step verdict known stations_at decision area_holds squared_distance
onward = refl

-- If its link sender is a station that stands inside, it goes on nowhere: and so the copy that a
-- station outside sends.
false_sender : answers (signed_after second_far
    (moves ∷ opens ∷ warns ∷ arrives_from (mac 1) 1001 9 ∷ arrives_from (mac 3) 1002 9 ∷ []))
    ≡ UnitAnswer.Passed (model.Answer.Ignored model.Why.Duplicate)
    ∷ UnitAnswer.Passed (model.Answer.Accepted None None)
    ∷ UnitAnswer.Passed (model.Answer.Sent warning)
    ∷ UnitAnswer.Passed model.Answer.Opened ∷ UnitAnswer.Passed model.Answer.Moved ∷ []
unfolding own_step receive_step verdict known stations_at decision area_holds squared_distance
false_sender = refl

-- ---- these runs are sound

lt : (a b : ℕ) → ltb a b ≡ true → a < b
lt a b h = ltb-true a b h

hi_bytes : (i : ℕ) → slice_index (104 ∷ 105 ∷ []) i < 256
hi_bytes zero = lt 104 256 refl
hi_bytes (suc zero) = lt 105 256 refl
hi_bytes (suc (suc i)) = lt 0 256 refl

-- the fields of the warning are in range, with so many hops left
fields : (hops : ℕ) → 0 < hops → hops ≤ 10 → IsPacket warning.pdu hops
fields hops some few = record {
  lifetime = lt _ _ refl;
  class = lt _ _ refl;
  some_left = some;
  left_below = few;
  max_hops = lt _ _ refl;
  vector = record {
    address = lt _ _ refl;
    individual = refl;
    timestamp = lt _ _ refl;
    latitude = latitude_from_test (pos 0) refl;
    longitude = longitude_from_test (pos 0) refl;
    speed = speed_fits 0 (lt 0 (2 ^ 15) refl);
    heading = lt _ _ refl;
  };
  body = (
    lt _ _ refl,
    record {
      latitude = latitude_from_test (pos 0) refl;
      longitude = longitude_from_test (pos 0) refl;
      a = lt _ _ refl;
      b = lt _ _ refl;
      measures = (lt _ _ refl, refl, refl);
    },
    record { port = lt _ _ refl; info = lt _ _ refl; size = omega arith; bytes = hi_bytes },
  );
}

part : (sender hops : ℕ) → 0 < hops → hops ≤ 10 → IsPlainPart (copy_from sender hops).frame plain
part sender hops some few = record { fields = fields hops some few; octets = refl }

read : (sender hops : ℕ) → sender < 2 ^ 48 → 0 < hops → hops ≤ 10
    → EncodesVerified (copy_from sender hops)
    (secured_octets (sealed (copy_from sender hops).frame message)) plain
unfolding known stations_at decision area_holds squared_distance
read sender hops short some few = record {
  secured = record {
    fields = record {
      target = lt _ _ refl;
      source = short;
      lifetime = lt _ _ refl;
      some_left = some;
      left = omega (arith, few);
      some = lt _ _ refl;
      short = omega arith;
    };
    octets = refl;
  };
  packet = part sender hops some few;
}

from_first : (hops : ℕ) → 0 < hops → hops ≤ 10
    → EncodesVerified (copy hops) (secured_octets (sealed (copy hops).frame message)) plain
from_first hops some few = read (mac 1) hops (lt _ _ refl) some few

-- the warning was sealed, as a line of a log says
was_sealed : (log : List SignedLine) (k : ℕ)
    → slice_get log k ≡ Some (record {
      event = warns;
      answer = UnitAnswer.Passed (model.Answer.Sent warning);
    })
    → WasSealed log plain message
was_sealed log k at = record {
  line = record { event = warns; answer = UnitAnswer.Passed (model.Answer.Sent warning) };
  call = UnitCall.Own (model.OwnCall.SendGbc request);
  frame = warning;
  logged = (k, at);
  asked = refl;
  answer = refl;
  part = part (mac 1) 10 (lt 0 10 refl) (omega arith);
}

silenced_is_sound : AreSound (new_signed two) (moves ∷ opens ∷ warns ∷ arrives 1001 1 ∷ arrives 1002 10 ∷ [])
unfolding own_step receive_step verdict known stations_at decision area_holds squared_distance
silenced_is_sound = (
  refl,
  (
    refl,
    (
      refl,
      (
        (from_first 1 (lt 0 1 refl) (omega arith), was_sealed _ 0 refl),
        ((from_first 10 (lt 0 10 refl) (omega arith), was_sealed _ 1 refl), tt),
      ),
    ),
  ),
)

again_is_sound : AreSound (new_signed two)
    (moves ∷ opens ∷ warns ∷ arrives 1002 10 ∷ restarts 2000 ∷ reopens ∷ arrives 2001 1 ∷ [])
unfolding own_step receive_step verdict known stations_at decision area_holds squared_distance
again_is_sound = (
  refl,
  (
    refl,
    (
      refl,
      (
        (from_first 10 (lt 0 10 refl) (omega arith), was_sealed _ 0 refl),
        (refl, (refl, ((from_first 1 (lt 0 1 refl) (omega arith), was_sealed _ 3 refl), tt))),
      ),
    ),
  ),
)

forgotten_is_sound : AreSound (new_signed two)
    (moves ∷ opens ∷ warns ∷ arrives 1002 10 ∷ arrives 21002 1 ∷ [])
unfolding own_step receive_step verdict known stations_at decision area_holds squared_distance
forgotten_is_sound = (
  refl,
  (
    refl,
    (
      refl,
      (
        (from_first 10 (lt 0 10 refl) (omega arith), was_sealed _ 0 refl),
        ((from_first 1 (lt 0 1 refl) (omega arith), was_sealed _ 1 refl), tt),
      ),
    ),
  ),
)

false_sender_is_sound : AreSound (new_signed second_far)
    (moves ∷ opens ∷ warns ∷ arrives_from (mac 1) 1001 9 ∷ arrives_from (mac 3) 1002 9 ∷ [])
unfolding own_step receive_step verdict known stations_at decision area_holds squared_distance
false_sender_is_sound = (
  refl,
  (
    refl,
    (
      refl,
      (
        (from_first 9 (lt 0 9 refl) (omega arith), was_sealed _ 0 refl),
        ((read (mac 3) 9 (lt _ _ refl) (lt 0 9 refl) (omega arith), was_sealed _ 1 refl), tt),
      ),
    ),
  ),
)
