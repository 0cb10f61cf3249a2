-- What is not true of fleets whose units contend: small runs, evaluated.
use Rattle.std.proofs.Common.{◌≡◌, ℕ, List, [], ◌∷◌, map, Option, Some, None, true, refl}
use Rattle.std.specs.Prelude.{pos, ◌+◌, ◌*◌, ◌^◌}
use Rattle.its_geometry.specs.declared.area.Shape.TheVariants.{Circle}
use Rattle.its_geometry.specs.Area.{area_holds}
use Rattle.its_geometry.specs.Offsets.{squared_distance}
use Rattle.its_gnvalue.specs.Values.{Position}
use Rattle.its_model.specs.History.{known}
use Rattle.its_model.specs.Calls as model
use Rattle.its_model.specs.Contention.{shorter, wait}
use Rattle.its_model.specs.Stations.{stations_at}
use Rattle.its_model.specs.Decision.{decision}
use Rattle.its_model.specs.Station.{new_station, own_step, receive_step, verdict}
use Rattle.its_contention.specs.Buffer.{Buffer, empty}
use Rattle.its_contention.specs.Waiting.{Waiting}
use Rattle.its_governor.specs.declared.governor.Governor.{Governor}
use Rattle.its_unit.specs.Unit.{UnitModel}
use Rattle.its_unit.specs.Fleets.{FleetEvent, FleetWhat, NumberedFrame}
use Rattle.its_unit.specs.Holding.{contending_after}

-- ---- three units without limits: one that warns, one that contends, and one that does not

abbrev here : Position
here = record { latitude = pos 0; longitude = pos 0 }

abbrev near : Position
near = record { latitude = pos 449; longitude = pos 0 }

abbrev no_limits : Governor
no_limits = record {
  forward = None;
  sources = None;
  shares = None;
  own = None;
  hop_cap = 255;
  delivered = None;
  counts = record { suppressed = 0; repeated = 0; over_rate = 0 };
}

-- the addresses 1400020000000001 to 1400020000000003
abbrev unit_of : ℕ → Position → Option (Buffer Waiting) → UnitModel
unit_of n place contention = record {
  station = new_station (5120 * 2 ^ 48 + (2 * 2 ^ 40 + n)) place 64 8;
  contention = contention;
  governor = no_limits;
}

abbrev three : List UnitModel
three =
    unit_of 1 here None
    ∷ unit_of 2 near
    (Some (empty (record { min_wait = 1; max_wait = 100; range = 1000; copies = 1 })))
    ∷ unit_of 3 near None ∷ []

-- a geobroadcast to 100 m round (0, 0)
abbrev warns : FleetWhat
warns =
    FleetWhat.Calls (model.OwnCall.SendGbc (record {
      class = 0;
      lifetime = 26;
      max_hops = 10;
      area = record { shape = Circle; centre = here; a = 100; b = 0; angle = 0 };
      message = record { port = 2002; info = 0; payload = 104 ∷ 105 ∷ [] };
    }))

abbrev at : ℕ → ℕ → FleetWhat → FleetEvent
at unit moment what = record { unit = unit; moment = moment; what = what }

-- Both receive the warning, and the one that contends releases its frame at a time.
abbrev released_at : ℕ → List FleetEvent
released_at now =
    at 0 900 (FleetWhat.Calls (model.OwnCall.Move here true (pos 0) 0)) ∷ at 0 1000 warns
    ∷ at 1 1001 (FleetWhat.Deliver 0) ∷ at 2 1001 (FleetWhat.Deliver 0)
    ∷ at 1 now FleetWhat.Release ∷ []

-- the numbers of the frames that were sent
abbrev numbers_sent : List FleetEvent → List ℕ
numbers_sent events =
    map (λ (f : NumberedFrame). f.number) (contending_after three events).sent

-- Frames are not sent in the order in which they were made: the one that waited comes last.
out_of_order : numbers_sent (released_at 1102) ≡ 0 ∷ 2 ∷ 1 ∷ []
unfolding own_step receive_step verdict known stations_at decision area_holds squared_distance
    shorter wait
out_of_order = refl

-- Not each frame that was made is sent: asked for too late, the one that waited is dropped.
asked_too_late : numbers_sent (released_at 3000) ≡ 0 ∷ 2 ∷ []
unfolding own_step receive_step verdict known stations_at decision area_holds squared_distance
    shorter wait
asked_too_late = refl

-- Nor is it sent before it is due.
asked_too_early : numbers_sent (released_at 1001) ≡ 0 ∷ 2 ∷ []
unfolding own_step receive_step verdict known stations_at decision area_holds squared_distance
    shorter wait
asked_too_early = refl
