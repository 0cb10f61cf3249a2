-- A station that contends: its station is as before.
use Rattle.std.proofs.Common.{◌≡◌, List, [], ◌∷◌, refl, ap}
use Rattle.its_model.specs.Station.{StationModel, station_step}
use Rattle.its_model.specs.Isolation.{station_run}
use Rattle.its_model.specs.Contention.{ContentionRule}
use Rattle.its_model.specs.Contender.{Keeping, Contender, TimedAct, after_act, contender_run}
use Rattle.its_model.specs.Contender.{fate_at, passed_by, calls_in, StationsAreAsBefore}
use Rattle.its_model.specs.Contender.TimedAct.{Asks, ReleasesAt}

-- the station after acts
station_after : {M F : Type 0} (acts : List (TimedAct M)) (r : ContentionRule) (k : Keeping M F)
    (c : Contender F)
    → (contender_run r k c acts).station ≡ station_run c.station (calls_in acts)
station_after [] r k c = refl
station_after (Asks call beside ∷ acts) r k c =
    station_after acts r k (after_act r k c (Asks call beside))
station_after (ReleasesAt now ∷ acts) r k c =
    station_after acts r k (after_act r k c (ReleasesAt now))

pub stations_are_as_before : {M F : Type 0} (r : ContentionRule) (k : Keeping M F)
    (c : Contender F) → StationsAreAsBefore r k c
stations_are_as_before r k c =
    record {
      station = λ acts. station_after acts r k c;
      answers = λ acts call. ap (λ (s : StationModel).
          passed_by (station_step s call.moment call.call).answer
          (fate_at r (contender_run r k c acts) call)) (station_after acts r k c);
    }
