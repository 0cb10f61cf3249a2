-- All that is promised of a unit.
use Rattle.its_governor.specs.declared.rate.Limits.{Limits}
use Rattle.its_unit.specs.Acts.{DeliveriesAreKept, RatesAreKept}
use Rattle.its_unit.specs.Outcomes.{CopiesComeFromOthers, ForwardsAreSettled}
use Rattle.its_unit.specs.Runs.{AreDelivered, AreWithin, CancelledByTheSameFrame, ForwardsAreCounted}
use Rattle.its_unit.specs.Runs.{IsFair, IsModelRun, IsStationRun, ReleasedIsWhatWouldBeSent}
use Rattle.its_unit.specs.Runs.{ReleasesAreWithin, StationsAreAsBefore}
use Rattle.its_unit.specs.Unit.{UnitModel}

-- What is promised of a unit that contends, beside what is promised of each unit.
pub record Contends (limits : Limits) (u : UnitModel) : Type 0 where
  pub stations_are_as_before : StationsAreAsBefore u
  pub released_is_what_would_be_sent : ReleasedIsWhatWouldBeSent u
  pub forwards_are_counted : ForwardsAreCounted u
  pub forwards_are_settled : ForwardsAreSettled u
  pub cancelled_by_the_same_frame : CancelledByTheSameFrame u
  pub copies_come_from_others : CopiesComeFromOthers u
  pub releases_are_within : ReleasesAreWithin limits u
  pub rates_are_kept : RatesAreKept limits u
  pub deliveries_are_kept : DeliveriesAreKept limits u

-- All that is promised of a unit with these limits.
pub record IsLawful (limits : Limits) (u : UnitModel) : Type 0 where
  pub station : IsStationRun u
  pub model : IsModelRun u
  pub within : AreWithin limits u
  pub deliveries : AreDelivered limits u
  pub fair : IsFair limits u
  pub contention : Contends limits u
