use Rattle.its_governor.specs.declared.rate.TheConstants.Limits.{CHANNEL}
use Rattle.cmd_stats.specs.Units.{begun}
use Rattle.cmd_stats.proofs.Begun.{begins}
use Rattle.cmd_stats.proofs.replay.unit.ReplayUnit.begin.Goals as goal

pub returns : goal.returns
returns c =
    begins CHANNEL (begun c.args.self.now) c.in_ok-station.station c.new.result
    c.in_ok-station.ensures c.new.ensures.station c.new.ensures.limits c.new.ensures.contention
