use Rattle.std.proofs.Common.{Option, subst, sym}
use Rattle.its_faults.specs.declared.frame.FrameFault.{FrameFault}
use Rattle.cmd_stats.specs.Readings.{IsReading}
use Rattle.cmd_stats.proofs.Readings.{reading}
use Rattle.cmd_stats.proofs.replay.on_air.OnAir.heard.Goals as goal

pub new-requires : goal.new-requires
new-requires c =
    subst (λ (o : Option FrameFault). IsReading c.in_ok-heard.heard.items o)
    (sym c.err.ensures.value)
    (reading c.in_ok-heard.heard.items c.args.read.octets.now c.args.read.frame
    c.in_ok-heard.ensures c.requires.found c.requires.fault)
