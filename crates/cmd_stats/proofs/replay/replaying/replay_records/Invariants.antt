use Rattle.std.proofs.Common.{◌≡◌, []}
use Rattle.cmd_stats.specs.Listening.{Listening, Represents}
use Rattle.cmd_stats.specs.Replays.{IsReplaying}
use Rattle.cmd_stats.proofs.replay.replaying.replay_records.Given as goal

-- the unit received the records so far that are chosen
abbrev pub invariant-loop-records : goal.invariant-loop-records
invariant-loop-records g l = record {
  selection : l.records.selection ≡ l.selection;
  received : (m : Listening) → Represents l.fn.listener m
      → g.K.HeardSink.Took l.fn.sink []
      → IsReplaying g.S.RecordSource.GivesStep l.selection l.rules l.fn.source m l.records.source
      l.listener l.records.counts (g.K.HeardSink.Took l.sink);
}

abbrev pub decreases-loop-records : goal.decreases-loop-records
decreases-loop-records g l = l.records.counts.left
