-- The counts that a handle has.
use Rattle.std.specs.Prelude.{Option, Some, None}
use Rattle.its_station.specs.declared.counts.Counts.{Counts}
use Rattle.its_governor.specs.declared.governor.WithheldCounts.{WithheldCounts}
use Rattle.its_c.specs.declared.layout.AllCounts.{AllCounts}
use Rattle.its_contention.specs.Buffer.{no_counts}
use Rattle.its_contention.specs.declared.counts.ContentionCounts.{ContentionCounts}
use Rattle.its_c.specs.declared.layout.HeldCounts.{HeldCounts}
use Rattle.its_c.specs.declared.layout.ToldCounts.{ToldCounts}

-- the counts of C's struct, as the station's library has them
abbrev pub counts_of : ToldCounts → Counts
counts_of c =
    record {
      received = c.received;
      accepted = c.accepted;
      delivered = c.delivered;
      relayed = c.relayed;
      ignored = record {
        not_for_me = c.not_for_me;
        own_source = c.own_source;
        sender_mismatch = c.sender_mismatch;
        duplicate = c.duplicate;
      };
      refused = record {
        moment_earlier = c.moment_earlier;
        moment_too_late = c.moment_too_late;
        frame = c.frame;
        table_full = c.table_full;
        no_memory = c.no_memory;
        other = c.other;
      };
      sent = record {
        beacons = c.beacons;
        single_hop = c.single_hop;
        geobroadcasts = c.geobroadcasts;
        geoanycasts = c.geoanycasts;
      };
    }

-- of C's whole struct, what the limits withheld
abbrev pub withheld_in : AllCounts → WithheldCounts
withheld_in c =
    record { suppressed = c.suppressed; repeated = c.repeated; over_rate = c.over_rate }

-- the counts of held frames in C's struct, as the library of contention has them
abbrev pub held_counts_of : HeldCounts → ContentionCounts
held_counts_of c =
    record {
      held = c.held;
      released = c.released;
      cancelled = c.cancelled;
      dropped = c.dropped;
      full = c.full;
    }

-- those of a unit: all are 0 if it doesn't contend
abbrev pub or_none : Option ContentionCounts → ContentionCounts
or_none None = no_counts
or_none (Some c) = c
