-- The time of a record as each format has it.
use Rattle.std.specs.Prelude.{ℕ, ◌+◌, ◌*◌, ◌/◌, ◌%◌, Some}
use Rattle.cap_pcap.specs.declared.pcap.Unit.{Unit}
use Rattle.cap_pcap.specs.declared.pcap.Unit.TheVariants as units
use Rattle.cap_pcap.specs.declared.record.RecordHeader.{RecordHeader}
use Rattle.cap_pcap.specs.declared.stamp.Stamp.{Stamp}

-- a time in whole milliseconds: in classic pcap millionths of a second
abbrev pub stamp_of : ℕ → Stamp
stamp_of moment = record { moment = moment; fraction = moment % 1000 * 1000; ticks = Some moment }

-- what is below the second, in the unit of a file: what is finer is cut
abbrev pub fraction_in : Unit → ℕ → ℕ → ℕ
fraction_in units.Micro millis nanos = millis * 1000 + nanos / 1000
fraction_in units.Nano millis nanos = millis * 1000000 + nanos

-- the time of a record, of which a nanosecond count is below a million
abbrev pub stamp_in : Unit → RecordHeader → Stamp
stamp_in unit h = record {
  moment = h.moment;
  fraction = fraction_in unit (h.moment % 1000) (h.fine.nanos % 1000000);
  ticks = h.fine.ticks;
}
