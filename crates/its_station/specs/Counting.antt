-- Which counts go up.
use Rattle.std.specs.Prelude.{ℕ, ◌+◌, ◌-◌, ◌^◌, min, Bool}
use Rattle.std.specs.Prelude.{Result, Ok, Err, Option, Some, None, Vec, is_some, if◌then◌else◌}
use Rattle.std.specs.declared.alloc.Global.{Global}
use Rattle.its_gnvalue.specs.declared.fault.NoMemory.{NoMemory}
use Rattle.its_headers.specs.declared.kind.Kind.{Kind}
use Rattle.its_headers.specs.declared.kind.Kind.TheVariants as kinds
use Rattle.its_station.specs.declared.counts.Counts.{Counts}
use Rattle.its_station.specs.declared.counts.IgnoredCounts.{IgnoredCounts}
use Rattle.its_station.specs.declared.counts.RefusedCounts.{RefusedCounts}
use Rattle.its_station.specs.declared.counts.SentCounts.{SentCounts}
use Rattle.its_station.specs.declared.outcome.Outcome.{Outcome}
use Rattle.its_station.specs.declared.outcome.Outcome.TheVariants as outcomes
use Rattle.its_station.specs.declared.outcome.Why.{Why}
use Rattle.its_station.specs.declared.outcome.Why.TheVariants as why
use Rattle.its_station.specs.declared.answer.Answer.TheVariants as answers
use Rattle.its_station.specs.declared.call.Call.{Call}
use Rattle.its_station.specs.declared.call.Call.TheVariants as calls
use Rattle.its_station.specs.declared.call.OwnCall.{OwnCall}
use Rattle.its_station.specs.declared.call.OwnCall.TheVariants as own_calls
use Rattle.its_station.specs.declared.refused.Refused.{Refused}
use Rattle.its_station.specs.declared.refused.Refused.TheVariants as refused
use Rattle.its_station.specs.Answers.{StationAnswer}

-- one more, up to the greatest number
abbrev pub one_more : ℕ → ℕ
one_more n = min (n + 1) (2 ^ 64 - 1)

-- all counts at 0
abbrev pub nothing : Counts
nothing =
    record {
      received = 0;
      accepted = 0;
      delivered = 0;
      relayed = 0;
      ignored = record { not_for_me = 0; own_source = 0; sender_mismatch = 0; duplicate = 0 };
      refused = record {
        moment_earlier = 0;
        moment_too_late = 0;
        frame = 0;
        table_full = 0;
        no_memory = 0;
        other = 0;
      };
      sent = record { beacons = 0; single_hop = 0; geobroadcasts = 0; geoanycasts = 0 };
    }

-- of what is ignored, the reason's
abbrev pub counted_ignored : Why → IgnoredCounts → IgnoredCounts
counted_ignored why.NotForMe c = record c { not_for_me = one_more c.not_for_me }
counted_ignored why.OwnSource c = record c { own_source = one_more c.own_source }
counted_ignored why.SenderMismatch c = record c { sender_mismatch = one_more c.sender_mismatch }
counted_ignored why.Duplicate c = record c { duplicate = one_more c.duplicate }

-- of what is refused, the code's
abbrev pub counted_refused : Refused → RefusedCounts → RefusedCounts
counted_refused refused.MomentEarlier c = record c { moment_earlier = one_more c.moment_earlier }
counted_refused refused.MomentTooLate c = record c { moment_too_late = one_more c.moment_too_late }
counted_refused (refused.Frame fault) c = record c { frame = one_more c.frame }
counted_refused (refused.Secured fault) c = record c { frame = one_more c.frame }
counted_refused refused.TableFull c = record c { table_full = one_more c.table_full }
counted_refused refused.NoMemory c = record c { no_memory = one_more c.no_memory }
counted_refused refused.JitterRange c = record c { other = one_more c.other }
counted_refused (refused.Port fault) c = record c { other = one_more c.other }
counted_refused refused.PayloadTooLong c = record c { other = one_more c.other }
counted_refused refused.HopLimitZero c = record c { other = one_more c.other }

-- one more call that was refused
abbrev pub counted_refusal : Refused → Counts → Counts
counted_refusal r c = record c { refused = counted_refused r c.refused }

-- one more accepted, and one more delivered and relayed where it was
abbrev pub counted_accepted : Bool → Bool → Counts → Counts
counted_accepted delivered relayed c =
    record c {
      accepted = one_more c.accepted;
      delivered = if delivered then one_more c.delivered else c.delivered;
      relayed = if relayed then one_more c.relayed else c.relayed;
    }

-- by what became of a frame
abbrev pub counted_outcome : Result Outcome Refused → Counts → Counts
counted_outcome (Ok (outcomes.Ignored why)) c =
    record c { ignored = counted_ignored why c.ignored }
counted_outcome (Ok (outcomes.Accepted handed sent)) c =
    counted_accepted (is_some handed) (is_some sent) c
counted_outcome (Err refused) c = counted_refusal refused c

-- one more received, and what became of it
abbrev pub counted : Result Outcome Refused → Counts → Counts
counted result c = counted_outcome result (record c { received = one_more c.received })

-- of what is sent, the kind's
abbrev pub counted_kind : Kind → SentCounts → SentCounts
counted_kind kinds.Beacon c = record c { beacons = one_more c.beacons }
counted_kind kinds.Shb c = record c { single_hop = one_more c.single_hop }
counted_kind kinds.Gbc c = record c { geobroadcasts = one_more c.geobroadcasts }
counted_kind kinds.Gac c = record c { geoanycasts = one_more c.geoanycasts }

abbrev pub counted_sent : Kind → Counts → Counts
counted_sent kind c = record c { sent = counted_kind kind c.sent }

-- by what came of a call that tells nothing but that it was done
abbrev pub counted_done : {T : Type 0} → Result T Refused → Counts → Counts
counted_done (Ok x) c = c
counted_done (Err refused) c = counted_refusal refused c

-- by what came of a call that sends a packet of this kind
abbrev pub counted_send : Kind → Result (Vec ℕ Global) Refused → Counts → Counts
counted_send kind (Ok frame) c = counted_sent kind c
counted_send kind (Err refused) c = counted_refusal refused c

-- by what came of a call for a beacon
abbrev pub counted_tick : Result (Option (Vec ℕ Global)) Refused → Counts → Counts
counted_tick (Ok None) c = c
counted_tick (Ok (Some frame)) c = counted_sent kinds.Beacon c
counted_tick (Err refused) c = counted_refusal refused c

-- the kind of packet that a call sends, if it sends one
abbrev pub own_kind : OwnCall → Option Kind
own_kind (own_calls.Tick jitter) = Some kinds.Beacon
own_kind (own_calls.SendShb r) = Some kinds.Shb
own_kind (own_calls.SendGeobroadcast r) = Some kinds.Gbc
own_kind (own_calls.SendGeoanycast r) = Some kinds.Gac
own_kind call = None

abbrev pub kind_sent : Call → Option Kind
kind_sent (calls.Own own) = own_kind own
kind_sent (calls.Receive frame) = None

-- one more sent, of the kind if there is one
abbrev pub counted_kind_sent : Option Kind → Counts → Counts
counted_kind_sent None c = c
counted_kind_sent (Some kind) c = counted_sent kind c

-- by the answer to a call that sends packets of this kind
abbrev pub counted_answer : Option Kind → Result StationAnswer NoMemory → Counts → Counts
counted_answer kind (Ok (answers.Sent frame)) c = counted_kind_sent kind c
counted_answer kind (Ok (answers.Ignored why)) c =
    record c { ignored = counted_ignored why c.ignored }
counted_answer kind (Ok (answers.Accepted handed sent)) c =
    counted_accepted (is_some handed) (is_some sent) c
counted_answer kind (Ok (answers.Refused refused)) c = counted_refusal refused c
counted_answer kind (Ok answer) c = c
counted_answer kind (Err no_memory) c = counted_refusal refused.NoMemory c

-- one more received where a frame came
abbrev pub counted_call : Call → Counts → Counts
counted_call (calls.Receive frame) c = record c { received = one_more c.received }
counted_call call c = c
