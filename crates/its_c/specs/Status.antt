-- The statuses that calls from C return.
use Rattle.std.specs.Prelude.{ℤ, pos, Result, Ok, Err}
use Rattle.its_btp.specs.declared.ports.PortFault.TheVariants as ports
use Rattle.its_station.specs.declared.refused.Refused.{Refused}
use Rattle.its_station.specs.declared.refused.Refused.TheVariants as refused
use Rattle.its_unit.specs.declared.unsent.Unsent.{Unsent}
use Rattle.its_unit.specs.declared.unsent.Unsent.TheVariants as unsent

-- the status of a refusal
abbrev pub status_of : Refused → ℤ
status_of refused.MomentEarlier = pos 1
status_of refused.MomentTooLate = pos 2
status_of (refused.Frame fault) = pos 3
status_of (refused.Secured fault) = pos 3
status_of refused.TableFull = pos 4
status_of refused.NoMemory = pos 5
status_of refused.PayloadTooLong = pos 6
status_of refused.HopLimitZero = pos 7
status_of (refused.Port ports.AlreadyOpen) = pos 8
status_of refused.JitterRange = pos 9
status_of (refused.Port ports.Full) = pos 10
status_of (refused.Port ports.NotOpen) = pos 11

-- the status of an answer
abbrev pub status_in : {X : Type 0} → Result X Refused → ℤ
status_in (Ok x) = pos 0
status_in (Err e) = status_of e

-- the status of a request for an own packet
abbrev pub status_of_unsent : Unsent → ℤ
status_of_unsent (unsent.Refused e) = status_of e
status_of_unsent unsent.OverRate = pos 22

abbrev pub status_sent : {X : Type 0} → Result X Unsent → ℤ
status_sent (Ok x) = pos 0
status_sent (Err e) = status_of_unsent e
