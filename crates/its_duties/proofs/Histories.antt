-- What a station's history has before a call: each packet in it was there at the begin, or a call
-- before accepted it.
use Rattle.std.proofs.Common.{◌≡◌, ℕ, zero, suc, ◌+◌, ◌≤◌, ◌<◌, Bool, true, false, cond, List, []}
use Rattle.std.proofs.Common.{◌∷◌, Option, Some, None, refl, sym, ap, subst, ◌∙◌, arith}
use Rattle.std.specs.Prelude.{IfSome, nat_le, slice_get}
use Rattle.std.specs.List.{AllByRecursion}
use Rattle.its_faults.specs.declared.frame.FrameFault.{FrameFault}
use Rattle.its_model.specs.Packet.{Transmission}
use Rattle.its_model.specs.History.{Reception}
use Rattle.its_model.specs.Calls.{OwnCall, Call, Refusal, Answer}
use Rattle.its_model.specs.Calls.OwnCall.{Move, Open, Close, Tick, SendShb, SendGbc, SendGac}
use Rattle.its_model.specs.Calls.OwnCall.{Restart}
use Rattle.its_model.specs.Calls.Call.{Own, Receive, Junk}
use Rattle.its_model.specs.Calls.Answer.{Sent, Quiet}
use Rattle.its_model.specs.Station.{StationModel, Step, Verdict, first, moment_refusal, own_refusal}
use Rattle.its_model.specs.Station.{performed, own_step_by, own_step, beacon_of, after_sending}
use Rattle.its_model.specs.Station.{verdict, reception, receive_step_by, receive_step}
use Rattle.its_model.specs.Station.{junk_step_by, station_step}
use Rattle.its_model.specs.Station.Verdict.{Accept, Ignore, Refuse}
use Rattle.its_model.specs.Isolation.{TimedCall, answers_of}
use Rattle.its_duties.specs.declared.claims.Claims.{Claims}
use Rattle.its_duties.specs.Scenario.{IsCall, IsAsked, IsMoveAllowed}
use Rattle.its_duties.proofs.Kept.{Kept, step_kept}
use Rattle.its_duties.proofs.Waiting.{same_call}

-- ---- one call

-- room for as many sources as claimed, a clock that isn't later than a moment, and what is known of
-- each packet of the history
pub record Holds (P : Reception → Type 0) (k : Claims) (latest : ℕ) (s : StationModel)
    : Type 0 where
  pub room : IfSome k.capacity (λ room. room ≤ s.capacity)
  pub clock : s.clock ≤ latest
  pub history : AllByRecursion P s.history

ticked_holds : (b : Bool) (P : Reception → Type 0) (k : Claims) (latest : ℕ) (s : StationModel)
    (moment : ℕ) → moment ≤ latest → Holds P k latest s
    → Holds P k latest (cond {A = Step} b
    (record { answer = Sent (beacon_of s); station = after_sending s moment })
    (record { answer = Quiet; station = record s { clock = moment } })).station
ticked_holds true P k latest s moment now h =
    record { room = h.room; clock = now; history = h.history }
ticked_holds false P k latest s moment now h =
    record { room = h.room; clock = now; history = h.history }

performed_holds : (call : OwnCall) (P : Reception → Type 0) (k : Claims) (latest : ℕ)
    (s : StationModel) (moment : ℕ) → moment ≤ latest → Holds P k latest s
    → Holds P k latest (performed s moment call).station
performed_holds (Move place accurate speed heading) P k latest s moment now h =
    record { room = h.room; clock = now; history = h.history }
performed_holds (Open port) P k latest s moment now h =
    record { room = h.room; clock = now; history = h.history }
performed_holds (Close port) P k latest s moment now h =
    record { room = h.room; clock = now; history = h.history }
performed_holds (Tick jitter) P k latest s moment now h =
    ticked_holds (nat_le (s.beacon_from + jitter) moment) P k latest s moment now h
performed_holds (SendShb r) P k latest s moment now h =
    record { room = h.room; clock = now; history = h.history }
performed_holds (SendGbc r) P k latest s moment now h =
    record { room = h.room; clock = now; history = h.history }
performed_holds (SendGac r) P k latest s moment now h =
    record { room = h.room; clock = now; history = h.history }
performed_holds (Restart number) P k latest s moment now h =
    record { room = h.room; clock = now; history = tt }

own_holds : (o : Option Refusal) (call : OwnCall) (P : Reception → Type 0) (k : Claims)
    (latest : ℕ) (s : StationModel) (moment : ℕ) → moment ≤ latest → Holds P k latest s
    → Holds P k latest (own_step_by s moment call o).station
own_holds (Some r) call P k latest s moment now h = h
own_holds None call P k latest s moment now h = performed_holds call P k latest s moment now h

received_holds : (v : Verdict) (P : Reception → Type 0) (k : Claims) (latest : ℕ)
    (s : StationModel) (moment : ℕ) (t : Transmission) → moment ≤ latest → Holds P k latest s
    → (v ≡ Accept → P (reception moment t)) → Holds P k latest (receive_step_by s moment t v).station
received_holds (Refuse r) P k latest s moment t now h has = h
received_holds (Ignore why) P k latest s moment t now h has =
    record { room = h.room; clock = now; history = h.history }
received_holds Accept P k latest s moment t now h has =
    record { room = h.room; clock = now; history = (has refl, h.history) }

junk_holds : (o : Option Refusal) (P : Reception → Type 0) (k : Claims) (latest : ℕ)
    (s : StationModel) (fault : FrameFault) → Holds P k latest s
    → Holds P k latest (junk_step_by s fault o).station
junk_holds (Some r) P k latest s fault h = h
junk_holds None P k latest s fault h = h

step_holds : (call : Call) (P : Reception → Type 0) (k : Claims) (latest : ℕ) (s : StationModel)
    (moment : ℕ) → moment ≤ latest → Holds P k latest s
    → ((t : Transmission) → call ≡ Receive t → verdict s moment t ≡ Accept
    → P (reception moment t)) → Holds P k latest (station_step s moment call).station
unfolding own_step receive_step
step_holds (Own call) P k latest s moment now h has =
    own_holds (first (moment_refusal s moment) (own_refusal s call)) call P k latest s moment now h
step_holds (Receive t) P k latest s moment now h has =
    received_holds (verdict s moment t) P k latest s moment t now h (has t refl)
step_holds (Junk fault) P k latest s moment now h has =
    junk_holds (moment_refusal s moment) P k latest s fault h

-- ---- many calls

-- Each packet that a call before this one accepted has what is asked.
abbrev pub EachAccepted : (P : Reception → Type 0) → Claims → List TimedCall → StationModel → ℕ
    → Type 0
EachAccepted P k calls start q =
    (n : ℕ) (d : TimedCall) (t : Transmission) (s : StationModel) → IsAsked calls n d → n < q
    → d.call ≡ Receive t → Kept k s → verdict s d.moment t ≡ Accept
    → slice_get (answers_of start calls) n ≡ Some (station_step s d.moment d.call).answer
    → P (reception d.moment t)

-- the station before a call
pub record Before (P : Reception → Type 0) (k : Claims) (calls : List TimedCall)
    (start : StationModel) (q : ℕ) (c : TimedCall) : Type 0 where
  pub station : StationModel
  pub kept : Kept k station
  pub holds : Holds P k c.moment station
  pub answers : slice_get (answers_of start calls) q
      ≡ Some (station_step station c.moment c.call).answer

pub before : (calls : List TimedCall) (P : Reception → Type 0) (k : Claims) (s : StationModel)
    (q : ℕ) (c : TimedCall)
    → ((m : ℕ) (d : TimedCall) → IsAsked calls m d → IsCall d.call)
    → ((m : ℕ) (d : TimedCall) → IsAsked calls m d → IsMoveAllowed k d.call)
    → ((m : ℕ) (d : TimedCall) → IsAsked calls m d → m < q → d.moment ≤ c.moment)
    → EachAccepted P k calls s q → Kept k s → Holds P k c.moment s → IsAsked calls q c
    → Before P k calls s q c
before [] P k s q c is allowed earlier has kept holds asked = cc
before (d ∷ calls) P k s zero c is allowed earlier has kept holds asked = record {
  station = s;
  kept = kept;
  holds = holds;
  answers = ap (λ (e : TimedCall). Some (station_step s e.moment e.call).answer)
      (same_call d c asked);
}
before (d ∷ calls) P k s (suc q) c is allowed earlier has kept holds asked =
    let one = earlier zero d refl (omega arith) in
    let r = before calls P k (station_step s d.moment d.call).station q c (λ m. is (suc m))
    (λ m. allowed (suc m)) (λ m e asks lt. earlier (suc m) e asks (omega (arith, lt)))
    (λ m e t st asks lt. has (suc m) e t st asks (omega (arith, lt)))
    (step_kept d.call k s d.moment (is zero d refl) (allowed zero d refl) kept)
    (step_holds d.call P k c.moment s d.moment one holds
    (λ t receives accepts. has zero d t s refl (omega arith) receives kept accepts refl)) asked in
    record { station = r.station; kept = r.kept; holds = r.holds; answers = r.answers }
