-- The call by which a record came about that the station sent, in a scenario that explains the tap.
use Rattle.std.proofs.Common.{◌≡◌, ◌≢◌, ℕ, List, Option, Some, None, refl, sym, ap}
use Rattle.std.proofs.Common.{◌∙◌}
use Rattle.its_model.specs.Packet.{Transmission}
use Rattle.its_model.specs.Calls.{OwnCall, Call}
use Rattle.its_model.specs.Calls.Call.{Own, Receive, Junk}
use Rattle.its_model.specs.Station.{StationModel, station_step}
use Rattle.its_model.specs.Station.{moment_refusal, junk_step_by}
use Rattle.its_model.specs.World.{frame_of}
use Rattle.its_model.specs.Isolation.{TimedCall}
use Rattle.its_faults.specs.declared.frame.FrameFault.{FrameFault}
use Rattle.its_model.specs.Calls.{Refusal}
use Rattle.its_duties.specs.declared.claims.Claims.{Claims}
use Rattle.its_duties.specs.Seen.{Seen, AreRead}
use Rattle.its_duties.specs.Scenario.{Scenario, Explains, Gave, IsCall, IsOwnCall}
use Rattle.its_duties.specs.Duties.{IsOwnRecord, IsRelayRecord}
use Rattle.its_duties.proofs.Frames.{IsOwnFrame, OwnFacts, own_frame, own_facts, IsRelayFrame}
use Rattle.its_duties.proofs.Frames.{relay_frame}
use Rattle.its_duties.proofs.Kept.{Kept, start_kept, InRange, own_in_range, relay_in_range}
use Rattle.its_duties.proofs.Kept.{answering}
use Rattle.its_duties.proofs.Read.{is_read, IsFrameOf, frame_of_record}

-- what a call gave: a frame of its own, or one that it forwards
pub data Given (k : Claims) (s : StationModel) (moment : ℕ) (call : Call)
    (u : Transmission) : Type 0 where
  own : (own_call : OwnCall) → call ≡ Own own_call → IsOwnCall own_call
      → IsOwnFrame own_call s moment u → Given k s moment call u
  forwarded : (t : Transmission) → call ≡ Receive t → IsRelayFrame s t u
      → Given k s moment call u

no_junk : (o : Option Refusal) (s : StationModel) (fault : FrameFault) (u : Transmission)
    → frame_of (junk_step_by s fault o).answer ≡ Some u → ⊥
no_junk (Some r) s fault u e = cc
no_junk None s fault u e = cc

given_by : (call : Call) (k : Claims) (s : StationModel) (moment : ℕ) (u : Transmission)
    → IsCall call → frame_of (station_step s moment call).answer ≡ Some u
    → Given k s moment call u
given_by (Own call) k s moment u is e = own call refl is (own_frame call s moment u e)
given_by (Receive t) k s moment u is e = forwarded t refl (relay_frame s moment t u e)
given_by (Junk fault) k s moment u is e = absurd (no_junk (moment_refusal s moment) s fault u e)

range_by : (call : Call) (k : Claims) (s : StationModel) (moment : ℕ) (u : Transmission)
    → IsCall call → Kept k s → frame_of (station_step s moment call).answer ≡ Some u → InRange u
range_by (Own call) k s moment u is h e =
    own_in_range call k s moment u is h (own_frame call s moment u e)
range_by (Receive t) k s moment u is h e = relay_in_range s t u is (relay_frame s moment t u e)
range_by (Junk fault) k s moment u is h e = absurd (no_junk (moment_refusal s moment) s fault u e)

-- the call, the station that answered it, and what it gave
pub record Cause (k : Claims) (c : TimedCall) (u : Transmission) : Type 0 where
  pub station : StationModel
  pub kept : Kept k station
  pub gives : frame_of (station_step station c.moment c.call).answer ≡ Some u
  pub given : Given k station c.moment c.call u
  pub range : InRange u

pub cause : {k : Claims} {tap : List Seen} (w : Scenario k tap) (r : Seen) (n left : ℕ)
    (g : Gave w r n left) → Cause k g.call g.frame
cause {k} {tap} w r n left g =
    let a = answering w.calls k w.start n g.call g.answer w.in_range w.moves
    (start_kept k w.start w.starts w.stood) g.asked g.answered in
    let gives : frame_of (station_step a.station g.call.moment g.call.call).answer ≡ Some g.frame =
    ap frame_of a.answers ∙ g.given in
    let is = w.in_range n g.call g.asked in
    record {
      station = a.station;
      kept = a.kept;
      gives = gives;
      given = given_by g.call.call k a.station g.call.moment g.frame is gives;
      range = range_by g.call.call k a.station g.call.moment g.frame is a.kept gives;
    }

-- ---- a record of its own

pub record OwnCause (k : Claims) (r : Seen) (t : Transmission) (c : TimedCall)
    (u : Transmission) : Type 0 where
  pub station : StationModel
  pub kept : Kept k station
  pub call : OwnCall
  pub is_call : c.call ≡ Own call
  pub frame : IsOwnFrame call station c.moment u
  pub facts : OwnFacts station u
  pub read : IsFrameOf r t u

-- The source of a frame that it gave tells which it is.
source_of : (r : Seen) (t u : Transmission) → IsFrameOf r t u
    → t.pdu.vector.address ≡ u.pdu.vector.address
source_of r t u f = ap (λ (x : Transmission). x.pdu.vector.address) f.is

forwarded_source : (s : StationModel) (t u : Transmission) → IsRelayFrame s t u
    → u.pdu.vector.address ≢ s.address
forwarded_source s t u f e =
    f.other (ap (λ (x : Transmission). x.pdu.vector.address) (sym f.is) ∙ e)

own_source : (k : Claims) (s : StationModel) (u : Transmission) → Kept k s → OwnFacts s u
    → u.pdu.vector.address ≡ k.address
own_source k s u h f = ap (λ v. v.address) f.vector ∙ h.own ∙ h.address

own_by : (k : Claims) (r : Seen) (t : Transmission) (c : TimedCall) (u : Transmission)
    (s : StationModel) → Kept k s → IsFrameOf r t u → t.pdu.vector.address ≡ k.address
    → Given k s c.moment c.call u → OwnCause k r t c u
own_by k r t c u s h f own_address (own call is range frame) = record {
  station = s;
  kept = h;
  call = call;
  is_call = is;
  frame = frame;
  facts = own_facts call s c.moment u frame;
  read = f;
}
own_by k r t c u s h f own_address (forwarded v is frame) =
    absurd (forwarded_source s v u frame
    (sym (source_of r t u f) ∙ own_address ∙ sym h.address))

pub own_cause : (k : Claims) (tap : List Seen) (i : ℕ) (r : Seen) (t : Transmission)
    → AreRead tap → IsOwnRecord k tap i r t → (w : Scenario k tap) → (x : Explains k tap w)
    → (g : Gave w r (x.call_of i) (x.left i)) × OwnCause k r t g.call g.frame
own_cause k tap i r t all is w x =
    let g = x.gave i r is.record_sent.at is.record_sent.sent in
    let c = cause w r (x.call_of i) (x.left i) g in
    let f = frame_of_record r t g.frame (is_read tap i r all is.record_sent.at) is.frame g.carries
    c.range in
    (g, own_by k r t g.call g.frame c.station c.kept f is.own c.given)

-- ---- a record that it forwarded

pub record RelayCause (k : Claims) (r : Seen) (t : Transmission) (c : TimedCall)
    (u : Transmission) : Type 0 where
  pub station : StationModel
  pub kept : Kept k station
  pub packet : Transmission
  pub is_call : c.call ≡ Receive packet
  pub gives : frame_of (station_step station c.moment c.call).answer ≡ Some u
  pub frame : IsRelayFrame station packet u
  pub read : IsFrameOf r t u

relay_by : (k : Claims) (r : Seen) (t : Transmission) (c : TimedCall) (u : Transmission)
    (s : StationModel) → Kept k s → IsFrameOf r t u → t.pdu.vector.address ≢ k.address
    → frame_of (station_step s c.moment c.call).answer ≡ Some u
    → Given k s c.moment c.call u → RelayCause k r t c u
relay_by k r t c u s h f other gives (forwarded v is frame) = record {
  station = s;
  kept = h;
  packet = v;
  is_call = is;
  gives = gives;
  frame = frame;
  read = f;
}
relay_by k r t c u s h f other gives (own call is range frame) =
    absurd (other (source_of r t u f
    ∙ own_source k s u h (own_facts call s c.moment u frame)))

pub relay_cause : (k : Claims) (tap : List Seen) (i : ℕ) (r : Seen) (t : Transmission)
    → AreRead tap → IsRelayRecord k tap i r t → (w : Scenario k tap) → (x : Explains k tap w)
    → (g : Gave w r (x.call_of i) (x.left i)) × RelayCause k r t g.call g.frame
relay_cause k tap i r t all is w x =
    let g = x.gave i r is.record_sent.at is.record_sent.sent in
    let c = cause w r (x.call_of i) (x.left i) g in
    let f = frame_of_record r t g.frame (is_read tap i r all is.record_sent.at) is.frame g.carries
    c.range in
    (g, relay_by k r t g.call g.frame c.station c.kept f is.other c.gives c.given)
