-- What a sealed plain part says, and what a unit answers to it.
use Rattle.std.proofs.Common.{◌≡◌, ℕ, ◌+◌, ◌≤◌, List, [], ◌∷◌, ◌++◌, Bool, true, false, cond, ◌&&◌}
use Rattle.std.proofs.Common.{Option, Some, None, refl, sym, ap, subst, ◌∙◌, leb}
use Rattle.std.specs.Prelude.{IsTrue, get_or, drop}
use Rattle.std.proofs.lemmas.Bool.{false≢true}
use Rattle.std.proofs.lemmas.Option.{none-some, same_Some}
use Rattle.its_geometry.specs.Area.{GeoArea, area_holds}
use Rattle.its_model.specs.History.{is_among}
use Rattle.its_model.specs.Packet.{Message, Pdu, Transmission}
use Rattle.its_model.specs.Calls as model
use Rattle.its_model.specs.Calls.{Answer, OwnCall, Refusal, ShbRequest}
use Rattle.its_model.specs.Station.{StationModel, Step, after_sending}
use Rattle.its_model.specs.Station.{beacon_of, first, gac_of, gbc_of, handed_inside, handing}
use Rattle.its_model.specs.Station.{moment_refusal, own_refusal, own_step, own_step_by, performed}
use Rattle.its_model.specs.Station.{shb_of}
use Rattle.its_headers.specs.Encoding.{Encodes, common_header, extended_header}
use Rattle.its_headers.specs.Inner.{inner_octets}
use Rattle.its_headers.proofs.Encodings.{one_encoding}
use Rattle.its_linkframe.specs.Secured.{basic_on_air}
use Rattle.its_station.specs.Beside.{default_options, send_shb_for_step, shb_for, shb_refusal}
use Rattle.its_station.specs.Beside.{stands_at, step_by}
use Rattle.its_station.specs.declared.requests.ShbOptions.{ShbOptions}
use Rattle.its_unit.specs.Unit.{UnitCall, step_within}
use Rattle.its_unit.specs.Signed.{IsPlainPart, is_own}
use Rattle.its_unit.specs.SignedLaws.{AsksToSend}

-- ---- a plain part is that of one packet, but for its lifetime

-- what stands behind the Basic Header
abbrev behind : Pdu → List ℕ
behind p = common_header p ++ extended_header p.vector p.body

plain_is : (t : Transmission) (plain : List ℕ) → IsPlainPart t plain → plain ≡ behind t.pdu
plain_is t plain is = ap (drop 4) is.octets

same_maximum : (p q : Pdu) → behind p ≡ behind q → p.max_hops ≡ q.max_hops
same_maximum p q e = ap (λ w. get_or w 6 0) e

-- two packets with this plain part are one, but for the lifetime
pub same_packet : (t v : Transmission) (plain : List ℕ) → IsPlainPart t plain
    → IsPlainPart v plain → v.pdu ≡ record t.pdu { lifetime = v.pdu.lifetime }
same_packet t v plain ht hv =
    let p : Pdu = record t.pdu { lifetime = v.pdu.lifetime } in
    let same : behind v.pdu ≡ behind t.pdu = sym (plain_is v plain hv) ∙ plain_is t plain ht in
    let ours : Encodes p v.hops_left (inner_octets (basic_on_air v) plain) = record {
      fields = record {
        lifetime = hv.fields.lifetime;
        class = ht.fields.class;
        some_left = hv.fields.some_left;
        left_below = subst (λ (n : ℕ). v.hops_left ≤ n) (same_maximum v.pdu t.pdu same)
            hv.fields.left_below;
        max_hops = ht.fields.max_hops;
        vector = ht.fields.vector;
        body = ht.fields.body;
      };
      octets = ap (λ (w : List ℕ). 17 ∷ 0 ∷ v.pdu.lifetime ∷ v.hops_left ∷ w)
          (plain_is t plain ht);
    } in
    sym (one_encoding p v.pdu v.hops_left v.hops_left (inner_octets (basic_on_air v) plain)
    (inner_octets (basic_on_air v) plain) [] [] ours hv refl).0

-- ---- own frames

same_sent : (t u : Transmission) → ◌≡◌ {A = Answer Transmission} (model.Answer.Sent t) (model.Answer.Sent u)
    → t ≡ u
same_sent t u e = cc

-- What is known of a frame that a station makes by a call of its own: it bears its address, and if
-- its message is handed out somewhere, the call asks to send it there.
pub record IsOwnFrame (s : StationModel) (call : UnitCall) (t : Transmission) : Type 0 where
  pub named : t.pdu.vector.address ≡ s.vector.address
  pub request : (at : StationModel) (m : Message) → handing at t.pdu.body ≡ Some m
      → IsTrue (is_among m.port at.ports) × AsksToSend call m at.vector.place

-- what is handed out of a message whose port has to be open
open_handed : (b : Bool) (sent m : Message) → cond b (Some sent) None ≡ Some m
    → (b ≡ true) × (sent ≡ m)
open_handed true sent m h = (refl, same_Some sent m h)
open_handed false sent m h = absurd (none-some m h)

both : (a b : Bool) → (a && b) ≡ true → (a ≡ true) × (b ≡ true)
both true true e = (refl, refl)
both true false e = cc
both false b e = cc

is_open : (ports : List ℕ) (sent m : Message) → is_among sent.port ports ≡ true → sent ≡ m
    → IsTrue (is_among m.port ports)
is_open ports sent m h same =
    subst (λ (x : Message). IsTrue (is_among x.port ports)) same h

record IsHandedInside (at : StationModel) (area : GeoArea) (sent m : Message) : Type 0 where
  opened : IsTrue (is_among m.port at.ports)
  same : sent ≡ m
  inside : area_holds area at.vector.place ≡ true

handed_in : (at : StationModel) (area : GeoArea) (sent m : Message)
    → handed_inside at area sent ≡ Some m → IsHandedInside at area sent m
handed_in at area sent m h =
    let o = open_handed (is_among sent.port at.ports && area_holds area at.vector.place) sent m h in
    let b = both (is_among sent.port at.ports) (area_holds area at.vector.place) o.0 in
    record { opened = is_open at.ports sent m b.0 o.1; same = o.1; inside = b.1 }

shb_own : (s : StationModel) (r : ShbRequest) (options : ShbOptions) (call : UnitCall)
    → ((m : Message) (at : StationModel) → r.message ≡ m → AsksToSend call m at.vector.place)
    → IsOwnFrame s call (shb_for s options r)
shb_own s r options call asks = record {
  named = refl;
  request = λ at m h. (let o = open_handed (is_among r.message.port at.ports) r.message m h in
      (is_open at.ports r.message m o.0 o.1, asks m at o.1));
}

-- by what the call does
performed_own : (s : StationModel) (now : ℕ) (call : OwnCall) (t : Transmission)
    → (performed s now call).answer ≡ model.Answer.Sent t → IsOwnFrame s (UnitCall.Own call) t
performed_own s now (model.OwnCall.Move place accurate speed heading) t e = cc
performed_own s now (model.OwnCall.Open port) t e = cc
performed_own s now (model.OwnCall.Close port) t e = cc
performed_own s now (model.OwnCall.Tick jitter) t e = by (leb (s.beacon_from + jitter) now) e
  where
    by : (b : Bool)
        → (cond {A = Step} b (record { answer = model.Answer.Sent (beacon_of s); station = after_sending s now })
        (record { answer = model.Answer.Quiet; station = record s { clock = now } })).answer
        ≡ model.Answer.Sent t
        → IsOwnFrame s (UnitCall.Own (model.OwnCall.Tick jitter)) t
    by true e = subst (IsOwnFrame s (UnitCall.Own (model.OwnCall.Tick jitter)))
        (same_sent (beacon_of s) t e)
        (record { named = refl; request = λ at m h. absurd (none-some m h) })
    by false e = cc
performed_own s now (model.OwnCall.SendShb r) t e =
    subst (IsOwnFrame s (UnitCall.Own (model.OwnCall.SendShb r))) (same_sent (shb_of s r) t e)
    (shb_own s r default_options (UnitCall.Own (model.OwnCall.SendShb r)) (λ m at same. same))
performed_own s now (model.OwnCall.SendGbc r) t e =
    subst (IsOwnFrame s (UnitCall.Own (model.OwnCall.SendGbc r))) (same_sent (gbc_of s now r) t e)
    (record {
      named = refl;
      request = λ at m h. (let g = handed_in at r.area r.message m h in
          (g.opened, (g.same, g.inside)));
    })
performed_own s now (model.OwnCall.SendGac r) t e =
    subst (IsOwnFrame s (UnitCall.Own (model.OwnCall.SendGac r))) (same_sent (gac_of s now r) t e)
    (record {
      named = refl;
      request = λ at m h. (let g = handed_in at r.area r.message m h in
          (g.opened, (g.same, g.inside)));
    })
performed_own s now (model.OwnCall.Restart number) t e = cc

own_made : (s : StationModel) (now : ℕ) (call : OwnCall) (t : Transmission)
    → (own_step s now call).answer ≡ model.Answer.Sent t → IsOwnFrame s (UnitCall.Own call) t
unfolding own_step
own_made s now call t e = by (first (moment_refusal s now) (own_refusal s call)) e
  where
    by : (o : Option Refusal) → (own_step_by s now call o).answer ≡ model.Answer.Sent t
        → IsOwnFrame s (UnitCall.Own call) t
    by (Some r) e = cc
    by None e = performed_own s now call t e

shb_made : (s : StationModel) (now : ℕ) (options : ShbOptions) (r : ShbRequest)
    (t : Transmission)
    → (send_shb_for_step s now options r).answer ≡ model.Answer.Sent t
    → IsOwnFrame s (UnitCall.SendShbFor options r) t
shb_made s now options r t e = by (shb_refusal s now r) e
  where
    by : (o : Option Refusal)
        → (step_by s o (record {
          answer = model.Answer.Sent (shb_for s options r);
          station = after_sending s now;
        })).answer ≡ model.Answer.Sent t
        → IsOwnFrame s (UnitCall.SendShbFor options r) t
    by (Some refusal) e = cc
    by None e = subst (IsOwnFrame s (UnitCall.SendShbFor options r))
        (same_sent (shb_for s options r) t e)
        (shb_own s r options (UnitCall.SendShbFor options r) (λ m at same. same))

-- a frame that a station makes by a call of its own
pub sent_own : (s : StationModel) (now : ℕ) (call : UnitCall) (t : Transmission)
    → IsTrue (is_own call) → (step_within s now call).answer ≡ model.Answer.Sent t
    → IsOwnFrame s call t
sent_own s now (UnitCall.Own call) t own e = own_made s now call t e
sent_own s now (UnitCall.MoveAt timestamp place accurate speed heading) t own e =
    by (moment_refusal s now) e
  where
    by : (o : Option Refusal)
        → (step_by s o (record {
          answer = model.Answer.Moved;
          station = stands_at s now timestamp place accurate speed heading;
        })).answer ≡ model.Answer.Sent t
        → IsOwnFrame s (UnitCall.MoveAt timestamp place accurate speed heading) t
    by (Some r) e = cc
    by None e = cc
sent_own s now (UnitCall.SendShbFor options request) t own e =
    shb_made s now options request t e
sent_own s now (UnitCall.Receive call) t own e = absurd (false≢true own)
sent_own s now (UnitCall.ReceiveVerified call) t own e = absurd (false≢true own)
