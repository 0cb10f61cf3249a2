-- What a station keeps that began as the claims say; and that its frames are in range.
use Rattle.std.proofs.Common.{◌≡◌, ◌≢◌, ℕ, zero, suc, ◌+◌, ◌^◌, ◌≤◌, ◌<◌, Bool, true, false, cond}
use Rattle.std.proofs.Common.{List}
use Rattle.std.proofs.Common.{[], ◌∷◌, Option, Some, None, refl, sym, ap, subst, ◌∙◌, arith}
use Rattle.std.specs.Prelude.{IfSome, nat_le, slice_get}
use Rattle.std.proofs.Math.Nat.{mod-lt}
use Rattle.its_faults.specs.declared.frame.FrameFault.{FrameFault}
use Rattle.its_gnvalue.specs.Values.{mid_of, IsIndividual}
use Rattle.its_headers.specs.Encoding.{IsBytes, IsVector, IsPacket}
use Rattle.its_linkframe.specs.Frames.{IsTransmission}
use Rattle.its_model.specs.Packet.{Transmission, relay}
use Rattle.its_model.specs.Calls.{OwnCall, Call, Refusal, Answer}
use Rattle.its_model.specs.Calls.OwnCall.{Move, Open, Close, Tick, SendShb, SendGbc, SendGac}
use Rattle.its_model.specs.Calls.OwnCall.{Restart}
use Rattle.its_model.specs.Calls.Call.{Own, Receive, Junk}
use Rattle.its_model.specs.Calls.Answer.{Sent, Quiet}
use Rattle.its_model.specs.Station.{StationModel, Step, Verdict, first, moment_refusal, own_refusal}
use Rattle.its_model.specs.Station.{performed, own_step_by, own_step, beacon_of, after_sending}
use Rattle.its_model.specs.Station.{number_after, verdict, receive_step_by, receive_step}
use Rattle.its_model.specs.Station.{junk_step_by, station_step}
use Rattle.its_model.specs.Station.Verdict.{Accept, Ignore, Refuse}
use Rattle.its_model.specs.Isolation.{TimedCall, answers_of}
use Rattle.its_duties.specs.declared.claims.Claims.{Claims}
use Rattle.its_duties.specs.Places.{IsAllowed}
use Rattle.its_duties.specs.Scenario.{IsCall, IsOwnCall, IsStart, IsAsked, IsMoveAllowed}
use Rattle.its_duties.proofs.Frames.{IsOwnFrame, IsRelayFrame}

-- its address, its vector and number in range, whether it is mobile, and that the claims allow its
-- place
pub record Kept (k : Claims) (s : StationModel) : Type 0 where
  pub address : s.address ≡ k.address
  pub vector : IsVector s.vector
  pub own : s.vector.address ≡ s.address
  pub number : s.next_number < 65536
  pub mobile : IfSome k.mobile (λ mobile. s.mobile ≡ mobile)
  pub place : IsAllowed k s.vector.place

pub start_kept : (k : Claims) (s : StationModel) → IsStart k s → IsAllowed k s.vector.place
    → Kept k s
start_kept k s h place = record {
  address = h.address;
  vector = h.vector;
  own = h.own_vector ∙ sym h.address;
  number = h.number;
  mobile = h.mobile;
  place = place;
}

number_small : (n : ℕ) → number_after n < 65536
number_small n = mod-lt (n + 1) (omega arith)

ticked_kept : (b : Bool) (k : Claims) (s : StationModel) (moment : ℕ) → Kept k s
    → Kept k (cond {A = Step} b
    (record { answer = Sent (beacon_of s); station = after_sending s moment })
    (record { answer = Quiet; station = record s { clock = moment } })).station
ticked_kept true k s moment h = record {
  address = h.address;
  vector = h.vector;
  own = h.own;
  number = h.number;
  mobile = h.mobile;
  place = h.place;
}
ticked_kept false k s moment h = record {
  address = h.address;
  vector = h.vector;
  own = h.own;
  number = h.number;
  mobile = h.mobile;
  place = h.place;
}

performed_kept : (call : OwnCall) (k : Claims) (s : StationModel) (moment : ℕ) → IsOwnCall call
    → IsMoveAllowed k (Own call) → Kept k s → Kept k (performed s moment call).station
performed_kept (Move place accurate speed heading) k s moment is allowed h = record {
  address = h.address;
  vector = record {
    address = subst (λ (n : ℕ). n < 2 ^ 64) h.own h.vector.address;
    individual = subst IsIndividual h.own h.vector.individual;
    timestamp = mod-lt moment (omega arith);
    latitude = is.0;
    longitude = is.1;
    speed = is.2;
    heading = is.3;
  };
  own = refl;
  number = h.number;
  mobile = h.mobile;
  place = allowed;
}
performed_kept (Open port) k s moment is allowed h = record {
  address = h.address;
  vector = h.vector;
  own = h.own;
  number = h.number;
  mobile = h.mobile;
  place = h.place;
}
performed_kept (Close port) k s moment is allowed h = record {
  address = h.address;
  vector = h.vector;
  own = h.own;
  number = h.number;
  mobile = h.mobile;
  place = h.place;
}
performed_kept (Tick jitter) k s moment is allowed h =
    ticked_kept (nat_le (s.beacon_from + jitter) moment) k s moment h
performed_kept (SendShb r) k s moment is allowed h = record {
  address = h.address;
  vector = h.vector;
  own = h.own;
  number = h.number;
  mobile = h.mobile;
  place = h.place;
}
performed_kept (SendGbc r) k s moment is allowed h = record {
  address = h.address;
  vector = h.vector;
  own = h.own;
  number = number_small s.next_number;
  mobile = h.mobile;
  place = h.place;
}
performed_kept (SendGac r) k s moment is allowed h = record {
  address = h.address;
  vector = h.vector;
  own = h.own;
  number = number_small s.next_number;
  mobile = h.mobile;
  place = h.place;
}
performed_kept (Restart number) k s moment is allowed h = record {
  address = h.address;
  vector = h.vector;
  own = h.own;
  number = is;
  mobile = h.mobile;
  place = h.place;
}

own_kept : (o : Option Refusal) (call : OwnCall) (k : Claims) (s : StationModel) (moment : ℕ)
    → IsOwnCall call → IsMoveAllowed k (Own call) → Kept k s
    → Kept k (own_step_by s moment call o).station
own_kept (Some r) call k s moment is allowed h = h
own_kept None call k s moment is allowed h = performed_kept call k s moment is allowed h

received_kept : (v : Verdict) (k : Claims) (s : StationModel) (moment : ℕ) (t : Transmission)
    → Kept k s → Kept k (receive_step_by s moment t v).station
received_kept (Refuse r) k s moment t h = h
received_kept (Ignore why) k s moment t h = record {
  address = h.address;
  vector = h.vector;
  own = h.own;
  number = h.number;
  mobile = h.mobile;
  place = h.place;
}
received_kept Accept k s moment t h = record {
  address = h.address;
  vector = h.vector;
  own = h.own;
  number = h.number;
  mobile = h.mobile;
  place = h.place;
}

junk_kept : (o : Option Refusal) (k : Claims) (s : StationModel) (fault : FrameFault) → Kept k s
    → Kept k (junk_step_by s fault o).station
junk_kept (Some r) k s fault h = h
junk_kept None k s fault h = h

-- any call
pub step_kept : (call : Call) (k : Claims) (s : StationModel) (moment : ℕ) → IsCall call
    → IsMoveAllowed k call → Kept k s → Kept k (station_step s moment call).station
unfolding own_step receive_step
step_kept (Own call) k s moment is allowed h =
    own_kept (first (moment_refusal s moment) (own_refusal s call)) call k s moment is allowed h
step_kept (Receive t) k s moment is allowed h = received_kept (verdict s moment t) k s moment t h
step_kept (Junk fault) k s moment is allowed h = junk_kept (moment_refusal s moment) k s fault h

-- ---- its frames are in range

media_bytes : IsBytes (0 ∷ 0 ∷ 0 ∷ 0 ∷ [])
media_bytes zero = omega arith
media_bytes (suc zero) = omega arith
media_bytes (suc (suc zero)) = omega arith
media_bytes (suc (suc (suc zero))) = omega arith
media_bytes (suc (suc (suc (suc i)))) = omega arith

-- what has to be known of a frame to read it
pub record InRange (u : Transmission) : Type 0 where
  pub packet : IsPacket u.pdu u.hops_left
  pub source : u.link_source < 2 ^ 48

mid_small : (address : ℕ) → mid_of address < 2 ^ 48
mid_small address = mod-lt address (omega arith)

pub own_in_range : (call : OwnCall) (k : Claims) (s : StationModel) (moment : ℕ) (u : Transmission)
    → IsOwnCall call → Kept k s → IsOwnFrame call s moment u → InRange u
own_in_range (Move place accurate speed heading) k s moment u is h f = absurd f
own_in_range (Open port) k s moment u is h f = absurd f
own_in_range (Close port) k s moment u is h f = absurd f
own_in_range (Tick jitter) k s moment u is h f = subst InRange (sym f.0) (record {
  packet = record {
    lifetime = omega arith;
    class = omega arith;
    some_left = omega arith;
    left_below = omega arith;
    max_hops = omega arith;
    vector = h.vector;
    body = tt;
  };
  source = mid_small s.address;
})
own_in_range (SendShb r) k s moment u is h f = subst InRange (sym f) (record {
  packet = record {
    lifetime = omega arith;
    class = is.0;
    some_left = omega arith;
    left_below = omega arith;
    max_hops = omega arith;
    vector = h.vector;
    body = (record { size = refl; bytes = media_bytes }, is.1);
  };
  source = mid_small s.address;
})
own_in_range (SendGbc r) k s moment u is h f = subst InRange (sym f.0) (record {
  packet = record {
    lifetime = is.lifetime;
    class = is.class;
    some_left = some r.max_hops f.1;
    left_below = omega arith;
    max_hops = is.max_hops;
    vector = h.vector;
    body = (h.number, is.area, is.message);
  };
  source = mid_small s.address;
})
  where
    some : (n : ℕ) → n ≢ 0 → 0 < n
    some n h = grind arith
own_in_range (SendGac r) k s moment u is h f = subst InRange (sym f.0) (record {
  packet = record {
    lifetime = is.lifetime;
    class = is.class;
    some_left = some r.max_hops f.1;
    left_below = omega arith;
    max_hops = is.max_hops;
    vector = h.vector;
    body = (h.number, is.area, is.message);
  };
  source = mid_small s.address;
})
  where
    some : (n : ℕ) → n ≢ 0 → 0 < n
    some n h = grind arith
own_in_range (Restart number) k s moment u is h f = absurd f

-- a packet that is in range is with one hop fewer
fewer_in_range : (u : Transmission) (source target : ℕ) → 2 ≤ u.hops_left → source < 2 ^ 48
    → IsPacket u.pdu u.hops_left → InRange (relay u source target)
fewer_in_range u source target hops small p = record {
  packet = record {
    lifetime = p.lifetime;
    class = p.class;
    some_left = omega arith;
    left_below = omega (arith, p.left_below);
    max_hops = p.max_hops;
    vector = p.vector;
    body = p.body;
  };
  source = small;
}

pub relay_in_range : (s : StationModel) (u t : Transmission) → IsTransmission u
    → IsRelayFrame s u t → InRange t
relay_in_range s u t is h = subst InRange (sym h.is)
    (fewer_in_range u (mid_of s.address) h.target h.hops (mid_small s.address) is.packet)

-- ---- the station that answered a call

pub record Answering (k : Claims) (c : TimedCall) (answer : Answer Transmission) : Type 0 where
  pub station : StationModel
  pub kept : Kept k station
  pub answers : (station_step station c.moment c.call).answer ≡ answer

pub answering : (calls : List TimedCall) (k : Claims) (s : StationModel) (n : ℕ) (c : TimedCall)
    (answer : Answer Transmission)
    → ((m : ℕ) (d : TimedCall) → IsAsked calls m d → IsCall d.call)
    → ((m : ℕ) (d : TimedCall) → IsAsked calls m d → IsMoveAllowed k d.call) → Kept k s
    → IsAsked calls n c → slice_get (answers_of s calls) n ≡ Some answer → Answering k c answer
answering [] k s n c answer is allowed h asked answered = cc
answering (d ∷ calls) k s zero c answer is allowed h asked answered = record {
  station = s;
  kept = h;
  answers = ap (λ (e : TimedCall). (station_step s e.moment e.call).answer)
      (sym (call_is d c asked)) ∙ answer_is _ answer answered;
}
  where
    call_is : (d c : TimedCall) → Some d ≡ Some c → d ≡ c
    call_is d c e = cc

    answer_is : (a b : Answer Transmission) → Some a ≡ Some b → a ≡ b
    answer_is a b e = cc
answering (d ∷ calls) k s (suc n) c answer is allowed h asked answered =
    answering calls k (station_step s d.moment d.call).station n c answer (λ m. is (suc m))
    (λ m. allowed (suc m))
    (step_kept d.call k s d.moment (is zero d refl) (allowed zero d refl) h) asked answered
