-- What passes a governor, and the governor after it.
use Rattle.its_station.specs.Receiving.{VerifiedCall}
use Rattle.std.specs.Prelude.{◌≡◌, ℕ, ◌^◌, Bool, true, false, not, ◌&&◌, nat_le, if◌then◌else◌, []}
use Rattle.std.specs.Prelude.{Option, Some, None, is_some, IsTrue}
use Rattle.std.specs.Option.{option_map}
use Rattle.its_gnvalue.specs.Values.{PositionVector}
use Rattle.its_model.specs.Packet.{Message, Transmission, number_in}
use Rattle.its_model.specs.Calls as model
use Rattle.its_model.specs.Calls.{Answer, Call}
use Rattle.its_station.specs.Counting.{one_more}
use Rattle.its_governor.specs.declared.bucket.Bucket.{Bucket}
use Rattle.its_governor.specs.declared.rate.Limits.{Limits}
use Rattle.its_governor.specs.declared.governor.Governor.{Governor}
use Rattle.its_governor.specs.declared.governor.Passed.{Passed}
use Rattle.its_governor.specs.Bucket.{full, has_room, drawn}
use Rattle.its_governor.specs.Sources.{SourceState, bucket_of, with_draw}
use Rattle.its_governor.specs.declared.memory.PacketId.{PacketId}
use Rattle.its_governor.specs.Memory.{MemoryState, is_held, end_of_life, with_packet}
use Rattle.its_governor.specs.declared.rate.Rate.{Rate}
use Rattle.its_governor.specs.declared.receiver.Receiver.{Receiver}
use Rattle.its_governor.specs.Shares.{ShareState, with_frame}
use Rattle.its_governor.specs.Pressure.{is_pressed, has_share, has_share_of}

-- ---- the limits

-- a bucket has room for a frame; a limit that isn't there has
abbrev pub room_in : Option Bucket → ℕ → Bool
room_in None now = true
room_in (Some b) now = has_room b now

-- a bucket after a frame
abbrev pub draw_from : Option Bucket → ℕ → Option Bucket
draw_from None now = None
draw_from (Some b) now = Some (drawn b now)

-- the bucket of a source has room for a frame
abbrev pub source_room : Option SourceState → ℕ → ℕ → Bool
source_room None source now = true
source_room (Some s) source now = has_room (bucket_of s.rate source s.draws) now

-- the buckets of sources after a frame of one
abbrev pub source_drawn : Option SourceState → ℕ → ℕ → Option SourceState
source_drawn None source now = None
source_drawn (Some s) source now = Some (with_draw source now s)

-- the frames that were forwarded last after one of a source, which passed under pressure or not
abbrev pub shares_noted : Option ShareState → ℕ → ℕ → Bool → Option ShareState
shares_noted None source now pressed = None
shares_noted (Some s) source now pressed =
    Some (with_frame (record { source = source; time = now; pressed = pressed }) s)

-- what tells a packet from all others, if it has a sequence number
abbrev pub id_by : PositionVector → Option ℕ → Option PacketId
id_by vector None = None
id_by vector (Some number) =
    Some (record { source = vector.address; number = number; timestamp = vector.timestamp })

abbrev pub id_of : Transmission → Option PacketId
id_of t = id_by t.pdu.vector (number_in t.pdu.body)

-- whether a packet was delivered before, and is remembered
abbrev pub is_remembered : Option MemoryState → Option PacketId → ℕ → Bool
is_remembered (Some m) (Some id) now = is_held m id now
is_remembered None id now = false
is_remembered (Some m) None now = false

abbrev pub is_echo : Option MemoryState → ℕ → Transmission → Bool
is_echo memory now t = is_remembered memory (id_of t) now

-- the memory after a packet was delivered
abbrev pub remembered : Option MemoryState → Option PacketId → ℕ → Option MemoryState
remembered (Some m) (Some id) until = Some (with_packet id until m)
remembered None id until = None
remembered (Some m) None until = Some m

-- ---- a packet that a station accepted

-- whether the limits have room for it
abbrev pub has_room_for : Governor → Receiver → ℕ → Transmission → Bool
has_room_for g r now t =
    nat_le t.hops_left g.hop_cap && room_in g.forward now
    && source_room g.sources t.pdu.vector.address now && has_share g.forward g.shares r now t

-- whether it may be forwarded
abbrev pub may_forward : Governor → Receiver → ℕ → Transmission → Bool
may_forward g r now t = not (is_echo g.delivered now t) && has_room_for g r now t

-- whether nothing but the buckets can withhold it: it was not delivered before, and it has no more
-- hops left than the greatest
abbrev pub admits : Governor → ℕ → Transmission → Bool
admits g now t = not (is_echo g.delivered now t) && nat_le t.hops_left g.hop_cap

-- whether the buckets have room for a frame of a packet from this source, with this number
abbrev pub has_room_of : Governor → Receiver → ℕ → ℕ → Option ℕ → Bool
has_room_of g r now source number =
    room_in g.forward now && source_room g.sources source now
    && has_share_of g.forward g.shares r now source number

-- what passes of a packet, by whether the station delivers it and would forward it
abbrev pub passed_of : Governor → Receiver → ℕ → Transmission → Bool → Bool → Passed
passed_of g r now t handed sent =
    record {
      delivers = handed && not (is_echo g.delivered now t);
      forwards = sent && may_forward g r now t;
      is_repeated = is_echo g.delivered now t;
    }

-- the governor after a frame was forwarded, or withheld
abbrev pub after_forwarding : Governor → ℕ → ℕ → Bool → Bool → Governor
after_forwarding g now source sent forwards =
    if forwards
    then record g {
      forward = draw_from g.forward now;
      sources = source_drawn g.sources source now;
      shares = shares_noted g.shares source now (is_pressed g.forward g.shares now);
    }
    else if sent
    then record g { counts = record g.counts { suppressed = one_more g.counts.suppressed } }
    else g

-- the governor after a packet was delivered, or one that was delivered before was withheld
abbrev pub after_delivery : Governor → ℕ → Transmission → Bool → Bool → Governor
after_delivery g now t is_repeated delivers =
    if delivers
    then record g {
      delivered = remembered g.delivered (id_of t) (end_of_life now t.pdu.lifetime);
    }
    else if is_repeated
    then record g { counts = record g.counts { repeated = one_more g.counts.repeated } }
    else g

-- the governor after both, by what passes
abbrev pub after_passing : Governor → ℕ → Transmission → Bool → Passed → Governor
after_passing g now t sent p =
    after_delivery (after_forwarding g now t.pdu.vector.address sent p.forwards)
    now t p.is_repeated p.delivers

abbrev pub after_judging : Governor → Receiver → ℕ → Transmission → Bool → Bool → Governor
after_judging g r now t handed sent =
    after_passing g now t sent (passed_of g r now t handed sent)

-- ---- a new governor

-- what it keeps of the frames that were forwarded last, if both limits are there
abbrev pub new_shares : Option Rate → Option Rate → Option ShareState
new_shares None source = None
new_shares (Some forward) None = None
new_shares (Some forward) (Some source) = Some (record { frames = []; limit = 256 })

-- its buckets are full, it remembers nothing, and nothing is counted
pub record IsNewGovernor (limits : Limits) (g : Governor) : Type 0 where
  pub forward : g.forward ≡ option_map full limits.forward
  pub sources : g.sources
      ≡ option_map (λ rate. record { rate = rate; draws = []; limit = 256 }) limits.source
  pub shares : g.shares ≡ new_shares limits.forward limits.source
  pub own : g.own ≡ option_map full limits.own
  pub hop_cap : g.hop_cap ≡ limits.hop_cap
  pub delivered : g.delivered
      ≡ (if limits.delivers_once then Some (record { packets = []; limit = 1024 }) else None)
  pub counts : g.counts ≡ record { suppressed = 0; repeated = 0; over_rate = 0 }

-- ---- a call

-- the frame that a call brought, if it did
abbrev pub frame_in : Call → Option Transmission
frame_in (model.Call.Receive t) = Some t
frame_in call = None

-- a value, where it passes
abbrev pub kept : {A : Type 0} → Bool → Option A → Option A
kept true value = value
kept false value = None

-- What passes of an accepted packet. Nothing but a frame is accepted: what isn't one is not
-- forwarded.
abbrev pub passed_in : Governor → Receiver → ℕ → Option Transmission → Bool → Bool → Passed
passed_in g r now (Some t) handed sent = passed_of g r now t handed sent
passed_in g r now None handed sent =
    record { delivers = handed; forwards = false; is_repeated = false }

-- the answer to an accepted packet, by what passes
abbrev pub accepted_by : Option Message → Option Transmission → Passed → Answer Transmission
accepted_by handed relayed p =
    model.Answer.Accepted (kept p.delivers handed) (kept p.forwards relayed)

-- what passes, at this receiver, of the answer to a call that brought this frame, or none
abbrev pub governed : Governor → Receiver → ℕ → Option Transmission → Answer Transmission
    → Answer Transmission
governed g r now frame (model.Answer.Accepted handed relayed) =
    accepted_by handed relayed (passed_in g r now frame (is_some handed) (is_some relayed))
governed g r now frame answer = answer

-- whether the packet of a frame was delivered before, and is remembered
abbrev pub is_echo_in : Governor → ℕ → Option Transmission → Bool
is_echo_in g now (Some t) = is_echo g.delivered now t
is_echo_in g now None = false

-- whether such a frame is accepted
abbrev pub is_repeated_in : Governor → ℕ → Option Transmission → Answer Transmission → Bool
is_repeated_in g now frame (model.Answer.Accepted handed relayed) = is_echo_in g now frame
is_repeated_in g now frame answer = false

-- the packet that came as a secured frame, if it is one
abbrev pub verified_frame : VerifiedCall → Option Transmission
verified_frame (VerifiedCall.Came v) = Some v.frame
verified_frame (VerifiedCall.Faulty fault) = None

-- the governor after an accepted packet
abbrev pub after_accepted : Governor → Receiver → ℕ → Option Transmission → Bool → Bool → Governor
after_accepted g r now (Some t) handed sent = after_judging g r now t handed sent
after_accepted g r now None handed sent = g

-- the governor after an own packet was sent
abbrev pub after_sent : Governor → ℕ → Governor
after_sent g now = record g { own = draw_from g.own now }

-- the governor after a call with this answer, at this receiver: a request for an own packet or not
abbrev pub after_call : Governor → Receiver → ℕ → Bool → Option Transmission → Answer Transmission
    → Governor
after_call g r now request frame (model.Answer.Accepted handed relayed) =
    after_accepted g r now frame (is_some handed) (is_some relayed)
after_call g r now request frame (model.Answer.Sent sent) =
    if request then after_sent g now else g
after_call g r now request frame answer = g

-- the governor after a request was refused for its rate
abbrev pub after_refusal : Governor → Governor
after_refusal g = record g { counts = record g.counts { over_rate = one_more g.counts.over_rate } }

-- A frame passed a bucket, which had room for it, or none did.
abbrev pub IsDraw : Option Bucket → Bool → ℕ → Option Bucket → Type 0
IsDraw old true now new = IsTrue (room_in old now) × (new ≡ draw_from old now)
IsDraw old false now new = new ≡ old

-- whether a request at a time that a station of this clock accepts finds no room
abbrev pub is_over_rate : Governor → ℕ → ℕ → Bool
is_over_rate g clock now = nat_le clock now && nat_le now (2 ^ 62) && not (room_in g.own now)

-- A frame of a source passed its bucket, which had room for it, or none did.
abbrev pub IsDrawOf : Option SourceState → ℕ → Bool → ℕ → Option SourceState → Type 0
IsDrawOf old source true now new =
    IsTrue (source_room old source now) × (new ≡ source_drawn old source now)
IsDrawOf old source false now new = new ≡ old
