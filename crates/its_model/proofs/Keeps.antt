-- Each event keeps a world sound.
use Rattle.std.proofs.Common.{◌≡◌, ◌≢◌, ◌⊎◌, ℕ, suc, List, [], ◌∷◌, ◌++◌, length, Option, Some}
use Rattle.std.proofs.Common.{None, cond, eqb, refl, sym}
use Rattle.std.proofs.Common.{ap, subst, ◌∙◌, inl, inr, arith}
use Rattle.std.specs.Prelude.{slice_get}
use Rattle.its_gnvalue.specs.Values.{Position}
use Rattle.its_model.specs.Packet.{Transmission}
use Rattle.its_model.specs.History.{Reception}
use Rattle.its_model.specs.Calls.{Answer, Refusal}
use Rattle.its_model.specs.Calls.Why.{Duplicate, NotForMe, OwnSource, SenderMismatch}
use Rattle.its_model.specs.Calls.Answer.{Accepted, Closed, Ignored, Moved, Opened, Quiet, Refused}
use Rattle.its_model.specs.Calls.Answer.{Restarted, Sent}
use Rattle.its_model.specs.Station.{StationModel, Step}
use Rattle.its_model.specs.World.{Config, Event, LogLine, WorldModel, answered, entry_of, frame_of}
use Rattle.its_model.specs.World.{numbered, passed_over, with_one_more}
use Rattle.its_model.specs.Log.{Origin, heard_at, heard_in, moved_by, next_number_after}
use Rattle.its_model.specs.Log.{renumbered_by, origin_by, origins, place_of, position_after}
use Rattle.its_model.specs.Log.{position_at, sequence_number_at, receptions_at, with_origin}
use Rattle.its_model.proofs.Lists.{get_front, get_last, get_snoc, get_within, length_more}
use Rattle.its_model.proofs.Lists.{length_set, get_set}
use Rattle.its_model.proofs.NumberTests.{eqb_same, eqb_other, same_either}
use Rattle.its_model.proofs.Sound.{IsSentBy, RelayFact, LineFact, EachLine, StationSound}
use Rattle.its_model.proofs.Sound.{FramesSound, NamedBy, Sound, GivenFits, FrameFits, Fits}

-- a relayed frame that was there is there when there are more
relay_more : (given : Option ℕ) (configs : List Config) (air more : List Transmission)
    (config : Config) (t : Transmission) → RelayFact given air config t
    → RelayFact given (air ++ more) config t
relay_more None configs air more config t h = tt
relay_more (Some m) configs air more config t h = (h.0, h.1, get_front air more m _ h.2)

-- what holds of a line holds when there are more frames
fact_more : (entry : Answer ℕ) (configs : List Config) (air more : List Transmission) (e : Event)
    (delivered : Option Transmission) (before : List LogLine)
    → LineFact entry configs air e delivered before
    → LineFact entry configs (air ++ more) e delivered before
fact_more Moved configs air more e d before h = h
fact_more Opened configs air more e d before h = h
fact_more Closed configs air more e d before h = h
fact_more Restarted configs air more e d before h = h
fact_more Quiet configs air more e d before h = h
fact_more (Sent k) configs air more e d before h = h
fact_more (Ignored NotForMe) configs air more e d before h = h
fact_more (Ignored OwnSource) configs air more e d before h = h
fact_more (Ignored SenderMismatch) configs air more e d before h = h
fact_more (Ignored Duplicate) configs air more e d before h =
    record {
      frame = h.frame;
      packet = h.packet;
      number = h.number;
      config = h.config;
      what = h.what;
      receiver = h.receiver;
      in_air = get_front air more _ _ h.in_air;
      number_is = h.number_is;
      remembered = h.remembered;
    }
fact_more (Refused r) configs air more e d before h = h
fact_more (Accepted handed given) configs air more e d before h =
    record {
      frame = h.frame;
      packet = h.packet;
      config = h.config;
      origin = h.origin;
      what = h.what;
      delivered_is = h.delivered_is;
      in_air = get_front air more _ _ h.in_air;
      receiver = h.receiver;
      came_from = h.came_from;
      sent_by = h.sent_by;
      foreign = h.foreign;
      is_new = h.is_new;
      handing = h.handing;
      relayed = relay_more given configs air more h.config h.packet h.relayed;
      stops = h.stops;
    }

-- the same of all lines
lines_more : (configs : List Config) (air more : List Transmission) (log : List LogLine)
    → EachLine configs air log → EachLine configs (air ++ more) log
lines_more configs air more [] h = tt
lines_more configs air more (line ∷ before) h = (
  fact_more line.entry configs air more line.event line.delivered before h.0,
  lines_more configs air more before h.1,
)

-- the same with one more frame, if there is one
lines_one_more : (configs : List Config) (air : List Transmission) (given : Option Transmission)
    (log : List LogLine) → EachLine configs air log → EachLine configs (with_one_more air given) log
lines_one_more configs air None log h = h
lines_one_more configs air (Some t) log h = lines_more configs air (t ∷ []) log h

-- a frame's origin stays
sent_later : (configs : List Config) (log : List LogLine) (line : LogLine) (t : Transmission)
    (o : Origin) → IsSentBy configs log t o → IsSentBy configs (line ∷ log) t o
sent_later configs log line t o h =
    record {
      config = h.config;
      sender = h.sender;
      source = h.source;
      earlier = omega (arith, h.earlier);
      packet = h.packet;
      hops = h.hops;
      left = h.left;
    }

-- A station that an event doesn't concern, or that refused it.
pub elsewhere : (configs : List Config) (log : List LogLine) (line : LogLine) (j : ℕ)
    (s : StationModel)
    → ((old : Position) → position_after j line old ≡ old)
    → ((old : ℕ) → next_number_after j line old ≡ old)
    → ((older : List Reception) → heard_at j line older ≡ older)
    → StationSound configs log j s → StationSound configs (line ∷ log) j s
elsewhere configs log line j s stays silent deaf h =
    record {
      config = h.config;
      is_config = h.is_config;
      address = h.address;
      capacity = h.capacity;
      remember = h.remember;
      mobile = h.mobile;
      source = h.source;
      place = h.place ∙ sym (stays (position_at h.config.place j log));
      number = h.number ∙ sym (silent (sequence_number_at j log));
      history = h.history ∙ sym (deaf (receptions_at j log));
    }

-- the station of the event is as its log says
here : (configs : List Config) (w : WorldModel) (e : Event) (s : StationModel)
    (delivered : Option Transmission) (step : Step)
    → Fits configs w e e.what s delivered step → StationSound configs w.log e.station s
    → StationSound configs (record {
      event = e;
      delivered = delivered;
      entry = entry_of (length w.air) step.answer;
    }
    ∷ w.log) e.station step.station
here configs w e s delivered step f h =
    let entry = entry_of (length w.air) step.answer in
    record {
      config = h.config;
      is_config = h.is_config;
      address = f.address ∙ h.address;
      capacity = f.capacity ∙ h.capacity;
      remember = f.remember ∙ h.remember;
      mobile = f.mobile ∙ h.mobile;
      source = f.source (h.source ∙ sym h.address) ∙ h.address;
      place = f.place ∙ ap (λ p. moved_by entry e.what p) h.place
          ∙ ap (λ b. cond b (moved_by entry e.what (position_at h.config.place e.station w.log))
          (position_at h.config.place e.station w.log)) (sym (eqb_same e.station));
      number = f.number ∙ ap (λ n. renumbered_by entry e.what n) h.number
          ∙ ap (λ b. cond b (renumbered_by entry e.what (sequence_number_at e.station w.log))
          (sequence_number_at e.station w.log)) (sym (eqb_same e.station));
      history = f.history ∙ ap (λ older. heard_in entry delivered e.moment older) h.history
          ∙ ap (λ b. cond b (heard_in entry delivered e.moment (receptions_at e.station w.log))
          (receptions_at e.station w.log)) (sym (eqb_same e.station));
    }

-- another station is as its log says
away : (configs : List Config) (log : List LogLine) (line : LogLine) (j : ℕ) (s : StationModel)
    → j ≢ line.event.station → StationSound configs log j s → StationSound configs (line ∷ log) j s
away configs log line j s off h =
    let no = eqb_other j line.event.station off in
    elsewhere configs log line j s
    (λ old. ap (λ b. cond b (moved_by line.entry line.event.what old) old) no)
    (λ old. ap (λ b. cond b (renumbered_by line.entry line.event.what old) old) no)
    (λ older. ap
    (λ b. cond b (heard_in line.entry line.delivered line.event.moment older) older) no)
    h

-- one more frame, with its origin
frame_numbered : (n : ℕ) (a : Answer Transmission)
    → frame_of (entry_of n a) ≡ numbered n (frame_of a)
frame_numbered n Moved = refl
frame_numbered n Opened = refl
frame_numbered n Closed = refl
frame_numbered n Restarted = refl
frame_numbered n Quiet = refl
frame_numbered n (Sent t) = refl
frame_numbered n (Ignored why) = refl
frame_numbered n (Accepted handed None) = refl
frame_numbered n (Accepted handed (Some t)) = refl
frame_numbered n (Refused r) = refl

-- a frame and its origin: both are old, or both the new ones
pub both : (air : List Transmission) (all : List Origin) (t : Transmission) (o : Origin) (k : ℕ)
    (u : Transmission) (p : Origin)
    → length all ≡ length air → slice_get (air ++ t ∷ []) k ≡ Some u
    → slice_get (all ++ o ∷ []) k ≡ Some p
    → ((slice_get air k ≡ Some u) × (slice_get all k ≡ Some p)) ⊎ ((t ≡ u) × (o ≡ p))
both air all t o k u p even h g =
    elim (get_snoc air t k u h) [
      | inl a ↦ elim (get_snoc all o k p g) [
        | inl b ↦ inl (a, b)
        | inr b ↦ absurd (omega (arith, get_within air k u a, b.0))
      ]
      | inr a ↦ elim (get_snoc all o k p g) [
        | inl b ↦ absurd (omega (arith, get_within all k p b, a.0))
        | inr b ↦ inr (a.1, b.1)
      ]
    ]

-- none more
frames_stay : (configs : List Config) (air : List Transmission) (all : List Origin)
    (log : List LogLine) (line : LogLine) → FramesSound configs air all log
    → FramesSound configs air all (line ∷ log)
frames_stay configs air all log line h =
    record {
      even = h.even;
      each = λ k t is. (let f = h.each k t is in
          record {
            origin = f.origin;
            is = f.is;
            sent_by = sent_later configs log line t f.origin f.sent_by;
          });
      same = h.same;
    }

-- one more frame, with its origin
frames_more : (configs : List Config) (w : WorldModel) (e : Event) (line : LogLine)
    (t : Transmission)
    → GivenFits configs w e e.what t → FramesSound configs w.air (origins w.log) w.log
    → FramesSound configs (w.air ++ t ∷ [])
    (with_one_more (origins w.log) (origin_by e.what e w.log (origins w.log))) (line ∷ w.log)
frames_more configs w e line t f h =
    subst (λ (x : Option Origin).
    FramesSound configs (w.air ++ t ∷ []) (with_one_more (origins w.log) x) (line ∷ w.log))
    (sym f.is)
    (record {
      even = length_more (origins w.log) f.origin ∙ ap suc h.even ∙ sym (length_more w.air t);
      each = λ k u is. elim (get_snoc w.air t k u is) [
        | inl a ↦ (let g = h.each k u a in
            record {
              origin = g.origin;
              is = get_front (origins w.log) (f.origin ∷ []) k g.origin g.is;
              sent_by =
                  sent_later configs w.log line u g.origin g.sent_by;
            })
        | inr a ↦ record {
          origin = f.origin;
          is = subst (λ (i : ℕ). slice_get (origins w.log ++ f.origin ∷ []) i ≡ Some f.origin)
              (h.even ∙ sym a.0) (get_last (origins w.log) f.origin);
          sent_by = subst (λ (v : Transmission). IsSentBy configs (line ∷ w.log) v f.origin) a.1
              (f.sent_by (line ∷ w.log) (omega arith));
        }
      ];
      same = λ k m u v o p atk atm ofk ofm e'.
          elim (both w.air (origins w.log) t f.origin k u o h.even atk ofk) [
            | inl a ↦ elim (both w.air (origins w.log) t f.origin m v p h.even atm ofm) [
              | inl b ↦ h.same k m u v o p a.0 b.0 a.1 b.1 e'
              | inr b ↦ f.same k u o a.0 a.1 (e' ∙ ap place_of (sym b.1)) ∙ ap (λ x. x.pdu) b.0
            ]
            | inr a ↦ elim (both w.air (origins w.log) t f.origin m v p h.even atm ofm) [
              | inl b ↦ ap (λ x. x.pdu) (sym a.0)
                  ∙ sym (f.same m v p b.0 b.1 (sym e' ∙ ap place_of (sym a.1)))
              | inr b ↦ ap (λ x. x.pdu) (sym a.0 ∙ b.0)
            ]
          ];
    })

-- one more, or none
frames_after : (g : Option Transmission) (configs : List Config) (w : WorldModel) (e : Event)
    (line : LogLine) (n : ℕ)
    → FrameFits g configs w e e.what → FramesSound configs w.air (origins w.log) w.log
    → FramesSound configs (with_one_more w.air g)
    (with_origin (numbered n g) e w.log (origins w.log)) (line ∷ w.log)
frames_after None configs w e line n f h = frames_stay configs w.air (origins w.log) w.log line h
frames_after (Some t) configs w e line n f h = frames_more configs w e line t f h

-- the frame that a line gives has the next number
named_after : (g : Option Transmission) (configs : List Config) (w : WorldModel) (e : Event)
    → FrameFits g configs w e e.what → length (origins w.log) ≡ length w.air
    → NamedBy (numbered (length w.air) g) e w.log
named_after None configs w e f even = tt
named_after (Some t) configs w e f even = (sym even, f.origin, f.is)

-- An event that its station answered.
pub answered_keeps : (configs : List Config) (w : WorldModel) (e : Event) (s : StationModel)
    (delivered : Option Transmission) (step : Step)
    → slice_get w.stations e.station ≡ Some s → Fits configs w e e.what s delivered step
    → Sound configs w → Sound configs (answered w e delivered step)
unfolding origins
answered_keeps configs w e s delivered step is f h =
    let n = length w.air in
    let line : LogLine =
    record { event = e; delivered = delivered; entry = entry_of n step.answer } in
    record {
      count = length_set w.stations e.station step.station ∙ h.count;
      each = λ j x at. elim (get_set w.stations e.station step.station j x at) [
        | inl a ↦ subst (λ (y : StationModel). StationSound configs (line ∷ w.log) j y) a.1
            (subst (λ (i : ℕ). StationSound configs (line ∷ w.log) i step.station) (sym a.0)
            (here configs w e s delivered step f (h.each e.station s is)))
        | inr a ↦ away configs w.log line j x a.0 (h.each j x a.1)
      ];
      frames = subst
          (λ (g : Option ℕ).
          FramesSound configs (with_one_more w.air (frame_of step.answer))
          (with_origin g e w.log (origins w.log)) (line ∷ w.log))
          (sym (frame_numbered n step.answer))
          (frames_after (frame_of step.answer) configs w e line n f.frame h.frames);
      lines = (f.fact, lines_one_more configs w.air (frame_of step.answer) w.log h.lines);
      names = (
        subst (λ (g : Option ℕ). NamedBy g e w.log) (sym (frame_numbered n step.answer))
            (named_after (frame_of step.answer) configs w e f.frame h.frames.even),
        h.names,
      );
    }

-- An event that was passed over.
pub passed_keeps : (configs : List Config) (w : WorldModel) (e : Event) (r : Refusal)
    → Sound configs w → Sound configs (passed_over w e r)
unfolding origins
passed_keeps configs w e r h =
    let line : LogLine = record { event = e; delivered = None; entry = Refused r } in
    record {
      count = h.count;
      each = λ j x at.
          elsewhere configs w.log line j x (λ old. sym (same_either (eqb e.station j) old))
          (λ old. sym (same_either (eqb e.station j) old))
          (λ older. sym (same_either (eqb e.station j) older)) (h.each j x at);
      frames = frames_stay configs w.air (origins w.log) w.log line h.frames;
      lines = (tt, h.lines);
      names = (tt, h.names);
    }
