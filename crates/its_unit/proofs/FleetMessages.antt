-- What a fleet delivers was sent in it, and what it sends is faithful.
use Rattle.std.proofs.Common.{◌≡◌, ◌≢◌, ◌⊎◌, ℕ, zero, suc, List, [], ◌∷◌, ◌++◌, length, Bool, true}
use Rattle.std.proofs.Common.{false, cond, Option, Some, None, refl, sym, ap, subst, ◌∙◌, inl, inr}
use Rattle.std.proofs.Common.{arith}
use Rattle.std.specs.Prelude.{slice_get}
use Rattle.std.specs.List.{AllZip}
use Rattle.std.proofs.lemmas.Option.{none-some, same_Some}
use Rattle.its_geometry.specs.Area.{GeoArea, area_holds}
use Rattle.its_model.specs.Packet.{AreaKind, Message, Transmission, area_body}
use Rattle.its_model.specs.Calls as model
use Rattle.its_model.specs.Calls.{Answer, OwnCall, area_call}
use Rattle.its_model.specs.World as world
use Rattle.its_model.specs.World.{Config, Event, LogLine, What, WorldModel, entry_of, opening}
use Rattle.its_model.specs.World.{with_one_more, world_run, world_step}
use Rattle.its_model.specs.Log.{position_at}
use Rattle.its_model.specs.Schedules.{WasSentForHere}
use Rattle.its_model.proofs.Lists.{get_within}
use Rattle.its_model.proofs.Sound.{Sound}
use Rattle.its_model.proofs.SoundRuns.{run_sound, step_keeps}
use Rattle.its_model.proofs.Theorems.{accepted_at, handed_as_sent, relays_are_faithful}
use Rattle.its_model.proofs.Givers.{each_given}
use Rattle.its_unit.specs.Unit.{UnitAnswer, step_within}
use Rattle.its_unit.specs.Runs.{IsPartOf, IsPart, UnitCallAt}
use Rattle.its_unit.specs.Fleets.{NumberedFrame, UnitKind, FleetWhat, FleetEvent, FleetLine}
use Rattle.its_unit.specs.Fleets.{FleetModel}
use Rattle.its_unit.specs.Fleets.{new_fleet, Asked, asked, at_time, whole_answer}
use Rattle.its_unit.specs.Fleets.{world_events}
use Rattle.its_unit.specs.FleetLaws.{IsIn, AreNumbered, IsLateOrLost, IsDelivery, IsSameWhat}
use Rattle.its_unit.specs.FleetLaws.{IsLineOf, is_made, made_lines, IsLikeWorld, AreNewUnits}
use Rattle.its_unit.specs.FleetLaws.{fleet_after, world_after, WasSent, Brings, DeliversAsSent}
use Rattle.its_unit.specs.FleetLaws.{IsOwnPacket, IsForwarded, FramesAreFaithful}
use Rattle.its_unit.proofs.FleetFrames.{get_map, get_more}
use Rattle.its_unit.proofs.Fleets.{does, in_world, fleet_is_world}

-- ---- lines

-- the second of two lists has this, so the first has one that goes with it
zip_in : {X Y : Type 0} (R : X → Y → Type 0) (xs : List X) (ys : List Y) → AllZip R xs ys
    → (k : ℕ) (y : Y) → slice_get ys k ≡ Some y → (x : X) × IsIn xs x × R x y
zip_in R [] [] h k y at = absurd (none-some y at)
zip_in R [] (z ∷ ys) h k y at = absurd h
zip_in R (x ∷ xs) [] h k y at = absurd h
zip_in R (x ∷ xs) (z ∷ ys) h zero y at = (x, (0, refl), subst (R x) (same_Some z y at) h.0)
zip_in R (x ∷ xs) (z ∷ ys) h (suc k) y at =
    let g = zip_in R xs ys h.1 k y at in
    (g.0, (suc g.1.0, g.1.1), g.2)

-- a line of a split log is in it
at_split : {X : Type 0} (later before : List X) (x : X)
    → slice_get (later ++ x ∷ before) (length later) ≡ Some x
at_split [] before x = refl
at_split (y ∷ later) before x = at_split later before x

in_more : {X : Type 0} (y : X) (xs : List X) (x : X) → IsIn xs x → IsIn (y ∷ xs) x
in_more y xs x is = (suc is.0, is.1)

-- a line of the calls that stations made is a line of the log
made_is_in : (log : List FleetLine) (x : FleetLine) → IsIn (made_lines log) x → IsIn log x
made_is_in [] x is = is
made_is_in (y ∷ log) x is = by (is_made y.answer) (made_is_in log x) is
  where
    first : (k : ℕ) → slice_get (y ∷ made_lines log) k ≡ Some x
        → (IsIn (made_lines log) x → IsIn log x) → IsIn (y ∷ log) x
    first zero at rest = (0, at)
    first (suc k) at rest = in_more y log x (rest (k, at))

    by : (b : Bool) → (IsIn (made_lines log) x → IsIn log x)
        → IsIn (cond b (y ∷ made_lines log) (made_lines log)) x → IsIn (y ∷ log) x
    by true rest is = first is.0 is.1 rest
    by false rest is = in_more y log x (rest is)

-- the line of the fleet for a line of the world
record HasLine (sent : List NumberedFrame) (log : List FleetLine) (air : List Transmission)
    (line : LogLine) : Type 0 where
  mine : FleetLine
  logged : IsIn log mine
  like : IsLineOf sent air mine line

line_of : {U : Type 0} (kind : UnitKind U) (f : FleetModel U) (w : WorldModel)
    (later before : List LogLine) (line : LogLine) → IsLikeWorld kind f w
    → w.log ≡ later ++ line ∷ before → HasLine f.sent f.log w.air line
line_of kind f w later before line h split =
    let g = zip_in (IsLineOf f.sent w.air) (made_lines f.log) w.log h.log (length later) line
    (ap (λ xs. slice_get xs (length later)) split ∙ at_split later before line) in
    record { mine = g.0; logged = made_is_in f.log g.0 g.1; like = g.2 }

-- ---- what a unit did by a line

no_call : (k : ℕ) (call : OwnCall) → What.Deliver k ≡ What.Calls call → ⊥
no_call k call e = cc

same_call : (other call : OwnCall) → What.Calls other ≡ What.Calls call
    → FleetWhat.Calls other ≡ FleetWhat.Calls call
same_call other call e = cc

-- an own call of the world is that of the fleet
own_what : (sent : List NumberedFrame) (what : FleetWhat) (w : What) (call : OwnCall)
    → IsSameWhat sent what w → w ≡ What.Calls call → what ≡ FleetWhat.Calls call
own_what sent (FleetWhat.Calls other) w call same is = same_call other call (sym same ∙ is)
own_what sent (FleetWhat.Deliver n) w call same is =
    absurd (no_call same.frame.number call (sym same.what_is ∙ is))
own_what sent (FleetWhat.DeliverVerified n message) w call same is =
    absurd (no_call same.frame.number call (sym same.what_is ∙ is))
own_what sent FleetWhat.Release w call same is = absurd same

-- an answer that makes a frame is of an own packet, or of a frame that came
sent_whole : (n k : ℕ) (whole : Answer Transmission) → world.frame_of (entry_of n whole) ≡ Some k
    → ((handed : Option Message) (relayed : Option ℕ)
    → entry_of n whole ≢ model.Answer.Accepted handed relayed)
    → (t : Transmission) × (whole ≡ model.Answer.Sent t)
sent_whole n k (model.Answer.Sent t) gives not = (t, refl)
sent_whole n k (model.Answer.Accepted handed relayed) gives not =
    absurd (not handed (world.numbered n relayed) refl)
sent_whole n k model.Answer.Moved gives not = absurd (none-some k gives)
sent_whole n k model.Answer.Opened gives not = absurd (none-some k gives)
sent_whole n k model.Answer.Closed gives not = absurd (none-some k gives)
sent_whole n k model.Answer.Restarted gives not = absurd (none-some k gives)
sent_whole n k model.Answer.Quiet gives not = absurd (none-some k gives)
sent_whole n k (model.Answer.Ignored why) gives not = absurd (none-some k gives)
sent_whole n k (model.Answer.Refused refusal) gives not = absurd (none-some k gives)

-- all of the answer to a request passes
passed_whole : (a : UnitAnswer) (t : Transmission) → IsPartOf a (model.Answer.Sent t)
    → a ≡ UnitAnswer.Passed (model.Answer.Sent t)
passed_whole (UnitAnswer.Passed (model.Answer.Accepted handed sent)) t part =
    ap UnitAnswer.Passed part
passed_whole (UnitAnswer.Passed answer) t part = ap UnitAnswer.Passed part
passed_whole UnitAnswer.Repeated t part = absurd part
passed_whole UnitAnswer.OverRate t part = absurd part

-- an own packet that a unit sent by a line of the log
record IsOwnLine (mine : FleetLine) (whole : Answer Transmission) (call : OwnCall) : Type 0 where
  frame : Transmission
  what : mine.event.what ≡ FleetWhat.Calls call
  whole_is : whole ≡ model.Answer.Sent frame
  answer : mine.answer ≡ UnitAnswer.Passed (model.Answer.Sent frame)

own_line : (configs : List Config) (w : WorldModel) (sent : List NumberedFrame)
    (later before : List LogLine) (line : LogLine) (mine : FleetLine) (call : OwnCall) (k : ℕ)
    → Sound configs w → w.log ≡ later ++ line ∷ before → (like : IsLineOf sent w.air mine line)
    → line.event.what ≡ What.Calls call → world.frame_of line.entry ≡ Some k
    → IsOwnLine mine like.whole call
own_line configs w sent later before line mine call k sound split like is gives =
    let s = sent_whole mine.number k like.whole (ap world.frame_of (sym like.entry) ∙ gives)
    (λ handed relayed e.
    let fact =
    accepted_at configs w later before line handed relayed sound split (like.entry ∙ e) in
    no_call fact.frame call (sym fact.what ∙ is)) in
    record {
      frame = s.0;
      what = own_what sent mine.event.what line.event.what call like.what is;
      whole_is = s.1;
      answer = passed_whole mine.answer s.0 (subst (IsPartOf mine.answer) s.1 like.part);
    }

-- ---- what is delivered was sent

-- a message that passes was delivered by the station
pub handed_whole : (m : Message) (relayed : Option Transmission) (whole : Answer Transmission)
    → IsPartOf (UnitAnswer.Passed (model.Answer.Accepted (Some m) relayed)) whole
    → (frame : Option Transmission) × (whole ≡ model.Answer.Accepted (Some m) frame)
handed_whole m relayed (model.Answer.Accepted message frame) part = (frame, by part.0)
  where
    by : IsPart (Some m) message
        → model.Answer.Accepted message frame ≡ model.Answer.Accepted (Some m) frame
    by (inl none) = absurd (none-some m (sym none))
    by (inr same) = ap (λ x. model.Answer.Accepted x frame) (sym same)
handed_whole m relayed (model.Answer.Sent t) part = cc
handed_whole m relayed model.Answer.Moved part = cc
handed_whole m relayed model.Answer.Opened part = cc
handed_whole m relayed model.Answer.Closed part = cc
handed_whole m relayed model.Answer.Restarted part = cc
handed_whole m relayed model.Answer.Quiet part = cc
handed_whole m relayed (model.Answer.Ignored why) part = cc
handed_whole m relayed (model.Answer.Refused refusal) part = cc

-- the frame of a delivery, in the world
record IsBrought (sent : List NumberedFrame) (w : What) (t : Transmission) : Type 0 where
  number : ℕ
  what_is : w ≡ What.Deliver number
  numbered : (air : List Transmission) → AreNumbered air sent → slice_get air number ≡ Some t

delivery_brings : (sent : List NumberedFrame) (n number : ℕ) (w : What) (t : Transmission)
    → IsDelivery sent n w → slice_get sent n ≡ Some (record { number = number; frame = t })
    → IsBrought sent w t
delivery_brings sent n number w t d got =
    let same = same_Some d.frame (record { number = number; frame = t }) (sym d.is ∙ got) in
    record {
      number = number;
      what_is = d.what_is ∙ ap (λ (f : NumberedFrame). What.Deliver f.number) same;
      numbered = λ air h. h (record { number = number; frame = t }) (n, got);
    }

brought_is : (sent : List NumberedFrame) (what : FleetWhat) (w : What) (t : Transmission)
    → IsSameWhat sent what w → Brings sent what t → IsBrought sent w t
brought_is sent (FleetWhat.Calls call) w t same brings = absurd brings
brought_is sent (FleetWhat.Deliver n) w t same brings =
    delivery_brings sent n brings.0 w t same brings.1
brought_is sent (FleetWhat.DeliverVerified n message) w t same brings =
    delivery_brings sent n brings.0 w t same brings.1
brought_is sent FleetWhat.Release w t same brings = absurd brings

-- what passes of an answer passes of a call that the station makes
never_withheld : (a : UnitAnswer) (answer : Answer Transmission) → a ≡ UnitAnswer.Passed answer
    → a ≡ UnitAnswer.OverRate → ⊥
never_withheld a answer is over = by answer (sym is ∙ over)
  where
    by : (answer : Answer Transmission) → UnitAnswer.Passed answer ≡ UnitAnswer.OverRate → ⊥
    by answer e = cc

-- what was sent in the world was sent in the fleet
sent_in_fleet : {U : Type 0} (kind : UnitKind U) (configs : List Config) (f : FleetModel U)
    (w : WorldModel) (area_kind : AreaKind) (j k : ℕ) (message : Message) (u : U)
    → Sound configs w → IsLikeWorld kind f w
    → slice_get w.stations j ≡ Some (kind.station u)
    → WasSentForHere area_kind configs w.log j k message
    → WasSent area_kind f.log message (kind.station u).vector.place
sent_in_fleet kind configs f w area_kind j k message u sound h at s =
    let by = s.earlier in
    let l = line_of kind f w by.later s.origin.before by.line h by.split in
    let own = own_line configs w f.sent by.later s.origin.before by.line l.mine
    (area_call area_kind s.request) by.number sound by.split l.like
    (ap (λ (e : Event). e.what) by.event ∙ s.sent) by.gives in
    let each = sound.each j (kind.station u) at in
    let config = same_Some each.config s.config (sym each.is_config ∙ s.receiver) in
    record {
      line = l.mine;
      request = s.request;
      frame = own.frame;
      logged = l.logged;
      call = own.what;
      answer = own.answer;
      same = s.same;
      inside = ap (area_holds s.request.area)
          (each.place ∙ ap (λ (c : Config). position_at c.place j w.log) config) ∙ s.inside;
    }

-- a delivery that the station makes
made_delivery : {U : Type 0} (kind : UnitKind U) (configs : List Config) (f : FleetModel U)
    (w : WorldModel) (next : FleetEvent) (u : U) (a : Asked) (t : Transmission)
    (area_kind : AreaKind) (number : ℕ) (area : GeoArea) (sent message : Message)
    (relayed : Option Transmission)
    → IsLikeWorld kind f w → Sound configs w → slice_get f.units next.unit ≡ Some u
    → asked f.sent next.what ≡ Some a → Brings f.sent next.what t
    → t.pdu.body ≡ area_body area_kind number area sent
    → IsPartOf (UnitAnswer.Passed (model.Answer.Accepted (Some message) relayed))
    (step_within (kind.station u) next.moment a.call).answer
    → WasSent area_kind f.log message (kind.station u).vector.place
made_delivery kind configs f w next u a t area_kind number area sent message relayed h sound at is
    brings body part =
    let event = in_world next.unit next.moment a.what in
    let step = step_within (kind.station u) next.moment a.call in
    let there = ap (λ xs. slice_get xs next.unit) (sym h.stations)
    ∙ get_map kind.station f.units next.unit u at in
    let d = does w f.sent (kind.station u) next.unit next.moment next.what a there h.sent is in
    let after = world.answered w event d.delivered step in
    let still : Sound configs after =
    subst (Sound configs) d.is (step_keeps configs w event sound) in
    let b = brought_is f.sent next.what a.what t d.same brings in
    let whole = handed_whole message relayed step.answer part in
    sent_in_fleet kind configs f w area_kind next.unit b.number message u sound h there
    (handed_as_sent configs after still area_kind [] w.log
    (record { event = event; delivered = d.delivered; entry = entry_of (length w.air) step.answer })
    b.number t number area sent message (world.numbered (length w.air) whole.0) refl b.what_is
    (get_more w.air (world.frame_of step.answer) b.number t (b.numbered w.air h.sent)) body
    (ap (entry_of (length w.air)) whole.1))

-- a call that passes an answer is made
made_if_passed : {U : Type 0} (kind : UnitKind U) → IsLateOrLost kind → (u : U) (c : UnitCallAt)
    (answer : Answer Transmission) → kind.answer u c ≡ UnitAnswer.Passed answer
    → IsPartOf (UnitAnswer.Passed answer) (whole_answer kind u c)
made_if_passed kind lawful u c answer passed = by (kind.is_withheld u c) refl
  where
    by : (b : Bool) → kind.is_withheld u c ≡ b
        → IsPartOf (UnitAnswer.Passed answer) (whole_answer kind u c)
    by true e =
        absurd (never_withheld (kind.answer u c) answer passed (lawful.withheld 0 u c e).answer)
    by false e =
        subst (λ (x : UnitAnswer). IsPartOf x (whole_answer kind u c)) passed
        (lawful.made 0 u c e).answer

pub delivers_as_sent : {U : Type 0} (kind : UnitKind U) → IsLateOrLost kind
    → (configs : List Config) (units : List U) → AreNewUnits kind configs units
    → DeliversAsSent kind units
delivers_as_sent kind lawful configs units new events next u a t area_kind number area sent message
    relayed at is brings body passed =
    made_delivery kind configs (fleet_after kind units events)
    (world_after kind configs units events) next u a t area_kind number area sent message relayed
    (fleet_is_world kind lawful configs units new events)
    (run_sound configs (world_events kind (new_fleet units) events)) at is brings body
    (made_if_passed kind lawful u (at_time next a)
    (model.Answer.Accepted (Some message) relayed) passed)

-- ---- what is sent is faithful

-- the frame that a line makes
made_whole : (n k : ℕ) (whole : Answer Transmission) → world.frame_of (entry_of n whole) ≡ Some k
    → (t : Transmission) × (world.frame_of whole ≡ Some t) × (n ≡ k)
made_whole n k (model.Answer.Sent t) gives = (t, refl, same_Some n k gives)
made_whole n k (model.Answer.Accepted handed None) gives = absurd (none-some k gives)
made_whole n k (model.Answer.Accepted handed (Some t)) gives = (t, refl, same_Some n k gives)
made_whole n k model.Answer.Moved gives = absurd (none-some k gives)
made_whole n k model.Answer.Opened gives = absurd (none-some k gives)
made_whole n k model.Answer.Closed gives = absurd (none-some k gives)
made_whole n k model.Answer.Restarted gives = absurd (none-some k gives)
made_whole n k model.Answer.Quiet gives = absurd (none-some k gives)
made_whole n k (model.Answer.Ignored why) gives = absurd (none-some k gives)
made_whole n k (model.Answer.Refused refusal) gives = absurd (none-some k gives)

-- a delivery of the world brings a frame of the fleet
brings_frame : (sent : List NumberedFrame) (air : List Transmission) (n m : ℕ) (w : What)
    (packet : Transmission) → AreNumbered air sent → IsDelivery sent n w → w ≡ What.Deliver m
    → slice_get air m ≡ Some packet
    → (number : ℕ) × (slice_get sent n ≡ Some (record { number = number; frame = packet }))
brings_frame sent air n m w packet h d is at =
    let same = same_number d.frame.number m (sym d.what_is ∙ is) in
    let frame = same_Some d.frame.frame packet
    (sym (h d.frame (n, d.is)) ∙ ap (slice_get air) same ∙ at) in (
      d.frame.number,
      d.is ∙ ap (λ (t : Transmission). Some (record { number = d.frame.number; frame = t })) frame,
    )
  where
    same_number : (k m : ℕ) → What.Deliver k ≡ What.Deliver m → k ≡ m
    same_number k m e = cc

brings_packet : (sent : List NumberedFrame) (air : List Transmission) (what : FleetWhat) (w : What)
    (m : ℕ) (packet : Transmission) → AreNumbered air sent → IsSameWhat sent what w
    → w ≡ What.Deliver m → slice_get air m ≡ Some packet → Brings sent what packet
brings_packet sent air (FleetWhat.Calls call) w m packet h same is at =
    no_call m call (sym is ∙ same)
brings_packet sent air (FleetWhat.Deliver n) w m packet h same is at =
    brings_frame sent air n m w packet h same is at
brings_packet sent air (FleetWhat.DeliverVerified n message) w m packet h same is at =
    brings_frame sent air n m w packet h same is at
brings_packet sent air FleetWhat.Release w m packet h same is at = same

-- by what the line of the world says
faithful_by : {U : Type 0} (kind : UnitKind U) (configs : List Config) (f : FleetModel U)
    (w : WorldModel) (later before : List LogLine) (line : LogLine) (what : What) (k : ℕ)
    (t : Transmission)
    → Sound configs w → IsLikeWorld kind f w → w.log ≡ later ++ line ∷ before
    → line.event.what ≡ what → world.frame_of line.entry ≡ Some k → slice_get w.air k ≡ Some t
    → IsOwnPacket f.log t ⊎ IsForwarded configs f.sent f.log t
faithful_by kind configs f w later before line (What.Calls call) k t sound h split is gives at =
    let l = line_of kind f w later before line h split in
    let own =
    own_line configs w f.sent later before line l.mine call k sound split l.like is gives in
    let made = made_whole l.mine.number k l.like.whole
    (ap world.frame_of (sym l.like.entry) ∙ gives) in
    let there = l.like.frame own.frame (ap world.frame_of own.whole_is) in
    let same = same_Some own.frame t (sym there ∙ ap (slice_get w.air) made.2 ∙ at) in
    inl (record {
      line = l.mine;
      call = call;
      logged = l.logged;
      is = own.what;
      answer = own.answer ∙ ap (λ (x : Transmission). UnitAnswer.Passed (model.Answer.Sent x)) same;
    })
faithful_by kind configs f w later before line (What.Deliver m) k t sound h split is gives at =
    let l = line_of kind f w later before line h split in
    let r = relays_are_faithful configs w sound later before line m k split is gives in
    inr (record {
      line = l.mine;
      packet = r.packet;
      config = r.config;
      target = r.target;
      logged = l.logged;
      brought = brings_packet f.sent w.air l.mine.event.what line.event.what m r.packet h.sent
          l.like.what is r.delivered;
      hops = r.hops;
      forwarder = ap (slice_get configs) (sym l.like.station) ∙ r.relayer;
      same = same_Some t _ (sym at ∙ r.given);
    })

pub frames_are_faithful : {U : Type 0} (kind : UnitKind U) → IsLateOrLost kind
    → (configs : List Config) (units : List U) → AreNewUnits kind configs units
    → FramesAreFaithful kind configs units
frames_are_faithful kind lawful configs units new events sent is =
    let f = fleet_after kind units events in
    let w = world_after kind configs units events in
    let h = fleet_is_world kind lawful configs units new events in
    let sound = run_sound configs (world_events kind (new_fleet units) events) in
    let at = h.sent sent is in
    let g = each_given w.log sent.number sound.names
    (omega (arith, sound.frames.even, get_within w.air sent.number sent.frame at)) in
    faithful_by kind configs f w g.later g.before g.line g.line.event.what sent.number sent.frame
    sound h g.split refl g.gives at
