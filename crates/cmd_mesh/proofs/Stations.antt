-- Calls of the stations of a mesh, and what the stations stand for after them.
use Rattle.std.proofs.Common.{◌≡◌, ℕ, ◌+◌, ◌<◌, Bool, true, false, ◌||◌, List, [], ◌∷◌, ◌++◌}
use Rattle.std.proofs.Common.{length, set, zero, suc, Option, Some, None, refl, sym, ap}
use Rattle.std.proofs.Common.{◌∙◌, subst, inl, inr}
use Rattle.std.specs.Prelude.{slice_get, IsFalse, IsSomeAnd, Vec}
use Rattle.std.specs.declared.alloc.Global.{Global}
use Rattle.std.proofs.Math.Bool.{or-false, or_assoc}
use Rattle.std.proofs.lemmas.List.{length-append}
use Rattle.its_model.proofs.Lists.{get_at}
use Rattle.its_model.specs.Packet.{Transmission}
use Rattle.its_model.specs.Calls as model
use Rattle.its_model.specs.Calls.{Answer, Call as ModelCall, OwnCall, Refusal}
use Rattle.its_model.specs.Station.{StationModel, station_step}
use Rattle.its_model.specs.Isolation.{TimedCall, answers_of, station_run}
use Rattle.its_station.specs.declared.answer.Answer.TheVariants as answers
use Rattle.its_station.specs.declared.call.Call.{Call}
use Rattle.its_station.specs.declared.call.Call.TheVariants as calls
use Rattle.its_station.specs.declared.run.Reply.{Reply}
use Rattle.its_station.specs.Answers.{StationAnswer, TellsAnswer}
use Rattle.its_station.specs.Receiving.{IsFrameCall}
use Rattle.its_station.specs.Runs.{IsCall, AreCalls, AreReplies, TellsReply}
use Rattle.its_station.specs.Runs.{is_refusal, reply_of}
use Rattle.its_station.specs.State.{StationState, RepresentsStation}
use Rattle.its_station.specs.Steps.{refusal_of}
use Rattle.its_world.specs.State.{RepresentStations}
use Rattle.its_world.proofs.Worlds.{set_station, length_stations}
use Rattle.cmd_mesh.specs.Calls.{MeshCall, HasMade, mesh_step, mesh_run, any_refused, greatest}
use Rattle.cmd_mesh.specs.Calls.{called_at, answer_at, is_refused, is_own, IsInTime, AreInTime}
use Rattle.cmd_mesh.specs.Calls.{own_calls, HasReceived, HasReceivedAt}
use Rattle.cmd_mesh.specs.Stations.{IsCalled, IsNoted, IsCutShort}
use Rattle.cmd_mesh.proofs.Calls.{length_run, run-append, refused-append, in_time-append}
use Rattle.cmd_mesh.proofs.Calls.{own-append, received-append, none_own, greatest_came}

-- ---- calls that were made

-- no call
pub none_made : (models : List StationModel) (moment : ℕ) (was has : Bool)
    (stations : List StationState) → RepresentStations stations models → has ≡ was
    → HasMade models moment was [] stations has
none_made models moment was has stations represent same =
    record { stand = represent; refused = same ∙ sym (or-false was); in_time = tt }

-- one call
one_made : (models : List StationModel) (moment : ℕ) (was has : Bool) (c : MeshCall)
    (stations : List StationState) (refused : Bool) → IsInTime (length models) moment c
    → RepresentStations stations (mesh_step models c)
    → refused ≡ is_refused (answer_at (slice_get models c.station) c) → has ≡ (was || refused)
    → HasMade models moment was (c ∷ []) stations has
one_made models moment was has c stations refused timely represent is noted =
    record {
      stand = represent;
      refused = noted ∙ ap (λ (b : Bool). was || b) (is ∙ sym (or-false _));
      in_time = (timely, tt);
    }

-- some calls, and then others
pub more_made : (models : List StationModel) (moment : ℕ) (was between has : Bool)
    (xs ys : List MeshCall) (middle stations : List StationState)
    → HasMade models moment was xs middle between
    → HasMade (mesh_run models xs) (greatest moment xs) between ys stations has
    → HasMade models moment was (xs ++ ys) stations has
more_made models moment was between has xs ys middle stations first later =
    let all = mesh_run models xs in
    record {
      stand = subst (RepresentStations stations) (sym (run-append models xs ys)) later.stand;
      refused = later.refused ∙ ap (λ (b : Bool). b || any_refused all ys) first.refused
          ∙ or_assoc was (any_refused models xs) (any_refused all ys)
          ∙ ap (λ (b : Bool). was || b) (sym (refused-append models xs ys));
      in_time = in_time-append (length models) moment xs ys first.in_time
          (subst (λ (n : ℕ). AreInTime n (greatest moment xs) ys) (length_run models xs)
          later.in_time);
    }

-- ---- one call of a station, in the model

-- the call, its answer and the station after it are those of a step
pub record IsAnswered (s : StationModel) (moment : ℕ) (call : Call) (refused : Bool)
    (state : StationState) : Type 0 where
  pub made : ModelCall
  pub is : IsCall call made
  pub refuses : refused ≡ is_refused (station_step s moment made).answer
  pub stands : RepresentsStation state (station_step s moment made).station

refuses_so : (found : Option Refusal) (answer : Answer Transmission)
    → IsSomeAnd found (λ refusal. answer ≡ model.Answer.Refused refusal)
    → true ≡ is_refused answer
refuses_so None answer h = absurd h
refuses_so (Some refusal) answer h = sym (ap is_refused h)

-- an answer is a refusal if and only if the model's is
refused_alike : (answer : StationAnswer) (told : Answer Transmission) → TellsAnswer answer told
    → is_refusal (reply_of answer) ≡ is_refused told
refused_alike answers.Moved told h = sym (ap is_refused h)
refused_alike answers.Opened told h = sym (ap is_refused h)
refused_alike answers.Closed told h = sym (ap is_refused h)
refused_alike answers.Restarted told h = sym (ap is_refused h)
refused_alike answers.Quiet told h = sym (ap is_refused h)
refused_alike (answers.Sent frame) told h = sym (ap is_refused h.is)
refused_alike (answers.Ignored why) told h = sym (ap is_refused h)
refused_alike (answers.Accepted handed sent) told h = sym (ap is_refused h.is)
refused_alike (answers.Refused refused) told h = refuses_so (refusal_of refused) told h

-- so is a reply
reply_alike : (reply : Reply) (told : Answer Transmission) → TellsReply reply told
    → is_refusal reply ≡ is_refused told
reply_alike reply told (answer, same, is) =
    ap is_refusal same ∙ refused_alike answer told is

answered_by : (s : StationModel) (moment : ℕ) (call : Call) (reply : Reply) (state : StationState)
    (done : List TimedCall) → AreCalls ((moment, call) ∷ []) done
    → AreReplies (reply ∷ []) (answers_of s done) → RepresentsStation state (station_run s done)
    → IsAnswered s moment call (is_refusal reply) state
answered_by s moment call reply state [] are answers stands = absurd are
answered_by s moment call reply state (c ∷ []) are answers stands =
    record {
      made = c.call;
      is = are.1;
      refuses = reply_alike reply _
          (subst (λ (n : ℕ). TellsReply reply (station_step s n c.call).answer) are.0 answers.0);
      stands = subst (λ (n : ℕ). RepresentsStation state (station_step s n c.call).station) are.0
          stands;
    }
answered_by s moment call reply state (c ∷ d ∷ more) are answers stands = absurd are.2

-- a station that stands for what it stood for changes nothing
pub station_stays : (states : List StationState) (models : List StationModel) (j : ℕ)
    (st : StationState) (s : StationModel) → RepresentStations states models
    → slice_get models j ≡ Some s → RepresentsStation st s
    → RepresentStations (set states j st) models
station_stays [] [] j st s h e r = tt
station_stays [] (b ∷ models) j st s h e r = absurd h
station_stays (a ∷ states) [] j st s h e r = absurd h
station_stays (a ∷ states) (b ∷ models) zero st s h e r =
    let same : s ≡ b = cc in
    (subst (RepresentsStation st) same r, h.1)
station_stays (a ∷ states) (b ∷ models) (suc j) st s h e r =
    (h.0, station_stays states models j st s h.1 e r)

-- ---- one call of a mesh, in the model

-- the call of this station at this moment
abbrev pub at_station : ℕ → ℕ → ModelCall → MeshCall
at_station j moment made = record { station = j; moment = moment; call = made }

-- the call, and the stations after it, are those of a step of the mesh
record IsStepped (models : List StationModel) (j moment : ℕ) (call : Call) (refused : Bool)
    (new : List StationState) : Type 0 where
  made : ModelCall
  is : IsCall call made
  stands : RepresentStations new (mesh_step models (at_station j moment made))
  refuses : refused ≡ is_refused (answer_at (slice_get models j) (at_station j moment made))

-- a station that is there made a call
called_there : (old new : List StationState) (models : List StationModel) (s : StationModel)
    (j moment : ℕ) (call : Call) (refused : Bool) → RepresentStations old models
    → slice_get models j ≡ Some s → IsCalled old (Some s) j moment call refused new
    → IsStepped models j moment call refused new
called_there old new models s j moment call refused represent at called =
    let reply = called.0 in
    let state = called.1 in
    let run = called.2.run in
    let a : IsAnswered s moment call (is_refusal reply) state =
    answered_by s moment call reply state run.done run.are run.answers run.station in
    let c = at_station j moment a.made in
    let after = (station_step s moment a.made).station in
    record {
      made = a.made;
      is = a.is;
      stands = subst (λ (found : Option StationModel).
          RepresentStations new (called_at models found c)) (sym at)
          (subst (λ (l : List StationState). RepresentStations l (set models j after))
          (sym called.4) (set_station old models j state after represent a.stands));
      refuses = called.3 ∙ a.refuses
          ∙ ap (λ (found : Option StationModel). is_refused (answer_at found c)) (sym at);
    }

-- an own call stands for one of the model alone
same_call : (call : Call) (made : ModelCall) (own : OwnCall) → IsCall call made
    → IsCall call (model.Call.Own own) → made ≡ model.Call.Own own
same_call (calls.Own call) made own a b = a ∙ sym b
same_call (calls.Receive frame) made own a b = absurd b

own_in_time : (count moment : ℕ) (c : MeshCall) → is_own c.call ≡ true → IsInTime count moment c
own_in_time count moment c own = λ other. (
    let no : true ≡ false = sym own ∙ other in
    absurd (never no))
  where
    never : true ≡ false → ⊥
    never h = cc

-- the call of an event was made
pub own_made : (old new : List StationState) (models : List StationModel) (j moment : ℕ)
    (call : Call) (own : OwnCall) (before : ℕ) (was has : Bool) → RepresentStations old models
    → IsCall call (model.Call.Own own)
    → IsNoted old (slice_get models j) j moment call was new has
    → HasMade models before was (at_station j moment (model.Call.Own own) ∷ []) new has
own_made old new models j moment call own before was has represent is noted =
    by (slice_get models j) refl noted
  where
    c : MeshCall
    c = at_station j moment (model.Call.Own own)

    by : (found : Option StationModel) → slice_get models j ≡ found
        → IsNoted old found j moment call was new has → HasMade models before was (c ∷ []) new has
    by None at noted =
        one_made models before was has c new noted.0 (own_in_time (length models) before c refl)
        (subst (λ (found : Option StationModel). RepresentStations new (called_at models found c))
        (sym at) (subst (λ (l : List StationState). RepresentStations l models) (sym noted.1.0)
        represent))
        (noted.1.1 ∙ ap (λ (found : Option StationModel). is_refused (answer_at found c)) (sym at))
        noted.2
    by (Some s) at noted =
        let m = called_there old new models s j moment call noted.0 represent at noted.1 in
        let same = same_call call m.made own m.is is in
        one_made models before was has c new noted.0 (own_in_time (length models) before c refl)
        (subst (λ (made : ModelCall). RepresentStations new (mesh_step models
        (at_station j moment made))) same m.stands)
        (m.refuses ∙ ap (λ (made : ModelCall). is_refused (answer_at (slice_get models j)
        (at_station j moment made))) same)
        noted.2

not_own : (octets : List ℕ) (made : ModelCall) → IsFrameCall octets made → IsFalse (is_own made)
not_own octets (model.Call.Own own) h = absurd h
not_own octets (model.Call.Receive t) h = refl
not_own octets (model.Call.Junk fault) h = refl

-- ---- what came by the socket of a station

-- one datagram was received
received_made : (old new : List StationState) (models : List StationModel) (j moment : ℕ)
    (frame : Vec ℕ Global) (was has : Bool) → RepresentStations old models → j < length models
    → IsNoted old (slice_get models j) j moment (calls.Receive frame) was new has
    → HasReceivedAt models j moment was new has 1
received_made old new models j moment frame was has represent within noted =
    let at = get_at models j within in
    let there = subst (λ (found : Option StationModel).
    IsNoted old found j moment (calls.Receive frame) was new has) at.1 noted in
    let m = called_there old new models at.0 j moment (calls.Receive frame) there.0 represent at.1
    there.1 in
    let c = at_station j moment m.made in
    record {
      calls = c ∷ [];
      received = (refl, refl, not_own frame.items m.made m.is, tt);
      made = one_made models moment was has c new there.0 (λ _. (within, refl)) m.stands m.refuses
          there.2;
      as_many = refl;
    }

-- what came first, and one datagram more
pub received_more : (middle new : List StationState) (models : List StationModel) (j moment : ℕ)
    (frame : Vec ℕ Global) (was between has : Bool) (count : ℕ) → j < length models
    → (first : HasReceivedAt models j moment was middle between count)
    → IsNoted middle (slice_get (mesh_run models first.calls) j) j moment (calls.Receive frame)
    between new has
    → HasReceivedAt models j moment was new has (count + 1)
received_more middle new models j moment frame was between has count within first noted =
    let all = mesh_run models first.calls in
    let there : j < length all = subst (λ (n : ℕ). j < n) (sym (length_run models first.calls))
    within in
    let one = received_made middle new all j moment frame between has first.made.stand there noted
    in
    let same = greatest_came (length models) moment first.calls
    (none_own j moment first.calls first.received) first.made.in_time in
    record {
      calls = first.calls ++ one.calls;
      received = received-append j moment first.calls one.calls first.received one.received;
      made = more_made models moment was between has first.calls one.calls middle new first.made
          (subst (λ (n : ℕ). HasMade all n between one.calls new has) (sym same) one.made);
      as_many = length-append first.calls one.calls
          ∙ ap (λ (n : ℕ). n + length one.calls) first.as_many
          ∙ ap (λ (n : ℕ). count + n) one.as_many;
    }

-- where one more was cut short
pub received_cut : (middle new : List StationState) (models : List StationModel) (j moment : ℕ)
    (frame : Vec ℕ Global) (was between has : Bool) (count : ℕ) → j < length models
    → (first : HasReceivedAt models j moment was middle between count)
    → IsCutShort middle (mesh_run models first.calls)
    (slice_get (mesh_run models first.calls) j) j moment (calls.Receive frame) between new has
    → (n : ℕ) × HasReceivedAt models j moment was new has n
received_cut middle new models j moment frame was between has count within first cut =
    elim cut [
      | inl unmade ↦ (
        count,
        record {
          calls = first.calls;
          received = first.received;
          made = record {
            stand = unmade.0;
            refused = unmade.1 ∙ first.made.refused;
            in_time = first.made.in_time;
          };
          as_many = first.as_many;
        },
      )
      | inr noted ↦ (
        count + 1,
        received_more middle new models j moment frame was between has count within first noted,
      )
    ]

-- ---- what came by sockets

pub none_came : (models : List StationModel) (moment : ℕ) (was : Bool)
    (stations : List StationState) → RepresentStations stations models
    → HasReceived models moment was stations was
none_came models moment was stations represent =
    ([], refl, none_made models moment was was stations represent refl)

-- what came first, and then more
pub more_came : (models : List StationModel) (moment : ℕ) (was between has : Bool)
    (middle new : List StationState) → HasReceived models moment was middle between
    → ((ms : List StationModel) → RepresentStations middle ms → length ms ≡ length models
    → HasReceived ms moment between new has)
    → HasReceived models moment was new has
more_came models moment was between has middle new first later =
    let came = first.0 in
    let all = mesh_run models came in
    let more = later all first.2.stand (length_run models came) in
    let same = greatest_came (length models) moment came first.1 first.2.in_time in (
      came ++ more.0,
      own-append came more.0 ∙ ap (λ (l : List MeshCall). l ++ own_calls more.0) first.1 ∙ more.1,
      more_made models moment was between has came more.0 middle new first.2
          (subst (λ (n : ℕ). HasMade all n between more.0 new has) (sym same) more.2),
    )

-- what came by the socket of one station
pub came_at : (models : List StationModel) (j moment : ℕ) (was has : Bool)
    (stations : List StationState) (count : ℕ)
    → HasReceivedAt models j moment was stations has count
    → HasReceived models moment was stations has
came_at models j moment was has stations count at =
    (at.calls, none_own j moment at.calls at.received, at.made)

-- that no socket was asked
pub none_received : (models : List StationModel) (j moment : ℕ) (was : Bool)
    (stations : List StationState) → RepresentStations stations models
    → HasReceivedAt models j moment was stations was 0
none_received models j moment was stations represent =
    record {
      calls = [];
      received = tt;
      made = none_made models moment was was stations represent refl;
      as_many = refl;
    }

-- what came first, and then more, at the same moment
pub more_rounds : (models : List StationModel) (moment n : ℕ) (was between has : Bool)
    (middle new : List StationState) → n ≡ moment → HasReceived models moment was middle between
    → ((ms : List StationModel) → RepresentStations middle ms → HasReceived ms n between new has)
    → HasReceived models moment was new has
more_rounds models moment n was between has middle new same first later =
    more_came models moment was between has middle new first
    (λ ms r _. subst (λ (k : ℕ). HasReceived ms k between new has) same (later ms r))

-- what came first, and then more by the socket of a station that is there
pub more_there : (models : List StationModel) (moment n j : ℕ) (was between has : Bool)
    (old middle new : List StationState) → RepresentStations old models → j < length old
    → n ≡ moment → HasReceived models moment was middle between
    → ((ms : List StationModel) → RepresentStations middle ms → j < length middle
    → (count : ℕ) × HasReceivedAt ms j n between new has count)
    → HasReceived models moment was new has
more_there models moment n j was between has old middle new represent within same first later =
    more_came models moment was between has middle new first (λ ms r many. (
    let as_many = length_stations middle ms r ∙ many ∙ sym (length_stations old models represent) in
    let got = later ms r (subst (λ (k : ℕ). j < k) (sym as_many) within) in
    subst (λ (k : ℕ). HasReceived ms k between new has) same
    (came_at ms j n between has new got.0 got.1)))
