-- One event of a world, and its line in the log.
use Rattle.std.proofs.Common.{◌≡◌, ℕ, zero, suc, ◌<◌, ◌≤◌, get_or, append_assoc, List, [], ◌∷◌}
use Rattle.std.proofs.Common.{◌++◌, length, map, set, Option, Some, None, refl, sym, ap}
use Rattle.std.proofs.Common.{subst, ◌∙◌, arith, drop, length-append}
use Rattle.std.specs.Prelude.{slice_get, Vec}
use Rattle.std.specs.Option.{option_map}
use Rattle.std.specs.declared.alloc.Global.{Global}
use Rattle.std.proofs.lemmas.List.{append-nil, reverse-append}
use Rattle.its_model.proofs.Lists.{get_at}
use Rattle.its_faults.specs.declared.frame.FrameFault.{FrameFault}
use Rattle.its_model.specs.Packet.{Transmission}
use Rattle.its_model.specs.Calls as model
use Rattle.its_model.specs.Calls.{Answer, Call, Refusal}
use Rattle.its_model.specs.Station.{StationModel, station_step}
use Rattle.its_model.specs.World.{What, Event, LogLine, WorldModel, answered, asked, at_station}
use Rattle.its_model.specs.World.{delivery, passed_over, entries, entry_of, frame_of, with_one_more}
use Rattle.its_model.specs.World.{world_run, world_step}
use Rattle.its_model.specs.World.What.{Calls, Deliver}
use Rattle.its_linkframe.specs.Frames.{EncodesFrame}
use Rattle.its_linkframe.specs.FrameFaults.{IsFrameFault}
use Rattle.its_station.specs.State.{StationState, RepresentsStation}
use Rattle.its_station.specs.Receiving.{IsFrameCall}
use Rattle.its_world.specs.State.{WorldState, RepresentsWorld, RepresentStations}
use Rattle.its_world.specs.Frames.{AreFrames, frame_in}
use Rattle.its_world.specs.Steps.{IsAskedBy, IsDelivered, IsKept}
use Rattle.its_world.specs.Entries.{AreEntries, Entry, TellsEntry}
use Rattle.its_world.specs.Runs.{IsRunOf}
use Rattle.its_world.proofs.Worlds.{length_stations, get_station, no_station, set_station}
use Rattle.its_world.proofs.Worlds.{get_kept, no_kept}

-- a log with one more line has one more entry
pub entries_more : (line : LogLine) (log : List LogLine)
    → entries (line ∷ log) ≡ entries log ++ line.entry ∷ []
entries_more line log = reverse-append (line.entry ∷ []) (map (λ (x : LogLine). x.entry) log)

-- what is told of a step: the world stands, and this entry is the last
pub record IsStepTo (w : WorldModel) (after : WorldModel) (new : WorldState)
    (entry : Answer ℕ) : Type 0 where
  pub stands : RepresentsWorld new after
  pub last : entries after.log ≡ entries w.log ++ entry ∷ []

-- an event that is passed over
pub passed : (st : WorldState) (w : WorldModel) (e : Event) (r : Refusal) → RepresentsWorld st w
    → IsStepTo w (passed_over w e r) st (model.Answer.Refused r)
passed st w e r h =
    record {
      stands = record { stations = h.stations; released = h.released; frames = h.frames };
      last = entries_more (record {
        event = e;
        delivered = None;
        entry = model.Answer.Refused r;
      }) w.log;
    }

-- there is no such station
pub nowhere : (st : WorldState) (w : WorldModel) (e : Event) → RepresentsWorld st w
    → length st.stations ≤ e.station
    → IsStepTo w (world_step w e) st (model.Answer.Refused model.Refusal.NoSuchStation)
nowhere st w e h le =
    let none : slice_get w.stations e.station ≡ None =
    no_station w.stations e.station
    (subst (λ n. n ≤ e.station) (length_stations st.stations w.stations h.stations) le) in
    subst (λ o. IsStepTo w (at_station w e o) st (model.Answer.Refused model.Refusal.NoSuchStation))
    (sym none) (passed st w e model.Refusal.NoSuchStation h)

-- there is no such frame
pub undelivered : (st : WorldState) (w : WorldModel) (e : Event) (s : StationModel)
    → RepresentsWorld st w → slice_get w.stations e.station ≡ Some s
    → IsKept st.released e.what → IsDelivered st.released st.frames e.what None
    → IsStepTo w (world_step w e) st (model.Answer.Refused model.Refusal.NoSuchFrame)
undelivered st w e s h at kept none =
    subst (λ o. IsStepTo w (at_station w e o) st (model.Answer.Refused model.Refusal.NoSuchFrame))
    (sym at) (by e.what kept none)
  where
    unmapped : (o : Option (Vec ℕ Global)) → None ≡ option_map (λ (w : Vec ℕ Global). w.items) o
        → o ≡ None
    unmapped None i = refl
    unmapped (Some v) i = cc

    by : (what : What) → IsKept st.released what → IsDelivered st.released st.frames what None
        → IsStepTo w (asked w e s what) st (model.Answer.Refused model.Refusal.NoSuchFrame)
    by (Calls call) kept i = cc
    by (Deliver k) kept i =
        subst (λ o.
        IsStepTo w (delivery w e s o) st (model.Answer.Refused model.Refusal.NoSuchFrame))
        (sym (no_kept st.released st.frames w.air k h.frames kept
        (unmapped (frame_in st.released st.frames k) i)))
        (passed st w e model.Refusal.NoSuchFrame h)

-- octets that are a frame are asked as this frame
asked_frame : (t : Transmission) (octets : List ℕ) (call : Call)
    → ((a b : Transmission) (w : List ℕ) → EncodesFrame a w → EncodesFrame b w → a ≡ b)
    → ((a : Transmission) (f : FrameFault) → EncodesFrame a octets → IsFrameFault octets f → ⊥)
    → EncodesFrame t octets → IsFrameCall octets call → call ≡ model.Call.Receive t
asked_frame t octets (model.Call.Own call) one none enc is = absurd is
asked_frame t octets (model.Call.Receive u) one none enc is =
    ap model.Call.Receive (one u t octets is enc)
asked_frame t octets (model.Call.Junk fault) one none enc is = absurd (none t fault enc is)

-- with perhaps one more
no_shorter : {X : Type 0} (n : ℕ) (xs : List X) (more : Option X) → n ≤ length xs
    → n ≤ length (with_one_more xs more)
no_shorter n xs None le = le
no_shorter n xs (Some x) le = omega (arith, le, length-append xs (x ∷ []))

-- an event that its station answered
pub answered_step : (st new : WorldState) (w : WorldModel) (e : Event) (s : StationModel)
    (octets : List ℕ) (call : Call)
    → ((a b : Transmission) (w : List ℕ) → EncodesFrame a w → EncodesFrame b w → a ≡ b)
    → ((a : Transmission) (f : FrameFault) → EncodesFrame a octets → IsFrameFault octets f → ⊥)
    → RepresentsWorld st w → slice_get w.stations e.station ≡ Some s
    → IsKept st.released e.what → IsDelivered st.released st.frames e.what (Some octets)
    → IsAskedBy e.what octets call
    → let step = station_step s e.moment call in
    (after : StationState) → RepresentsStation after step.station
    → new.stations ≡ set st.stations e.station after → new.released ≡ st.released
    → AreFrames new.frames (drop st.released (with_one_more w.air (frame_of step.answer)))
    → IsStepTo w (world_step w e) new (entry_of (length w.air) step.answer)
answered_step st new w e s octets call one none h at kept delivered asked_by after rep stations
    released frames =
    let step = station_step s e.moment call in
    subst (λ o. IsStepTo w (at_station w e o) new (entry_of (length w.air) step.answer)) (sym at)
    (by e.what kept delivered asked_by)
  where
    told : (o : Option Transmission) (call : Call) (octets : List ℕ)
        → RepresentsStation after (station_step s e.moment call).station
        → AreFrames new.frames
        (drop st.released (with_one_more w.air (frame_of (station_step s e.moment call).answer)))
        → IsStepTo w (answered w e o (station_step s e.moment call)) new
        (entry_of (length w.air) (station_step s e.moment call).answer)
    told o call octets rep frames =
        let step = station_step s e.moment call in
        record {
          stands = record {
            stations = subst
                (λ (xs : List StationState).
                RepresentStations xs (set w.stations e.station step.station)) (sym stations)
                (set_station st.stations w.stations e.station after step.station h.stations rep);
            released =
                subst (λ n. n ≤ length (with_one_more w.air (frame_of step.answer))) (sym released)
                (no_shorter st.released w.air (frame_of step.answer) h.released);
            frames =
                subst (λ n.
                AreFrames new.frames (drop n (with_one_more w.air (frame_of step.answer))))
                (sym released) frames;
          };
          last = entries_more (record {
            event = e;
            delivered = o;
            entry = entry_of (length w.air) step.answer;
          }) w.log;
        }

    framed : (k : ℕ) (o : Option (Vec ℕ Global)) → st.released ≤ k
        → frame_in st.released st.frames k ≡ o
        → Some octets ≡ option_map (λ (w : Vec ℕ Global). w.items) o → IsFrameCall octets call
        → IsStepTo w (delivery w e s (slice_get w.air k)) new
        (entry_of (length w.air) (station_step s e.moment call).answer)
    framed k None le is i c = cc
    framed k (Some v) le is i c =
        let f = get_kept st.released st.frames w.air k v h.frames le is in
        let same : v.items ≡ octets = cc in
        let is_call : call ≡ model.Call.Receive f.0 =
        asked_frame f.0 octets call one none (subst (EncodesFrame f.0) same f.2) c in
        subst (λ x.
        IsStepTo w (delivery w e s x) new
        (entry_of (length w.air) (station_step s e.moment call).answer)) (sym f.1)
        (subst (λ (x : Call).
        IsStepTo w (answered w e (Some f.0) (station_step s e.moment x)) new
        (entry_of (length w.air) (station_step s e.moment call).answer)) is_call
        (told (Some f.0) call octets rep frames))

    by : (what : What) → IsKept st.released what
        → IsDelivered st.released st.frames what (Some octets) → IsAskedBy what octets call
        → IsStepTo w (asked w e s what) new
        (entry_of (length w.air) (station_step s e.moment call).answer)
    by (Calls own) kept i is =
        subst (λ (x : Call).
        IsStepTo w (answered w e None (station_step s e.moment x)) new
        (entry_of (length w.air) (station_step s e.moment call).answer)) is
        (told None call octets rep frames)
    by (Deliver k) kept i is = framed k (frame_in st.released st.frames k) kept refl i is

-- where a station is within the list, it stands for one
pub station_at : (st : WorldState) (w : WorldModel) (j : ℕ) → RepresentsWorld st w
    → j < length st.stations
    → (own : StationState) × (slice_get st.stations j ≡ Some own) × (s : StationModel)
    × (slice_get w.stations j ≡ Some s) × RepresentsStation own s
station_at st w j h within =
    let at = get_at st.stations j within in
    let s = get_station st.stations w.stations j at.0 h.stations at.1 in
    (at.0, at.1, s.0, s.1, s.2)

-- what is at an index
pub get_or_is : {X : Type 0} (xs : List X) (j : ℕ) (x d : X) → slice_get xs j ≡ Some x
    → get_or xs j d ≡ x
get_or_is [] j x d e = cc
get_or_is (a ∷ xs) zero x d e = cc
get_or_is (a ∷ xs) (suc j) x d e = get_or_is xs j x d e

-- no events
pub run_none : (w : WorldModel) (new : WorldState) → RepresentsWorld new w → IsRunOf w [] [] new
run_none w new h =
    record { stands = h; answers = []; grown = sym (append-nil (entries w.log)); told = tt }

-- one more entry
entries_last : (log : List Entry) (answers : List (Answer ℕ)) (entry : Entry) (answer : Answer ℕ)
    → AreEntries log answers → TellsEntry entry answer
    → AreEntries (log ++ entry ∷ []) (answers ++ answer ∷ [])
entries_last [] [] entry answer h t = (t, tt)
entries_last [] (a ∷ answers) entry answer h t = absurd h
entries_last (e ∷ log) [] entry answer h t = absurd h
entries_last (e ∷ log) (a ∷ answers) entry answer h t =
    (h.0, entries_last log answers entry answer h.1 t)

-- one more event
pub run_more : (w : WorldModel) (events : List Event) (x : Event) (log : List Entry) (entry : Entry)
    (mid new : WorldState)
    → ((v : WorldModel) (first next : List Event)
    → world_run v (first ++ next) ≡ world_run (world_run v first) next)
    → IsRunOf w events log mid
    → ((v : WorldModel) → RepresentsWorld mid v
    → RepresentsWorld new (world_step v x) × (answer : Answer ℕ) × TellsEntry entry answer
    × (entries (world_step v x).log ≡ entries v.log ++ answer ∷ []))
    → IsRunOf w (events ++ x ∷ []) (log ++ entry ∷ []) new
run_more w events x log entry mid new goes run step =
    let told = step (world_run w events) run.stands in
    let on : world_run w (events ++ x ∷ []) ≡ world_step (world_run w events) x =
    goes w events (x ∷ []) in
    record {
      stands = subst (RepresentsWorld new) (sym on) told.0;
      answers = run.answers ++ told.1 ∷ [];
      grown = ap (λ (v : WorldModel). entries v.log) on ∙ told.3
          ∙ ap (λ xs. xs ++ told.1 ∷ []) run.grown
          ∙ append_assoc (entries w.log) run.answers (told.1 ∷ []);
      told = entries_last log run.answers entry told.1 run.told told.2;
    }
