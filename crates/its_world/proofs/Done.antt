-- An event that its station did: the world afterwards, and the entry of it.
use Rattle.std.proofs.Common.{◌≡◌, ℕ, ◌+◌, ◌<◌, ◌≤◌, List, length, set, Option, Some, sym, subst, ◌∙◌}
use Rattle.std.proofs.Common.{drop}
use Rattle.std.specs.Prelude.{Vec, slice_get}
use Rattle.std.specs.declared.alloc.Global.{Global}
use Rattle.its_faults.specs.declared.frame.FrameFault.{FrameFault}
use Rattle.its_model.specs.Packet.{Transmission}
use Rattle.its_model.specs.Calls.{Call}
use Rattle.its_model.specs.Station.{StationModel, station_step}
use Rattle.its_model.specs.World.{Event, WorldModel, entry_of, frame_of, with_one_more}
use Rattle.its_linkframe.specs.Frames.{EncodesFrame}
use Rattle.its_linkframe.specs.FrameFaults.{IsFrameFault}
use Rattle.its_station.specs.State.{StationState, RepresentsStation}
use Rattle.its_world.specs.State.{WorldState, RepresentsWorld}
use Rattle.its_world.specs.Entries.{Entry, TellsEntry}
use Rattle.its_world.specs.Frames.{AreFrames}
use Rattle.its_world.specs.Steps.{IsAskedBy, IsDelivered, IsDoneBy, IsKept}
use Rattle.its_world.proofs.Giving.{IsToldOf, given_numbered}
use Rattle.its_world.proofs.Worlds.{count_kept}
use Rattle.its_world.proofs.Logs.{answered_step, station_at}

-- the world with the room that was made for a frame
pub with_room : (inside now : WorldState) (w : WorldModel) (released : ℕ) (frames : List (Vec ℕ Global))
    → inside ≡ now → RepresentsWorld now w → released ≡ inside.released → frames ≡ inside.frames
    → RepresentsWorld (record { stations = inside.stations; released = released; frames = frames }) w
with_room inside now w released frames view h as_many same =
    let here = subst (λ (x : WorldState). RepresentsWorld x w) (sym view) h in
    record {
      stations = here.stations;
      released = subst (λ n. n ≤ length w.air) (sym as_many) here.released;
      frames =
          subst (λ n. AreFrames frames (drop n w.air)) (sym as_many)
          (subst (λ (xs : List (Vec ℕ Global)). AreFrames xs (drop inside.released w.air))
          (sym same) here.frames);
    }

-- what the station answered is the entry, and the frame that it sends, if it sends one, is the last
pub done_by : (old st new : WorldState) (e : Event) (own after : StationState) (octets : List ℕ)
    (entry : Entry) (sent : Option (Vec ℕ Global)) (next : ℕ)
    → ((a b : Transmission) (w : List ℕ) → EncodesFrame a w → EncodesFrame b w → a ≡ b)
    → ((a : Transmission) (f : FrameFault) → EncodesFrame a octets → IsFrameFault octets f → ⊥)
    → ((w : WorldModel) → RepresentsWorld old w → RepresentsWorld st w)
    → st.released ≡ old.released → e.station < length st.stations
    → ((x : StationState) → slice_get st.stations e.station ≡ Some x → own ≡ x)
    → IsDelivered st.released st.frames e.what (Some octets)
    → (asked : (call : Call) × IsAskedBy e.what octets call
    × ((s : StationModel) → RepresentsStation own s
    → IsToldOf entry sent next after (station_step s e.moment call)))
    → next ≡ st.released + length st.frames
    → new.stations ≡ set st.stations e.station after → new.released ≡ st.released
    → new.frames ≡ with_one_more st.frames sent
    → IsDoneBy old new e entry
done_by old st new e own after octets entry sent next one none here as_many within is delivered asked
    number stations released frames = λ w h kept.
    let now = here w h in
    let at = station_at st w e.station now within in
    let told = asked.2 at.2
    (subst (λ (x : StationState). RepresentsStation x at.2) (sym (is at.0 at.1)) at.4) in
    let answer = (station_step at.2 e.moment asked.0).answer in
    let counted : next ≡ length w.air =
    number ∙ count_kept st.released st.frames w.air now.released now.frames in
    let framed =
    subst (λ (xs : List (Vec ℕ Global)). AreFrames xs (drop st.released (with_one_more w.air (frame_of answer))))
    (sym frames)
    (given_numbered sent (frame_of answer) st.released st.frames w.air now.released now.frames
    told.sends) in
    let stepped = answered_step st new w e at.2 octets asked.0 one none now at.3
    (subst (λ n. IsKept n e.what) (sym as_many) kept) delivered asked.1 after told.stands stations
    released framed in (
      stepped.stands,
      entry_of (length w.air) answer,
      subst (λ n. TellsEntry entry (entry_of n answer)) counted told.told,
      stepped.last,
    )
