-- A world and the world of the model that it represents, one for one.
use Rattle.std.proofs.Common.{◌≡◌, ◌≢◌, ℕ, zero, suc, ◌+◌, ◌-◌, ◌<◌, ◌≤◌, List, [], ◌∷◌, ◌++◌}
use Rattle.std.proofs.Common.{length, set, drop, Option, Some, None, Bool, true, false, cond, refl}
use Rattle.std.proofs.Common.{sym, ap, subst, ◌∙◌, arith, tests, length-drop, IfSome}
use Rattle.std.proofs.lemmas.List.{drop-append-le, drop-drop, length-append, length-set}
use Rattle.std.specs.Prelude.{slice_get, nat_le, Vec}
use Rattle.std.specs.Option.{option_map}
use Rattle.std.specs.declared.alloc.Global.{Global}
use Rattle.its_model.specs.Packet.{Transmission}
use Rattle.its_model.specs.Station.{StationModel}
use Rattle.its_model.specs.World.{What}
use Rattle.its_model.specs.World.What.{Calls, Deliver}
use Rattle.its_linkframe.specs.Frames.{EncodesFrame}
use Rattle.its_station.specs.State.{StationState, RepresentsStation}
use Rattle.its_model.specs.World.{with_one_more}
use Rattle.its_world.specs.Frames.{AreFrames, frame_in}
use Rattle.its_station.specs.declared.known.FrameContents.{FrameContents}
use Rattle.its_station.specs.Known.{AreContentsOf}
use Rattle.its_world.specs.Read.{IsReadFrom}
use Rattle.its_world.specs.declared.world.ReadFrame.{ReadFrame}
use Rattle.its_world.specs.State.{RepresentStations}
use Rattle.its_world.specs.Steps.{AreSameBut, IsKept}

-- the stations are as many
pub length_stations : (states : List StationState) (models : List StationModel)
    → RepresentStations states models → length states ≡ length models
length_stations [] [] h = refl
length_stations [] (s ∷ models) h = absurd h
length_stations (st ∷ states) [] h = absurd h
length_stations (st ∷ states) (s ∷ models) h = ap suc (length_stations states models h.1)

-- a station stands for the one of its number
pub get_station : (states : List StationState) (models : List StationModel) (j : ℕ)
    (st : StationState) → RepresentStations states models → slice_get states j ≡ Some st
    → (s : StationModel) × (slice_get models j ≡ Some s) × RepresentsStation st s
get_station [] models j st h e = cc
get_station (a ∷ states) [] j st h e = absurd h
get_station (a ∷ states) (s ∷ models) zero st h e =
    let same : a ≡ st = cc in
    (s, refl, subst (λ x. RepresentsStation x s) same h.0)
get_station (a ∷ states) (s ∷ models) (suc j) st h e = get_station states models j st h.1 e

-- past the last there is none
pub no_station : (models : List StationModel) (j : ℕ) → length models ≤ j
    → slice_get models j ≡ None
no_station [] j le = refl
no_station (s ∷ models) zero le = absurd (omega arith)
no_station (s ∷ models) (suc j) le = no_station models j (omega arith)

-- one more step of one of them
pub set_station : (states : List StationState) (models : List StationModel) (j : ℕ)
    (st : StationState) (s : StationModel) → RepresentStations states models
    → RepresentsStation st s
    → RepresentStations (set states j st) (set models j s)
set_station [] [] j st s h r = tt
set_station [] (b ∷ models) j st s h r = absurd h
set_station (a ∷ states) [] j st s h r = absurd h
set_station (a ∷ states) (b ∷ models) zero st s h r = (r, h.1)
set_station (a ∷ states) (b ∷ models) (suc j) st s h r =
    (h.0, set_station states models j st s h.1 r)

-- one more station
pub station_last : (states : List StationState) (models : List StationModel) (st : StationState)
    (s : StationModel) → RepresentStations states models → RepresentsStation st s
    → RepresentStations (states ++ st ∷ []) (models ++ s ∷ [])
station_last [] [] st s h r = (r, tt)
station_last [] (b ∷ models) st s h r = absurd h
station_last (a ∷ states) [] st s h r = absurd h
station_last (a ∷ states) (b ∷ models) st s h r = (h.0, station_last states models st s h.1 r)

-- the frames are as many
pub length_frames : (frames : List (Vec ℕ Global)) (air : List Transmission) → AreFrames frames air
    → length frames ≡ length air
length_frames [] [] h = refl
length_frames [] (t ∷ air) h = absurd h
length_frames (w ∷ frames) [] h = absurd h
length_frames (w ∷ frames) (t ∷ air) h = ap suc (length_frames frames air h.1)

-- a frame encodes the one of its number
pub get_frame : (frames : List (Vec ℕ Global)) (air : List Transmission) (k : ℕ) (w : Vec ℕ Global)
    → AreFrames frames air → slice_get frames k ≡ Some w
    → (t : Transmission) × (slice_get air k ≡ Some t) × EncodesFrame t w.items
get_frame [] air k w h e = cc
get_frame (a ∷ frames) [] k w h e = absurd h
get_frame (a ∷ frames) (t ∷ air) zero w h e =
    let same : a ≡ w = cc in
    (t, refl, subst (λ (x : Vec ℕ Global). EncodesFrame t x.items) same h.0)
get_frame (a ∷ frames) (t ∷ air) (suc k) w h e = get_frame frames air k w h.1 e

-- where there is none there is none
pub no_frame : (frames : List (Vec ℕ Global)) (air : List Transmission) (k : ℕ)
    → AreFrames frames air → slice_get frames k ≡ None → slice_get air k ≡ None
no_frame [] [] k h e = refl
no_frame [] (t ∷ air) k h e = absurd h
no_frame (w ∷ frames) [] k h e = absurd h
no_frame (w ∷ frames) (t ∷ air) zero h e = cc
no_frame (w ∷ frames) (t ∷ air) (suc k) h e = no_frame frames air k h.1 e

-- one more frame
pub frame_last : (frames : List (Vec ℕ Global)) (air : List Transmission) (w : Vec ℕ Global)
    (t : Transmission) → AreFrames frames air → EncodesFrame t w.items
    → AreFrames (frames ++ w ∷ []) (air ++ t ∷ [])
frame_last [] [] w t h e = (e, tt)
frame_last [] (u ∷ air) w t h e = absurd h
frame_last (v ∷ frames) [] w t h e = absurd h
frame_last (v ∷ frames) (u ∷ air) w t h e = (h.0, frame_last frames air w t h.1 e)

-- what is at a place behind a prefix is there in the whole
at_dropped : {X : Type 0} (xs : List X) (r j k : ℕ) → r + j ≡ k
    → slice_get (drop r xs) j ≡ slice_get xs k
at_dropped xs zero j k e = let same : j ≡ k = omega (arith, e) in ap (slice_get xs) same
at_dropped [] (suc r) j k e = refl
at_dropped (x ∷ xs) (suc r) j zero e = absurd (omega (arith, e))
at_dropped (x ∷ xs) (suc r) j (suc k) e = at_dropped xs r j k (omega (arith, e))

-- a frame that is kept is at its number without those that were let go
kept_in : (released : ℕ) (frames : List (Vec ℕ Global)) (k : ℕ) → released ≤ k
    → frame_in released frames k ≡ slice_get frames (k - released)
kept_in released frames k le =
    let is_kept : nat_le released k ≡ true = grind (arith, tests, le) in
    ap (λ (b : Bool). cond b (slice_get frames (k - released)) None) is_kept

-- a frame that is kept encodes the one of its number
pub get_kept : (released : ℕ) (frames : List (Vec ℕ Global)) (air : List Transmission) (k : ℕ)
    (w : Vec ℕ Global) → AreFrames frames (drop released air) → released ≤ k
    → frame_in released frames k ≡ Some w
    → (t : Transmission) × (slice_get air k ≡ Some t) × EncodesFrame t w.items
get_kept released frames air k w h le e =
    let place = k - released in
    let f = get_frame frames (drop released air) place w h
    (sym (kept_in released frames k le) ∙ e) in
    (f.0, sym (at_dropped air released place k (omega (arith, le))) ∙ f.1, f.2)

-- where none of them is kept there is none
pub no_kept : (released : ℕ) (frames : List (Vec ℕ Global)) (air : List Transmission) (k : ℕ)
    → AreFrames frames (drop released air) → released ≤ k → frame_in released frames k ≡ None
    → slice_get air k ≡ None
no_kept released frames air k h le e =
    let place = k - released in
    sym (at_dropped air released place k (omega (arith, le)))
    ∙ no_frame frames (drop released air) place h (sym (kept_in released frames k le) ∙ e)

-- those that were let go and those that are kept are all
pub count_kept : (released : ℕ) (frames : List (Vec ℕ Global)) (air : List Transmission)
    → released ≤ length air → AreFrames frames (drop released air)
    → released + length frames ≡ length air
count_kept released frames air le h =
    omega (arith, le, length_frames frames (drop released air) h, length-drop released air)

-- one more frame behind those that are kept
pub kept_last : (released : ℕ) (frames : List (Vec ℕ Global)) (air : List Transmission)
    (w : Vec ℕ Global) (t : Transmission) → released ≤ length air
    → AreFrames frames (drop released air) → EncodesFrame t w.items
    → AreFrames (frames ++ w ∷ []) (drop released (air ++ t ∷ []))
kept_last released frames air w t le h e =
    subst (AreFrames (frames ++ w ∷ [])) (sym (drop-append-le released air (t ∷ []) le))
    (frame_last frames (drop released air) w t h e)

-- the frames without the first ones
frames_left : (n : ℕ) (frames : List (Vec ℕ Global)) (air : List Transmission)
    → AreFrames frames air → AreFrames (drop n frames) (drop n air)
frames_left zero frames air h = h
frames_left (suc n) [] [] h = tt
frames_left (suc n) [] (t ∷ air) h = absurd h
frames_left (suc n) (w ∷ frames) [] h = absurd h
frames_left (suc n) (w ∷ frames) (t ∷ air) h = frames_left n frames air h.1

-- more frames were let go
pub kept_left : (released now : ℕ) (frames : List (Vec ℕ Global)) (air : List Transmission)
    → released ≤ now → AreFrames frames (drop released air)
    → AreFrames (drop (now - released) frames) (drop now air)
kept_left released now frames air le h =
    let n = now - released in
    let all : released + n ≡ now = omega (arith, le) in
    subst (AreFrames (drop n frames)) (drop-drop n released air ∙ ap (λ k. drop k air) all)
    (frames_left n frames (drop released air) h)

-- where nothing was let go, all is kept
pub none_gone : (released : ℕ) (what : What) → released ≡ 0 → IsKept released what
none_gone released (Calls call) e = tt
none_gone released (Deliver k) e = omega (arith, e)

-- ---- a frame that was read
left_part : {X : Type 0} (xs : List X) (x : X) (i : ℕ) → i < length xs
    → slice_get (xs ++ x ∷ []) i ≡ slice_get xs i
left_part [] x i lt = absurd (omega (arith, lt))
left_part (y ∷ xs) x zero lt = refl
left_part (y ∷ xs) x (suc i) lt = left_part xs x i (omega (arith, lt))

-- its contents are known also if one more is sent
read_more : (released : ℕ) (frames : List (Vec ℕ Global)) (sent : Option (Vec ℕ Global))
    (r : ReadFrame) → IsReadFrom released frames r
    → IsReadFrom released (with_one_more frames sent) r
read_more released frames None r h = h
read_more released frames (Some x) r h = (
  omega (arith, h.0, length-append frames (x ∷ [])),
  λ w e. h.1 w (same (nat_le released r.number) refl ∙ e),
)
  where
    same : (b : Bool) → nat_le released r.number ≡ b
        → cond b (slice_get frames (r.number - released)) None
        ≡ cond b (slice_get (frames ++ x ∷ []) (r.number - released)) None
    same false e = refl
    same true e =
        let within : r.number - released < length frames = grind (arith, tests, e, h.0) in
        sym (left_part frames x (r.number - released) within)

pub read_on : (read : Option ReadFrame) (released now : ℕ) (frames after : List (Vec ℕ Global))
    (sent : Option (Vec ℕ Global)) → now ≡ released → after ≡ with_one_more frames sent
    → IfSome read (IsReadFrom released frames) → IfSome read (IsReadFrom now after)
read_on None released now frames after sent is e h = tt
read_on (Some r) released now frames after sent is e h =
    subst (λ n. IsReadFrom n after r) (sym is)
    (subst (λ (xs : List (Vec ℕ Global)). IsReadFrom released xs r) (sym e)
    (read_more released frames sent r h))

get_within : {X : Type 0} (xs : List X) (i : ℕ) (x : X) → slice_get xs i ≡ Some x → i < length xs
get_within [] i x e = absurd cc
get_within (y ∷ xs) zero x e = omega arith
get_within (y ∷ xs) (suc i) x e = omega (arith, get_within xs i x e)

-- a frame that is kept was sent
kept_within : (released : ℕ) (frames : List (Vec ℕ Global)) (k : ℕ) (w : Vec ℕ Global)
    → frame_in released frames k ≡ Some w → k < released + length frames
kept_within released frames k w e = by (nat_le released k) refl e
  where
    by : (b : Bool) → nat_le released k ≡ b
        → cond b (slice_get frames (k - released)) None ≡ Some w → k < released + length frames
    by false is e = absurd cc
    by true is e = grind (arith, tests, is, get_within frames (k - released) w e)

-- a kept frame has the octets that were found
kept_octets : (released : ℕ) (frames : List (Vec ℕ Global)) (k : ℕ) (octets : List ℕ)
    → option_map (λ (w : Vec ℕ Global). w.items) (frame_in released frames k) ≡ Some octets
    → (w : Vec ℕ Global) × (frame_in released frames k ≡ Some w) × (w.items ≡ octets)
kept_octets released frames k octets is = by (frame_in released frames k) refl is
  where
    by : (o : Option (Vec ℕ Global)) → frame_in released frames k ≡ o
        → option_map (λ (w : Vec ℕ Global). w.items) o ≡ Some octets
        → (w : Vec ℕ Global) × (frame_in released frames k ≡ Some w) × (w.items ≡ octets)
    by None e is = absurd cc
    by (Some w) e is = (w, e, let same : w.items ≡ octets = cc in same)

-- the contents that were read of a frame that is kept
pub read_there : (released : ℕ) (frames : List (Vec ℕ Global)) (k : ℕ) (octets : List ℕ)
    (c : FrameContents)
    → option_map (λ (w : Vec ℕ Global). w.items) (frame_in released frames k) ≡ Some octets
    → AreContentsOf octets c → IsReadFrom released frames (record { number = k; contents = c })
read_there released frames k octets c is has =
    let kept = kept_octets released frames k octets is in (
      kept_within released frames k kept.0 kept.1,
      λ w e.
          let same : octets ≡ w.items = cc in
          subst (λ (x : List ℕ). AreContentsOf x c) same has,
    )

-- the contents that are known of the frame that is delivered
pub known_there : {X : Type 0} (contents : X → FrameContents) (o : Option X)
    (read : Option ReadFrame) (released : ℕ) (frames : List (Vec ℕ Global)) (k : ℕ)
    (octets : List ℕ) → IfSome read (IsReadFrom released frames)
    → option_map (λ (w : Vec ℕ Global). w.items) (frame_in released frames k) ≡ Some octets
    → IfSome o (λ x. read ≡ Some (record { number = k; contents = contents x }))
    → IfSome o (λ x. AreContentsOf octets (contents x))
known_there contents None read released frames k octets known is same = tt
known_there contents (Some x) read released frames k octets known is same =
    let kept = kept_octets released frames k octets is in
    let r = subst (λ (m : Option ReadFrame). IfSome m (IsReadFrom released frames)) same known in
    subst (λ (w : List ℕ). AreContentsOf w (contents x)) kept.2 (r.1 kept.0 kept.1)

-- ---- one station of many is another
set_apart : {X : Type 0} (xs : List X) (i n : ℕ) (y : X) → n ≢ i
    → slice_get (set xs i y) n ≡ slice_get xs n
set_apart [] i n y ne = refl
set_apart (x ∷ xs) zero zero y ne = absurd (ne refl)
set_apart (x ∷ xs) zero (suc n) y ne = refl
set_apart (x ∷ xs) (suc i) zero y ne = refl
set_apart (x ∷ xs) (suc i) (suc n) y ne = set_apart xs i n y (λ e. ne (ap suc e))

pub same_but_set : (xs : List StationState) (i : ℕ) (y : StationState)
    → AreSameBut i xs (set xs i y)
same_but_set xs i y = (length-set xs i y, λ n ne. set_apart xs i n y ne)
