-- Each frame is given by one line of the log; and what a line delivered is the frame of that
-- number.
use Rattle.std.proofs.Common.{◌≡◌, ◌⊎◌, ℕ, suc, ◌<◌, ◌≤◌, List, [], ◌∷◌, ◌++◌, length, Option, Some}
use Rattle.std.proofs.Common.{None, refl, sym, ap, subst, ◌∙◌, inl, inr, arith}
use Rattle.std.specs.Prelude.{slice_get}
use Rattle.its_model.specs.Packet.{Transmission}
use Rattle.its_model.specs.Calls.Call.{Own, Receive}
use Rattle.its_model.specs.Station.{StationModel, station_step}
use Rattle.its_model.specs.World.{What, Event, LogLine, WorldModel, Config, opening, frame_of}
use Rattle.its_model.specs.World.{with_one_more, delivery, asked, at_station, world_step, world_run}
use Rattle.its_model.specs.World.What.{Calls, Deliver}
use Rattle.its_model.specs.Log.{Origin, origin_by, with_origin, origins}
use Rattle.its_model.specs.Schedules.{IsGivenBy}
use Rattle.its_model.proofs.Lists.{get_front, get_last, length_more}
use Rattle.its_model.proofs.Sound.{NamedBy, EachNamed}

-- ---- one line for each frame

-- the origins behind a line that names a frame
named_length : (g : Option ℕ) (e : Event) (before : List LogLine) (k : ℕ) → g ≡ Some k
    → NamedBy g e before
    → (k ≡ length (origins before)) × (length (with_origin g e before (origins before)) ≡ suc k)
named_length None e before k is h = cc
named_length (Some n) e before k is h =
    let same : n ≡ k = cc in (
      sym same ∙ h.0,
      ap (λ x. length (with_one_more (origins before) x)) h.2 ∙ length_more (origins before) h.1
          ∙ ap suc (sym h.0 ∙ same),
    )

-- a line's frame has its number and an origin
pub names_at : (later : List LogLine) (line : LogLine) (before : List LogLine)
    → EachNamed (later ++ line ∷ before) → NamedBy (frame_of line.entry) line.event before
names_at [] line before h = h.0
names_at (x ∷ later) line before h = names_at later line before h.1

-- the lines behind others name their frames
behind : (later rest : List LogLine) → EachNamed (later ++ rest) → EachNamed rest
behind [] rest h = h
behind (x ∷ later) rest h = behind later rest h.1

-- a line makes the origins no fewer
grows : (g : Option ℕ) (e : Event) (before : List LogLine) (earlier : List Origin)
    → length earlier ≤ length (with_origin g e before earlier)
grows None e before earlier = omega arith
grows (Some k) e before earlier = by (origin_by e.what e before earlier)
  where
    by : (x : Option Origin) → length earlier ≤ length (with_one_more earlier x)
    by None = omega arith
    by (Some o) = omega (arith, length_more earlier o)

-- more lines have no fewer origins
pub at_least : (later rest : List LogLine) → length (origins rest) ≤ length (origins (later ++ rest))
unfolding origins
at_least [] rest = omega arith
at_least (line ∷ later) rest =
    omega (
      arith,
      at_least later rest,
      grows (frame_of line.entry) line.event (later ++ rest) (origins (later ++ rest)),
    )

-- the number that a line names is how many frames came before
pub number_is : (log later before : List LogLine) (line : LogLine) (k : ℕ) → EachNamed log
    → log ≡ later ++ line ∷ before → frame_of line.entry ≡ Some k → k ≡ length (origins before)
number_is log later before line k h e is =
    (named_length (frame_of line.entry) line.event before k is
    (names_at later line before (subst EachNamed e h))).0

-- the origins with a line that gives a frame
pub length_at : (line : LogLine) (before : List LogLine) (k : ℕ)
    → NamedBy (frame_of line.entry) line.event before → frame_of line.entry ≡ Some k
    → length (origins (line ∷ before)) ≡ suc k
unfolding origins
length_at line before k h is = (named_length (frame_of line.entry) line.event before k is h).1

-- of two lines the later names the later frame
pub numbers_rise : (log later between older : List LogLine) (first second : LogLine) (k m : ℕ)
    → EachNamed log → log ≡ later ++ second ∷ (between ++ first ∷ older)
    → frame_of first.entry ≡ Some k → frame_of second.entry ≡ Some m → k < m
numbers_rise log later between older first second k m h e is_k is_m =
    let all : EachNamed (second ∷ (between ++ first ∷ older)) =
    behind later (second ∷ (between ++ first ∷ older)) (subst EachNamed e h) in
    let m_is : m ≡ length (origins (between ++ first ∷ older)) =
    (named_length (frame_of second.entry) second.event (between ++ first
    ∷ older) m is_m all.0).0 in
    let k_is : length (origins (first ∷ older)) ≡ suc k =
    length_at first older k (names_at between first older all.1) is_k in
    omega (arith, m_is, k_is, at_least between (first ∷ older))

-- the origin of a frame is what its line makes it
stays_front : (g : Option ℕ) (e : Event) (before : List LogLine) (earlier : List Origin) (k : ℕ)
    (o : Origin) → slice_get earlier k ≡ Some o
    → slice_get (with_origin g e before earlier) k ≡ Some o
stays_front None e before earlier k o h = h
stays_front (Some n) e before earlier k o h = by (origin_by e.what e before earlier)
  where
    by : (x : Option Origin) → slice_get (with_one_more earlier x) k ≡ Some o
    by None = h
    by (Some p) = get_front earlier (p ∷ []) k o h

-- an origin stays where it is, whatever lines come
stays_behind : (later rest : List LogLine) (k : ℕ) (o : Origin)
    → slice_get (origins rest) k ≡ Some o → slice_get (origins (later ++ rest)) k ≡ Some o
unfolding origins
stays_behind [] rest k o h = h
stays_behind (line ∷ later) rest k o h =
    stays_front (frame_of line.entry) line.event (later ++ rest) (origins (later ++ rest)) k o
    (stays_behind later rest k o h)

-- the origin that a line makes is the last one
made : (g : Option ℕ) (e : Event) (before : List LogLine) (k : ℕ) → g ≡ Some k → NamedBy g e before
    → (o : Origin) × (origin_by e.what e before (origins before) ≡ Some o)
    × (slice_get (with_origin g e before (origins before)) k ≡ Some o)
made None e before k is h = cc
made (Some n) e before k is h =
    let same : n ≡ k = cc in
    let last : slice_get (origins before ++ h.1 ∷ []) k ≡ Some h.1 =
    subst (λ (i : ℕ). slice_get (origins before ++ h.1 ∷ []) i ≡ Some h.1) (sym h.0
    ∙ same) (get_last (origins before) h.1) in
    (h.1, h.2, ap (λ x. slice_get (with_one_more (origins before) x) k) h.2 ∙ last)

-- the same of the log
made_at : (line : LogLine) (before : List LogLine) (k : ℕ)
    → NamedBy (frame_of line.entry) line.event before → frame_of line.entry ≡ Some k
    → (o : Origin) × (origin_by line.event.what line.event before (origins before) ≡ Some o)
    × (slice_get (origins (line ∷ before)) k ≡ Some o)
unfolding origins
made_at line before k h is = made (frame_of line.entry) line.event before k is h

-- the origin of a frame is what its line makes it
pub origin_is : (log later before : List LogLine) (line : LogLine) (k : ℕ) → EachNamed log
    → log ≡ later ++ line ∷ before → frame_of line.entry ≡ Some k
    → slice_get (origins log) k ≡ origin_by line.event.what line.event before (origins before)
origin_is log later before line k h e is =
    let m = made_at line before k (names_at later line before (subst EachNamed e h)) is in
    subst (λ (xs : List LogLine). slice_get (origins xs) k
    ≡ origin_by line.event.what line.event before (origins before)) (sym e)
    (stays_behind later (line ∷ before) k m.0 m.2 ∙ sym m.1)

-- each frame is given
given_by : (g : Option ℕ) (line : LogLine) (before : List LogLine) (k : ℕ) → frame_of line.entry ≡ g
    → NamedBy g line.event before
    → k < length (with_origin g line.event before (origins before))
    → (k < length (origins before) → IsGivenBy before k) → IsGivenBy (line ∷ before) k
given_by None line before k is h lt rest = more (rest lt)
  where
    more : IsGivenBy before k → IsGivenBy (line ∷ before) k
    more f = record {
      later = line ∷ f.later;
      line = f.line;
      before = f.before;
      split =
          ap (λ xs. line ∷ xs) f.split;
      gives = f.gives;
    }
given_by (Some n) line before k is h lt rest =
    by (under k (length (with_origin (Some n) line.event before (origins before)))
    (length (origins before)) (ap (λ x. length (with_one_more (origins before) x)) h.2
    ∙ length_more (origins before) h.1) lt)
  where
    under : (k m n : ℕ) → m ≡ suc n → k < m → (k < n) ⊎ (k ≡ n)
    under k m n e lt = grind (arith, e, lt)

    by : (k < length (origins before)) ⊎ (k ≡ length (origins before)) → IsGivenBy (line ∷ before) k
    by (inl lt) =
        (let f = rest lt in
        record {
          later = line ∷ f.later;
          line = f.line;
          before = f.before;
          split = ap (λ xs. line ∷ xs) f.split;
          gives = f.gives;
        })
    by (inr e) =
        record {
          later = [];
          line = line;
          before = before;
          split = refl;
          gives = is ∙ ap Some (h.0 ∙ sym e);
        }

-- each frame has a line that gave it
pub each_given : (log : List LogLine) (k : ℕ) → EachNamed log → k < length (origins log)
    → IsGivenBy log k
unfolding origins
each_given [] k h lt = absurd (omega arith)
each_given (line ∷ before) k h lt =
    given_by (frame_of line.entry) line before k refl h.0 lt (each_given before k h.1)

-- ---- what a line delivered
abbrev Brought : Option Transmission → What → List Transmission → Type 0
Brought None what air = Unit {0}
Brought (Some t) what air = (k : ℕ) × (what ≡ Deliver k) × (slice_get air k ≡ Some t)

-- of each line
abbrev EachBrought : List Transmission → List LogLine → Type 0
EachBrought air [] = Unit {0}
EachBrought air (line ∷ before) =
    Brought line.delivered line.event.what air × EachBrought air before

-- a frame that was there is there when there are more
brought_more : (o : Option Transmission) (what : What) (air more : List Transmission)
    → Brought o what air → Brought o what (air ++ more)
brought_more None what air more h = tt
brought_more (Some t) what air more h = (h.0, h.1, get_front air more h.0 t h.2)

-- the same of all lines
all_more : (air more : List Transmission) (log : List LogLine) → EachBrought air log
    → EachBrought (air ++ more) log
all_more air more [] h = tt
all_more air more (line ∷ before) h =
    (brought_more line.delivered line.event.what air more h.0, all_more air more before h.1)

-- with one more frame, if there is one
one_brought : (o given : Option Transmission) (what : What) (air : List Transmission)
    → Brought o what air → Brought o what (with_one_more air given)
one_brought o None what air h = h
one_brought o (Some t) what air h = brought_more o what air (t ∷ []) h

-- the same of all lines
all_one_more : (air : List Transmission) (given : Option Transmission) (log : List LogLine)
    → EachBrought air log → EachBrought (with_one_more air given) log
all_one_more air None log h = h
all_one_more air (Some t) log h = all_more air (t ∷ []) log h

-- a delivery
delivery_brings : (o : Option Transmission) (w : WorldModel) (e : Event) (k : ℕ) (s : StationModel)
    → e.what ≡ Deliver k → slice_get w.air k ≡ o
    → EachBrought w.air w.log → EachBrought (delivery w e s o).air (delivery w e s o).log
delivery_brings None w e k s is at h = (tt, h)
delivery_brings (Some t) w e k s is at h =
    let given = frame_of (station_step s e.moment (Receive t)).answer in
    (one_brought (Some t) given e.what w.air (k, is, at), all_one_more w.air given w.log h)

-- a call or a delivery
asked_brings : (what : What) (w : WorldModel) (e : Event) (s : StationModel) → e.what ≡ what
    → EachBrought w.air w.log → EachBrought (asked w e s what).air (asked w e s what).log
asked_brings (Calls call) w e s is h =
    (tt, all_one_more w.air (frame_of (station_step s e.moment (Own call)).answer) w.log h)
asked_brings (Deliver k) w e s is h = delivery_brings (slice_get w.air k) w e k s is refl h

-- an event
step_brings : (o : Option StationModel) (w : WorldModel) (e : Event) → EachBrought w.air w.log
    → EachBrought (at_station w e o).air (at_station w e o).log
step_brings None w e h = (tt, h)
step_brings (Some s) w e h = asked_brings e.what w e s refl h

-- a run
run_brings : (events : List Event) (w : WorldModel) → EachBrought w.air w.log
    → EachBrought (world_run w events).air (world_run w events).log
run_brings [] w h = h
run_brings (e ∷ events) w h =
    run_brings events (world_step w e) (step_brings (slice_get w.stations e.station) w e h)

-- what holds of all lines holds of this one
brought_at : (later : List LogLine) (air : List Transmission) (line : LogLine)
    (before : List LogLine) → EachBrought air (later ++ line ∷ before)
    → Brought line.delivered line.event.what air
brought_at [] air line before h = h.0
brought_at (x ∷ later) air line before h = brought_at later air line before h.1

-- what a line of a run delivered
pub delivered_is : (configs : List Config) (events : List Event) (later before : List LogLine)
    (line : LogLine) (t : Transmission)
    → (world_run (opening configs) events).log ≡ later ++ line ∷ before → line.delivered ≡ Some t
    → (k : ℕ) × (line.event.what ≡ Deliver k)
    × (slice_get (world_run (opening configs) events).air k ≡ Some t)
delivered_is configs events later before line t e is =
    let w = world_run (opening configs) events in
    subst (λ (o : Option Transmission). Brought o line.event.what w.air) is
    (brought_at later w.air line before
    (subst (EachBrought w.air) e (run_brings events (opening configs) tt)))
