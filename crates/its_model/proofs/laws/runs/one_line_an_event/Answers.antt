use Rattle.std.proofs.Common.{◌≡◌, ℕ, List, [], ◌∷◌, ◌++◌, map, reverse, length, Option, Some, None}
use Rattle.std.proofs.Common.{append_assoc, refl, sym, ap, subst, ◌∙◌}
use Rattle.std.specs.Prelude.{slice_get}
use Rattle.its_model.specs.Packet.{Transmission}
use Rattle.its_model.specs.Station.{StationModel}
use Rattle.its_model.specs.World.{What, Event, LogLine, WorldModel, opening, delivery, asked}
use Rattle.its_model.specs.World.{at_station, world_step, world_run, events_in}
use Rattle.its_model.specs.World.What.{Calls, Deliver}
use Rattle.std.proofs.lemmas.List.{append-nil, reverse-append, length-reverse, length-map}
use Rattle.std.proofs.lemmas.List.{map-append}
use Rattle.its_model.proofs.Lists.{get_front, get_last}
use Rattle.its_model.proofs.laws.runs.one_line_an_event.Goals as goal

-- an event's line stands on the log
delivery_line : (o : Option Transmission) (w : WorldModel) (e : Event) (s : StationModel)
    → map (λ (x : LogLine). x.event) (delivery w e s o).log ≡ e
    ∷ map (λ (x : LogLine). x.event) w.log
delivery_line None w e s = refl
delivery_line (Some t) w e s = refl

asked_line : (what : What) (w : WorldModel) (e : Event) (s : StationModel)
    → map (λ (x : LogLine). x.event) (asked w e s what).log ≡ e
    ∷ map (λ (x : LogLine). x.event) w.log
asked_line (Calls call) w e s = refl
asked_line (Deliver k) w e s = delivery_line (slice_get w.air k) w e s

step_line : (o : Option StationModel) (w : WorldModel) (e : Event)
    → map (λ (x : LogLine). x.event) (at_station w e o).log ≡ e
    ∷ map (λ (x : LogLine). x.event) w.log
step_line None w e = refl
step_line (Some s) w e = asked_line e.what w e s

run_lines : (events : List Event) (w : WorldModel)
    → events_in (world_run w events).log ≡ events_in w.log ++ events
run_lines [] w = sym (append-nil (events_in w.log))
run_lines (e ∷ events) w =
    run_lines events (world_step w e)
    ∙ ap (λ xs. reverse xs ++ events) (step_line (slice_get w.stations e.station) w e)
    ∙ ap (λ xs. xs ++ events) (reverse-append (e ∷ []) (map (λ (x : LogLine). x.event) w.log))
    ∙ append_assoc (events_in w.log) (e ∷ []) events

-- what stands before others in a list is at their number in the reverse
in_reverse : {X : Type 0} (later : List X) (x : X) (before : List X)
    → slice_get (reverse (later ++ x ∷ before)) (length before) ≡ Some x
in_reverse {X} later x before =
    ap (λ (xs : List X). slice_get xs (length before)) (reverse-append later (x ∷ before)
    ∙ ap (λ xs. xs ++ reverse later) (reverse-append (x ∷ []) before))
    ∙ get_front (reverse before ++ x ∷ []) (reverse later) (length before) x
    (subst (λ (n : ℕ). slice_get (reverse before ++ x ∷ []) n ≡ Some x) (length-reverse before)
    (get_last (reverse before) x))

seen_in_reverse : {X Y : Type 0} (f : X → Y) (later : List X) (x : X) (before : List X)
    → slice_get (reverse (map f (later ++ x ∷ before))) (length before) ≡ Some (f x)
seen_in_reverse {X} {Y} f later x before =
    ap (λ (ys : List Y). slice_get (reverse ys) (length before)) (map-append f later (x ∷ before))
    ∙ ap (λ n. slice_get (reverse (map f later ++ f x ∷ map f before)) n)
    (sym (length-map before f))
    ∙ in_reverse (map f later) (f x) (map f before)

pub returns-clause-events : goal.returns-clause-events
returns-clause-events c = λ configs events. run_lines events (opening configs)

pub returns-clause-event : goal.returns-clause-event
returns-clause-event c =
    λ later before line. seen_in_reverse (λ (x : LogLine). x.event) later line before

pub returns-clause-entry : goal.returns-clause-entry
returns-clause-entry c =
    λ later before line. seen_in_reverse (λ (x : LogLine). x.entry) later line before
