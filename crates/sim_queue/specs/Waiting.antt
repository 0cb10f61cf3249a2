-- The air's own events that wait.
use Rattle.std.specs.Prelude.{ℕ, List, map, Bool, ◌&&◌, ◌==◌}
use Rattle.std.specs.declared.cmp.Ordering.{Ordering}
use Rattle.std.specs.Ordering.{nat_cmp, on, flip_args, then_cmp}
use Rattle.its_model.specs.World.{Event, What}
use Rattle.its_model.specs.World.What.{Calls, Deliver as Delivers}
use Rattle.its_model.specs.Calls.OwnCall.{Tick as Ticks, SendShb}
use Rattle.sim_air_model.specs.Timetable.{is_tick, is_numbered}
use Rattle.sim_queue.specs.Traffics.{request_of, traffic_in}
use Rattle.sim_queue.specs.declared.scheduled.AirAction.{AirAction}
use Rattle.sim_queue.specs.declared.scheduled.AirAction.TheVariants as owns
use Rattle.sim_queue.specs.declared.scheduled.Delivery.{Delivery}
use Rattle.sim_queue.specs.declared.scheduled.Scheduled.{Scheduled}

-- what an air does by itself, in the model
abbrev pub own_of : AirAction → What
own_of (owns.Tick jitter) = Calls (Ticks jitter)
own_of (owns.Deliver frame) = Delivers frame
own_of (owns.Send number x) = Calls (SendShb (request_of x))

-- an event of the air's own
abbrev pub happening_of : Scheduled → Event
happening_of w = record { station = w.station; moment = w.moment; what = own_of w.own }

-- the event of the air's own that a delivery is
abbrev pub delivery_of : Delivery → Scheduled
delivery_of d =
    record { moment = d.moment; place = d.place; station = d.station; own = owns.Deliver d.frame }

-- those that stand in line
abbrev pub in_line : List Delivery → List Scheduled
in_line line = map delivery_of line

-- one of the air's own is a tick at this station, or a send of the traffic of this number by it
abbrev pub is_tick_at : ℕ → Scheduled → Bool
is_tick_at station w = is_tick (own_of w.own) && (w.station == station)

abbrev pub is_send_at : ℕ → ℕ → Scheduled → Bool
is_send_at number station w = is_numbered number (traffic_in w.own) && (w.station == station)

-- the order of the air's own events: the one that comes first is the greatest
abbrev pub waiting_cmp : Scheduled → Scheduled → Ordering
waiting_cmp =
    then_cmp (flip_args (on (λ w. w.moment) nat_cmp)) (flip_args (on (λ w. w.place) nat_cmp))
