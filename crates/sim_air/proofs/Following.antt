-- What follows an event of the air's own, by what it was.
use Rattle.std.proofs.Common.{◌≡◌, ◌∙◌, ℕ, ◌+◌, Bool, true, false, Option, cond, not, ◌&&◌}
use Rattle.std.proofs.Common.{refl, sym, ap}
use Rattle.its_model.specs.Station.{StationModel}
use Rattle.sim_settings.specs.declared.traffic.Traffic.{Traffic as Flow}
use Rattle.sim_queue.specs.declared.scheduled.AirAction.{AirAction}
use Rattle.sim_queue.specs.declared.scheduled.AirAction.TheVariants as owns
use Rattle.sim_queue.specs.declared.scheduled.Scheduled.{Scheduled}
use Rattle.sim_air.specs.Keeps.{follow_own}
use Rattle.sim_queue.specs.Waiting.{happening_of, own_of}
use Rattle.sim_air_model.specs.Timetable.{Timetable, is_tick, tick_again, send_again, sending}
use Rattle.sim_air_model.specs.Timetable.{schedule_alone}
use Rattle.sim_queue.specs.Traffics.{traffic_in, traffic_of}

-- what follows, were it this
abbrev follow_as : AirAction → Scheduled → Bool → Option StationModel → Timetable → Timetable
follow_as o w refused s t =
    send_again (happening_of w) (traffic_in o)
    (cond (is_tick (own_of o) && not refused) (tick_again (happening_of w) s t) t)

turned : (b : Bool) (u t : Timetable) → cond b t u ≡ cond (not b) u t
turned true u t = refl
turned false u t = refl

pub follows_tick : (w : Scheduled) (j : ℕ) (refused : Bool) (s : Option StationModel)
    (t : Timetable) → w.own ≡ owns.Tick j
    → cond refused t (tick_again (happening_of w) s t) ≡ follow_own w refused s t
follows_tick w j refused s t is =
    turned refused (tick_again (happening_of w) s t) t
    ∙ ap (λ (o : AirAction). follow_as o w refused s t) (sym is)

pub follows_delivery : (w : Scheduled) (k : ℕ) (refused : Bool) (s : Option StationModel)
    (t : Timetable) → w.own ≡ owns.Deliver k → t ≡ follow_own w refused s t
follows_delivery w k refused s t is = ap (λ (o : AirAction). follow_as o w refused s t) (sym is)

pub follows_send : (w : Scheduled) (n : ℕ) (x : Flow) (refused : Bool) (s : Option StationModel)
    (t : Timetable) → w.own ≡ owns.Send n x
    → schedule_alone (sending (traffic_of n x) w.station (w.moment + x.period)) t
    ≡ follow_own w refused s t
follows_send w n x refused s t is = ap (λ (o : AirAction). follow_as o w refused s t) (sym is)
