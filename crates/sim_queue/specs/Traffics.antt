-- Traffic, in the model.
use Rattle.std.specs.Prelude.{ℕ, suc, List, [], ◌∷◌, Option, Some, None, replicate}
use Rattle.its_model.specs.Calls.{ShbRequest}
use Rattle.sim_settings.specs.declared.traffic.Traffic.{Traffic as Flow}
use Rattle.sim_air_model.specs.Timetable.{Traffic}
use Rattle.sim_queue.specs.declared.scheduled.AirAction.{AirAction}
use Rattle.sim_queue.specs.declared.scheduled.AirAction.TheVariants as owns

-- what is sent: so many octets 0
abbrev pub request_of : Flow → ShbRequest
request_of x =
    record {
      class = x.class;
      message = record { port = x.port; info = x.info; payload = replicate x.octets 0 };
    }

abbrev pub traffic_of : ℕ → Flow → Traffic
traffic_of number x = record { number = number; period = x.period; request = request_of x }

-- these, the first of this number
abbrev pub traffic_from : ℕ → List Flow → List Traffic
traffic_from number [] = []
traffic_from number (x ∷ every) = traffic_of number x ∷ traffic_from (suc number) every

-- all that each station sends
abbrev pub all_traffic : List Flow → List Traffic
all_traffic every = traffic_from 0 every

-- what an event of the air's own is a send of, if it is one
abbrev pub traffic_in : AirAction → Option Traffic
traffic_in (owns.Tick jitter) = None
traffic_in (owns.Deliver frame) = None
traffic_in (owns.Send number x) = Some (traffic_of number x)
