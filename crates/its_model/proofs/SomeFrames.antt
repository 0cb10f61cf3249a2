-- Where some frame of a packet comes to the next station, the packet reaches it.
use Rattle.std.proofs.Common.{ℕ, ◌+◌, ◌≤◌, List, [], ◌∷◌, refl, arith}
use Rattle.its_model.specs.Packet.{AreaKind}
use Rattle.its_model.specs.World.{Config, Event, LogLine, WorldModel, opening, world_run}
use Rattle.its_model.specs.Reach.{AreaSend, ComesBy, AreReached}
use Rattle.its_model.specs.Reach.ComesBy.{by_sending, by_accepting}
use Rattle.its_model.specs.SomeFrame.{IsLedAlong, ReachesWhereSomeFrameComes}
use Rattle.its_model.proofs.Onward.{arrived, reached}
use Rattle.its_model.proofs.Ways.{Sure, of_run}

-- from a station that came by it on, along a path
led_along : {kind : AreaKind} (path : List ℕ) (i delay moment : ℕ) (line : LogLine)
    (before : List LogLine) (configs : List Config) (w : WorldModel) (g : AreaSend kind w)
    (c : ComesBy w g i line before)
    → Sure configs w g → line.event.moment ≤ moment → IsLedAlong configs w g delay i path
    → AreReached configs w g delay moment path
led_along [] i delay moment line before configs w g c sure le leads = tt
led_along (j ∷ path) i delay moment line before configs w g c sure le leads =
    let lead = leads.0 in
    let some = lead.comes line before c in
    let a = arrived configs w g j some.frame (line.event.moment + delay) some.packet lead.receiver
    sure.run sure.own_address sure.own_number lead.configured lead.other some.of_send some.in_air
    some.is_for some.comes in
    let in_time : a.first.line.event.moment ≤ moment + delay = omega (arith, a.in_time, le) in (
      reached configs w g j (moment + delay) a.first.line a.first.older sure.run a.first.first
          in_time,
      led_along path j delay (moment + delay) a.first.line a.first.older configs w g
          (by_accepting a.first.first) sure in_time leads.1,
    )

-- every run's world
pub reaches_where_some_frame_comes : (configs : List Config) (events : List Event)
    → ReachesWhereSomeFrameComes configs (world_run (opening configs) events)
reaches_where_some_frame_comes configs events kind g delay path own_address own_number leads =
    led_along path g.line.event.station delay g.line.event.moment g.line g.before configs
    (world_run (opening configs) events) g (by_sending refl refl refl)
    (record {
      run = of_run configs events;
      own_address = own_address;
      own_number = own_number;
    }) (omega arith) leads
