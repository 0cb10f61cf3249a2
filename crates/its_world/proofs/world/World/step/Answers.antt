use Rattle.std.proofs.Common.{◌≤◌, length, refl, rules}
use Rattle.its_model.specs.Calls as model
use Rattle.its_world.specs.Events.{event_of}
use Rattle.its_world.proofs.Logs.{nowhere}
use Rattle.its_world.proofs.world.World.step.Goals as goal

pub returns-then-event-len-clause-step : goal.returns-then-event-len-clause-step
returns-then-event-len-clause-step c = λ w h kept. (
    let le : length c.args.self.now.stations ≤ c.args.event.now.station = search rules in
    let told = nowhere c.args.self.now w (event_of c.args.event.now) h le in
    (told.stands, model.Answer.Refused model.Refusal.NoSuchStation, refl, told.last))
