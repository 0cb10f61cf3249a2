use Rattle.std.proofs.Common.{subst}
use Rattle.std.specs.Prelude.{Ok}
use Rattle.its_model.specs.Station.{StationModel, verdict}
use Rattle.its_station.specs.State.{RepresentsStation, model_of}
use Rattle.its_station.specs.Receiving.{IsVerdictOf, TakesMemory}
use Rattle.its_station.specs.declared.looked_up.LookedUp.{LookedUp}
use Rattle.its_station.specs.declared.outcome.Outcome.TheVariants as outcomes
use Rattle.its_station.proofs.Stations.{Represents-later, at_model, represents}
use Rattle.its_station.proofs.Hearing.{accept_is, heard, ignored}
use Rattle.its_station.proofs.station.Station.take.Goals as goal

pub returns-in-Ignored-clause-step : goal.returns-in-Ignored-clause-step
returns-in-Ignored-clause-step g c =
    let t = g.F.ReceivedFrame.frame c.args.frame.now in
    let found = subst (λ (l : LookedUp). (s : StationModel)
    → RepresentsStation c.args.self.now s → IsVerdictOf (Ok l) (verdict s c.args.now t))
    c.in-Ignored.is c.requires.found in
    heard (g.F.ReceivedFrame.Encodes c.args.frame.now) (Ok (outcomes.Ignored c.in-Ignored.why))
    c.args.self.now c.set_clock.new.self c.args.now t
    (λ ports history past.
    ignored (g.F.ReceivedFrame.Encodes c.args.frame.now) c.args.self.now c.set_clock.new.self
    c.args.now t ports history c.in-Ignored.why c.set_clock.ensures c.requires.from past
    (found (model_of c.args.self.now ports history)
    (represents c.args.self.now ports history past)))

pub returns-in-New-clause-step : goal.returns-in-New-clause-step
returns-in-New-clause-step g c =
    let t = g.F.ReceivedFrame.frame c.args.frame.now in
    let found = subst (λ (l : LookedUp). (s : StationModel)
    → RepresentsStation c.args.self.now s → IsVerdictOf (Ok l) (verdict s c.args.now t))
    c.in-New.is c.requires.found in
    heard (g.F.ReceivedFrame.Encodes c.args.frame.now) c.accept.result c.args.self.now c.accept.new.self
    c.args.now t
    (λ ports history past.
    accept_is (g.F.ReceivedFrame.Encodes c.args.frame.now) c.accept.result c.args.self.now
    c.accept.new.self c.args.now t ports history
    (found (model_of c.args.self.now ports history)
    (represents c.args.self.now ports history past))
    (c.accept.ensures.step ports history past))

pub returns-in-New-clause-memory : goal.returns-in-New-clause-memory
returns-in-New-clause-memory g c = λ s is e.
    let t = g.F.ReceivedFrame.frame c.args.frame.now in
    let found = subst (λ (l : LookedUp). (s : StationModel)
    → RepresentsStation c.args.self.now s → IsVerdictOf (Ok l) (verdict s c.args.now t))
    c.in-New.is c.requires.found in (
      found s is,
      at_model c.args.self.now (λ (m : StationModel). TakesMemory m c.args.now t)
          (λ ports history past.
          c.accept.ensures.memory ports history
          (Represents-later _ _ _ _ _ c.requires.from past.table) e) s is,
    )
