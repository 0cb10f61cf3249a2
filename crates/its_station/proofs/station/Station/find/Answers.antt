use Rattle.std.proofs.Common.{ap, sym, subst, ◌∙◌}
use Rattle.its_loctable.specs.Content.{Represents}
use Rattle.its_loctable.specs.Heard.{verdict_at}
use Rattle.its_loctable.specs.Found.{HasIndex}
use Rattle.its_station.specs.State.{StationState, HasPast}
use Rattle.its_station.proofs.Hearing.{admitted}
use Rattle.its_station.proofs.station.Station.find.Goals as goal

pub returns-clause-verdict : goal.returns-clause-verdict
returns-clause-verdict g c = λ history rep.
    c.find.ensures.verdict history
    (subst (λ (st : StationState). Represents st.remember st.content history c.args.now)
    (sym c.self.view_is) rep)
    ∙ ap (λ (st : StationState).
    verdict_at st.remember st.capacity c.args.now c.args.heard.now history) c.self.view_is

pub returns-clause-new : goal.returns-clause-new
returns-clause-new g c =
    admitted c.args.self.now c.args.now c.args.heard.now c.find.result
    (subst (λ (st : StationState). HasPast st.remember st.content st.clock) c.self.view_is
    c.self.invariant.2)
    c.requires.from (returns-clause-verdict g c)
    (subst (λ (st : StationState). HasIndex st.content c.args.heard.now.vector.address c.find.result)
    c.self.view_is c.find.ensures.index)
