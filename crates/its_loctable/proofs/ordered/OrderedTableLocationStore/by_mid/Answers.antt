use Rattle.std.proofs.Common.{ap, ◌∙◌}
use Rattle.std.specs.Option.{option_map}
use Rattle.its_loctable.specs.Heard.{shown}
use Rattle.its_model.specs.Stations.{has_mid}
use Rattle.its_loctable.specs.Ordered.{contained}
use Rattle.its_loctable.proofs.OrderedLemmas.{apart-contained}
use Rattle.its_loctable.proofs.LeastLemmas.{walked}
use Rattle.its_loctable.proofs.ordered.OrderedTableLocationStore.by_mid.Goals as goal

pub returns : goal.returns
returns c = λ history rep. c.least.ensures.least
    ∙ ap (option_map shown)
    (walked (has_mid c.args.mid) c.args.self.now.remembered
    (contained c.args.self.now.slots.entries) history c.args.now c.requires
    (apart-contained c.args.self.now.slots.entries c.least.ensures.unique) rep)
