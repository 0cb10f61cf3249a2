use Rattle.std.proofs.Common.{◌∙◌}
use Rattle.its_linkframe.proofs.Makings.{link_header-made}
use Rattle.its_linkframe.proofs.building.link_header.Goals as goal

pub returns-clause-octets : goal.returns-clause-octets
returns-clause-octets c =
    link_header-made c.args.to c.args.from _ _ (c.copy_from_slice.ensures.after
    ∙ c.octets.ensures.octets) (c.copy_from_slice-2.ensures.after ∙ c.octets-2.ensures.octets)
