use Rattle.std.proofs.Common.{◌≡◌, List, ℕ, ◌++◌, ap, ◌∙◌}
use Rattle.its_gnvalue.specs.Values.{HopPair}
use Rattle.its_linkframe.specs.Frames.{link_header}
use Rattle.its_linkframe.proofs.Makings.{EncodesFrame-relayed}
use Rattle.its_linkframe.proofs.building.write_relayed.Goals as goal

pub returns : goal.returns
returns c =
    let header : c.extend_from_slice.new.self.items ≡ link_header c.args.to c.args.from =
    c.in-Ok.ensures.items ∙ ap (λ (t : List ℕ). t ++ c.link_header.result) c.requires.empty
    ∙ c.link_header.ensures.octets in
    let text : c.extend_from_slice-2.new.self.items ≡ link_header c.args.to c.args.from
    ++ c.octets-octets.result.now =
    c.in-Ok-extend_from_slice.ensures.items
    ∙ ap (λ (t : List ℕ). t ++ c.octets-octets.result.now) header in
    EncodesFrame-relayed c.args.packet.now c.args.to c.args.from c.left.result _ _ text
    c.link_header.ensures.fits.0 c.link_header.ensures.fits.1 c.requires.left (c.left.ensures.value
    ∙ ap (λ (h : HopPair). h.left) c.hops.ensures) c.octets-octets.ensures
