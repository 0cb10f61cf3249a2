use Rattle.std.proofs.Common.{List, ℕ, ◌++◌, ap, ◌∙◌, arith, length-append, length-drop}
use Rattle.std.proofs.Common.{length-take, drop}
use Rattle.its_linkframe.specs.Frames.{sent_packet}
use Rattle.its_linkframe.proofs.Makings.{EncodesFrame-put}
use Rattle.its_linkframe.proofs.building.write_parts.Goals as goal

pub returns : goal.returns
returns c =
    let rest = drop 14 c.args.frame.now in
    let header = c.copy_from_slice.ensures.after ∙ c.link_header-header.ensures.octets in
    EncodesFrame-put
    (sent_packet c.args.from c.args.to c.args.packet.now) _ rest _ c.encode_into.new.out
    c.in-Ok.field-0
    (ap (λ (t : List ℕ). t
    ++ rest) header) c.link_header-header.ensures.fits.0 c.link_header-header.ensures.fits.1
    c.in-Ok.ensures.written
    (omega (
      arith,
      c.requires,
      c.encode_into.auto.out,
      c.copy_from_slice.ensures.len,
      length-append {A = ℕ},
      length-drop {A = ℕ},
      length-take {A = ℕ},
    ))
    (omega (
      arith,
      c.requires,
      c.encode_into.auto.out,
      c.copy_from_slice.ensures.len,
      length-append {A = ℕ},
      length-drop {A = ℕ},
      length-take {A = ℕ},
    ))
