use Rattle.std.proofs.Common.{length, refl, sym, subst, ap, arith, List, ℕ, ◌∙◌}
use Rattle.its_linkframe.specs.Frames.{transmission_of}
use Rattle.its_headers.specs.Fields.{SaysMessage, IsLength, kind_of_body}
use Rattle.its_station.proofs.FramesRead.{contents_there, payload_there}
use Rattle.its_station.proofs.known.FrameContents.of.Goals as goal

pub returns : goal.returns
returns c =
    let v = c.args.frame.now in
    let w = c.args.octets.now in
    let t = transmission_of v in
    let end = payload_there t w c.payload.result.now c.requires c.payload.ensures.octets in
    contents_there w v _ refl refl (record {
      encodes = c.requires;
      target = refl;
      sender = refl;
      kind = c.kind.ensures;
      hops_left = c.left.ensures.value ∙ ap (λ h. h.left) c.hops.ensures;
      vector = c.vector.ensures;
      number = c.number.ensures;
      area = c.area.ensures;
      within = omega arith;
      payload = end ∙ c.payload.ensures.octets;
      message = subst (SaysMessage t.pdu.body) (sym end) c.payload.ensures.message;
      size = subst (λ (x : List ℕ). IsLength (kind_of_body t.pdu.body) (length x)) (sym end)
          c.payload.ensures.size;
    })
