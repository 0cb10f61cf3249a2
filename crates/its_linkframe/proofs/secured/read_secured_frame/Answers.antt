use Rattle.std.proofs.Common.{◌≡◌, ◌≤◌, ◌-◌, ◌++◌, ◌∙◌, List, ℕ, ap, sym, arith, take, drop}
use Rattle.std.proofs.Common.{length, length-drop, length-take}
use Rattle.std.proofs.lemmas.List.{take_rest, drop-drop}
use Rattle.byteorder.specs.Endian.{big_number}
use Rattle.its_headers.specs.Inner.{secured_header}
use Rattle.its_linkframe.proofs.Fronts.{take-first_six, take-next_six}
use Rattle.its_linkframe.proofs.SecuredFrames.{EncodesSecured-parts, secured_bounds}
use Rattle.its_linkframe.proofs.SecuredFrames.{ether_of_secured, packet_of_secured}
use Rattle.its_linkframe.proofs.SecuredFrames.{message_of_secured, target_of_secured}
use Rattle.its_linkframe.proofs.SecuredFrames.{source_of_secured, basic_of_secured, same_secured}
use Rattle.its_linkframe.proofs.secured.read_secured_frame.Goals as goal
use Rattle.its_linkframe.proofs.secured.read_secured_frame.Goals.{then-octets-via-then-octets}
use Rattle.its_linkframe.proofs.secured.read_secured_frame.Goals.{then-octets-via-else-octets+then-octets-ne-TYPE_LOW}

pub returns-then-octets-lt-PACKET-clause-only : goal.returns-then-octets-lt-PACKET-clause-only
returns-then-octets-lt-PACKET-clause-only c = λ s enc.
    omega (arith, (secured_bounds s _ enc).0, c.if-octets-lt-PACKET.true)

pub returns-then-octets-clause-only : goal.returns-then-octets-clause-only
returns-then-octets-clause-only c = λ s enc.
    let type = ether_of_secured s _ enc in
    elim c.then-octets.branch [
      | then-octets-via-then-octets w ↦ w.if-octets.true type.0
      | then-octets-via-else-octets+then-octets-ne-TYPE_LOW w ↦ w.if-octets-ne-TYPE_LOW.true type.1
    ]

pub returns-then-octets-gt-LONGEST_SECURED_FRAME-clause-only :
    goal.returns-then-octets-gt-LONGEST_SECURED_FRAME-clause-only
returns-then-octets-gt-LONGEST_SECURED_FRAME-clause-only c = λ s enc.
    omega (arith, (secured_bounds s _ enc).1, c.if-octets-gt-LONGEST_SECURED_FRAME.true)

pub slice_bounds-result-count : goal.slice_bounds-result-count
slice_bounds-result-count c =
    let w = c.args.octets.now in
    omega (arith, c.in-Ok.ensures.long, length-drop 14 w, length-take (length w - 14) (drop 14 w))

pub slice_bounds-result-start : goal.slice_bounds-result-start
slice_bounds-result-start c =
    let w = c.args.octets.now in
    omega (arith, c.in-Ok.ensures.long, length-drop 14 w, length-take (length w - 14) (drop 14 w))

pub returns-in-Ok-clause-found : goal.returns-in-Ok-clause-found
returns-in-Ok-clause-found c =
    let w = c.args.octets.now in
    let m : List ℕ = take (length w - 18) (drop 18 w) in
    let message : m ≡ drop 18 w = take_rest w 18 in
    let packet = take_rest w 14 in
    let long : 19 ≤ length w =
    omega (arith, c.in-Ok.ensures.long, length-drop 14 w, length-take (length w - 14) (drop 14 w))
    in
    let first = take-first_six w (omega arith) in
    let next = take-next_six w (omega arith) in
    let text : drop 14 w ≡ secured_header c.in-Ok.basic ++ m =
    sym packet ∙ c.in-Ok.ensures.found
    ∙ ap (λ (t : List ℕ). secured_header c.in-Ok.basic ++ drop 4 t) packet
    ∙ ap (λ (t : List ℕ). secured_header c.in-Ok.basic ++ t) (drop-drop 4 14 w ∙ sym message) in
    EncodesSecured-parts w c.in-Ok.basic m _ _ long
    (omega (arith, c.if-octets-gt-LONGEST_SECURED_FRAME.false))
    (λ i. omega (arith, c.type_inv.octets i)) c.if-octets.false c.if-octets-ne-TYPE_LOW.false text
    message c.in-Ok.ensures.range (c.mac_at.ensures.number
    ∙ ap (big_number 6) first) (c.mac_at.ensures.octets ∙ first) (c.mac_at-in-Ok.ensures.number
    ∙ ap (big_number 6) next) (c.mac_at-in-Ok.ensures.octets ∙ next)

pub invariant_of-result : goal.invariant_of-result
invariant_of-result c = (returns-in-Ok-clause-found c).fields

pub returns-in-Ok-clause-only : goal.returns-in-Ok-clause-only
returns-in-Ok-clause-only c = λ s enc.
    let w = c.args.octets.now in
    let first = take-first_six w (omega (arith, (secured_bounds s w enc).0)) in
    let next = take-next_six w (omega (arith, (secured_bounds s w enc).0)) in
    same_secured s _ _ _ _ (c.mac_at.ensures.number ∙ ap (big_number 6) first
    ∙ target_of_secured s w enc) (c.mac_at-in-Ok.ensures.number ∙ ap (big_number 6) next
    ∙ source_of_secured s w enc)
    (c.in-Ok.ensures.only s.basic s.message (basic_of_secured s w enc) enc.fields.some
    (take_rest w 14 ∙ packet_of_secured s w enc))
    (take_rest w 18 ∙ message_of_secured s w enc)

pub returns-in-Err-clause-only : goal.returns-in-Err-clause-only
returns-in-Err-clause-only c = λ s enc.
    let w = c.args.octets.now in
    absurd (c.in-Err.ensures.only s.basic s.message (basic_of_secured s w enc) enc.fields.some
    (take_rest w 14 ∙ packet_of_secured s w enc))
