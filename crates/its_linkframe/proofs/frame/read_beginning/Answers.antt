use Rattle.std.proofs.Common.{arith, ap, subst, ◌∙◌, ◌≤◌, take, drop, length, length-drop, List, ℕ}
use Rattle.std.proofs.lemmas.List.{take_rest}
use Rattle.byteorder.specs.Endian.{big_number}
use Rattle.its_headers.specs.Encoding.{Encodes}
use Rattle.its_linkframe.proofs.Fronts.{packet_of_frame, same_transmission, Trails-of}
use Rattle.its_linkframe.proofs.Fronts.{take-first_six, take-next_six}
use Rattle.its_linkframe.proofs.FrameLaws.{ether_type-is}
use Rattle.its_linkframe.proofs.Paddings.{addresses_in_front, beginning_frame, frame_ends}
use Rattle.its_linkframe.proofs.Paddings.{frame_long, packet_front, type_of_front}
use Rattle.its_linkframe.proofs.frame.read_beginning.Goals as goal
use Rattle.its_linkframe.proofs.frame.read_beginning.Goals.{then-octets-via-then-octets}
use Rattle.its_linkframe.proofs.frame.read_beginning.Goals.{then-octets-via-else-octets+then-octets-ne-TYPE_LOW}

pub returns-then-octets-lt-PACKET-clause-only : goal.returns-then-octets-lt-PACKET-clause-only
returns-then-octets-lt-PACKET-clause-only c = λ n t short le enc.
    omega (arith, frame_long c.args.octets.now n t le enc)

pub returns-then-octets-clause-only : goal.returns-then-octets-clause-only
returns-then-octets-clause-only c = λ n t short le enc.
    let type = type_of_front c.args.octets.now n t le enc in
    elim c.then-octets.branch [
      | then-octets-via-then-octets w ↦ w.if-octets.true type.0
      | then-octets-via-else-octets+then-octets-ne-TYPE_LOW w ↦ w.if-octets-ne-TYPE_LOW.true type.1
    ]

pub returns-in_err-packet-clause-only : goal.returns-in_err-packet-clause-only
returns-in_err-packet-clause-only c = λ n t short le enc.
    let w = c.args.octets.now in
    absurd (c.in_err-packet.ensures.only t.pdu t.hops_left (drop 14 (take n w)) (drop n w)
    (packet_of_frame t (take n w) enc) (take_rest w 14 ∙ packet_front w n t le enc))

pub returns-clause-within : goal.returns-clause-within
returns-clause-within c =
    let w = c.args.octets.now in
    let read = subst (λ (v : List ℕ). c.in_ok-packet.length ≤ length v) (take_rest w 14)
    c.in_ok-packet.ensures.found.0 in
    omega (arith, read, length-drop 14 w)

pub returns-clause-found : goal.returns-clause-found
returns-clause-found c =
    let w = c.args.octets.now in
    let s = c.in_ok-packet.packet in
    let k = c.in_ok-packet.length in
    let found = c.in_ok-packet.ensures.found in
    let first = take-first_six w (omega arith) in
    let next = take-next_six w (omega arith) in
    beginning_frame w s k _ _ (omega arith) (λ i. omega (arith, c.type_inv.octets i))
    c.if-octets.false c.if-octets-ne-TYPE_LOW.false
    (subst (λ (v : List ℕ). k ≤ length v) (take_rest w 14) found.0)
    (subst (λ (v : List ℕ). Encodes s.pdu s.left (take k v)) (take_rest w 14) found.1)
    (c.mac_at.ensures.number ∙ ap (big_number 6) first) (c.mac_at.ensures.octets ∙ first)
    (c.mac_at-2.ensures.number ∙ ap (big_number 6) next) (c.mac_at-2.ensures.octets ∙ next)

pub returns-clause-only : goal.returns-clause-only
returns-clause-only c = λ n t short le enc.
    let w = c.args.octets.now in
    let first = take-first_six w (omega arith) in
    let next = take-next_six w (omega arith) in
    let read = c.in_ok-packet.ensures.only t.pdu t.hops_left (drop 14 (take n w)) (drop n w)
    (packet_of_frame t (take n w) enc) (take_rest w 14 ∙ packet_front w n t le enc) in
    let same = addresses_in_front w n t le enc in (
      frame_ends w n c.in_ok-packet.length t le enc read.1,
      same_transmission c.in_ok-packet.packet _ _ t read.0
          (c.mac_at.ensures.number ∙ ap (big_number 6) first ∙ same.0)
          (c.mac_at-2.ensures.number ∙ ap (big_number 6) next ∙ same.1),
    )

pub returns-clause-trailing : goal.returns-clause-trailing
returns-clause-trailing c = λ lt.
    let s = c.in_ok-packet.packet in
    let enc = subst (λ (v : List ℕ). Encodes s.pdu s.left v)
    (ap (λ (v : List ℕ). take c.in_ok-packet.length v)
    (take_rest c.args.octets.now 14)) c.in_ok-packet.ensures.found.1 in (
      (
        (
          omega arith,
          ether_type-is c.args.octets.now
              (omega arith) c.if-octets.false c.if-octets-ne-TYPE_LOW.false,
        ),
        omega arith,
      ),
      Trails-of _ s c.in_ok-packet.length enc (omega (arith, lt, length-drop 14 c.args.octets.now)),
    )
