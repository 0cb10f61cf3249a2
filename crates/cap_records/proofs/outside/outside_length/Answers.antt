use Rattle.std.proofs.Common.{◌∙◌, ◌≤◌, arith, drop, length, List, subst, sym, take, ℕ}
use Rattle.std.proofs.lemmas.List.{take_rest}
use Rattle.its_outside.specs.Encoding.{Encodes, Standard}
use Rattle.its_outside.specs.Outside.{BeginsInProfile}
use Rattle.cap_records.proofs.OutsideFronts.{outside_ends, outside_front, outside_parts}
use Rattle.cap_records.proofs.OutsideFronts.{ok_not_err, reads_in_profile}
use Rattle.cap_records.specs.OutsideFrames.{EndsAt}
use Rattle.cap_records.proofs.outside.outside_length.Goals as goal
use Rattle.cap_records.proofs.outside.outside_length.Goals.{then-octets-via-then-octets}
use Rattle.cap_records.proofs.outside.outside_length.Goals.{then-octets-via-else-octets+then-octets-ne-TYPE_LOW}

pub returns-then-octets-lt-PACKET-clause-none : goal.returns-then-octets-lt-PACKET-clause-none
returns-then-octets-lt-PACKET-clause-none c = λ n s i.
    let o = outside_parts c.args.padded c.args.octets.now n s i in
    omega (arith, o.long, o.within)

pub returns-then-octets-clause-none : goal.returns-then-octets-clause-none
returns-then-octets-clause-none c = λ n s i.
    let o = outside_parts c.args.padded c.args.octets.now n s i in
    elim c.then-octets.branch [
      | then-octets-via-then-octets w ↦ w.if-octets.true o.high
      | then-octets-via-else-octets+then-octets-ne-TYPE_LOW w ↦ w.if-octets-ne-TYPE_LOW.true o.low
    ]

pub returns-in-Err-clause-none : goal.returns-in-Err-clause-none
returns-in-Err-clause-none c = λ n s i.
    let w = c.args.octets.now in
    let o = outside_parts c.args.padded w n s i in
    let is = c.in-Err.ensures.only s.packet (drop 14 (take n w)) (drop n w) o.packet
    (take_rest w 14 ∙ o.behind) in
    i.outside (subst BeginsInProfile (take_rest w 14) (reads_in_profile _ _ is
    c.in-Err.ensures.reason))

pub returns-else-ends_at-clause-none : goal.returns-else-ends_at-clause-none
returns-else-ends_at-clause-none c = λ n s i.
    let w = c.args.octets.now in
    let o = outside_parts c.args.padded w n s i in
    let read = c.in-Ok.ensures.only s.packet (drop 14 (take n w)) (drop n w) o.packet
    (take_rest w 14 ∙ o.behind) in
    let ended = outside_ends w s n c.in-Ok.length o read.1 in
    c.ends_at.ensures.no c.if-ends_at.false (subst (EndsAt c.args.padded w) (sym ended) i.ends)

pub returns-then-ends_at-clause-found : goal.returns-then-ends_at-clause-found
returns-then-ends_at-clause-found c =
    let w = c.args.octets.now in
    let k = c.in-Ok.length in
    let found = c.in-Ok.ensures.found in
    let le = subst (λ (v : List ℕ). k ≤ length v) (take_rest w 14) found.0 in
    let p : Standard = record {
      fields = c.in-Ok.field-0-0.fields;
      payload = c.in-Ok.field-0-0.payload.now;
    } in
    let enc = subst (λ (v : List ℕ). Encodes p (take k v)) (take_rest w 14) found.1 in
    let no : ¬ BeginsInProfile (drop 14 w) =
    λ b. ok_not_err _ _
    (c.in-Ok.ensures.profile b.pdu b.left b.encoded b.rest b.encodes (take_rest w 14 ∙ b.is)) in
    let (s, frame) = outside_front w p k (omega arith) c.if-octets.false
    c.if-octets-ne-TYPE_LOW.false le enc no in (
      s,
      record {
        within = omega arith;
        ends = c.ends_at.ensures.yes c.if-ends_at.true;
        frame = frame;
        outside = no;
      },
    )
