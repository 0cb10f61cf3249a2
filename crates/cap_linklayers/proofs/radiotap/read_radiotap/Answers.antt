use Rattle.std.proofs.Common.{rules, ◌≡◌, ◌∙◌, arith}
use Rattle.cap_linklayers.proofs.RadiotapHeaders.{head_none, head_other, head_short, head_small}
use Rattle.cap_linklayers.proofs.RadiotapHeaders.{head_cut}
use Rattle.cap_linklayers.proofs.RadiotapHeaders.{flags_unsaid, length_is}
use Rattle.cap_linklayers.specs.Radiotap.{IsThere, length_of}
use Rattle.cap_linklayers.proofs.radiotap.read_radiotap.Goals as goal

pub returns-then-is_empty-clause-fault : goal.returns-then-is_empty-clause-fault
returns-then-is_empty-clause-fault c = head_none _ c.args.octets.now (search rules)

pub returns-then-octets-ne-VERSION-clause-fault : goal.returns-then-octets-ne-VERSION-clause-fault
returns-then-octets-ne-VERSION-clause-fault c =
    head_other _ c.args.octets.now (search rules) (search rules)

pub returns-then-octets-lt-LENGTH_END-clause-fault :
    goal.returns-then-octets-lt-LENGTH_END-clause-fault
returns-then-octets-lt-LENGTH_END-clause-fault c =
    head_short _ c.args.octets.now (search rules) (search rules) (search rules)

pub returns-then-length-lt-LEAST-clause-fault : goal.returns-then-length-lt-LEAST-clause-fault
returns-then-length-lt-LEAST-clause-fault c =
    let w = c.args.octets.now in
    let size : c.from-length.result ≡ length_of w =
    c.from-length.ensures ∙ c.read_u16.ensures ∙ length_is w in
    head_small _ w (search rules) (search rules) (omega (arith, size, c.if-length-lt-LEAST.true))

pub returns-then-octets-length-clause-fault : goal.returns-then-octets-length-clause-fault
returns-then-octets-length-clause-fault c =
    let w = c.args.octets.now in
    let size : c.from-length.result ≡ length_of w =
    c.from-length.ensures ∙ c.read_u16.ensures ∙ length_is w in
    head_cut _ w (search rules) (search rules) (omega (arith, size, c.if-length-lt-LEAST.false))
    (omega (arith, size, c.if-octets-length.true))

pub returns-then-not-has-clause-header : goal.returns-then-not-has-clause-header
returns-then-not-has-clause-header c =
    let w = c.args.octets.now in
    let size : c.from-length.result ≡ length_of w =
    c.from-length.ensures ∙ c.read_u16.ensures ∙ length_is w in
    let there : IsThere w = (
      search rules,
      search rules,
      omega (arith, size, c.if-length-lt-LEAST.false),
      omega (arith, size, c.if-octets-length.false),
    ) in
    rw (size) (flags_unsaid w there (search rules))
