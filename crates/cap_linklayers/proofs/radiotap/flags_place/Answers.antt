use Rattle.std.proofs.Common.{rules, arith}
use Rattle.cap_linklayers.proofs.RadiotapHeaders.{HasEnd, flags_found, flags_beyond, flags_endless}
use Rattle.cap_linklayers.proofs.radiotap.flags_place.Goals as goal

pub returns-in_err-word-clause-none : goal.returns-in_err-word-clause-none
returns-in_err-word-clause-none c =
    rw (c.from_residual.ensures) (λ has. flags_endless c.args.octets.now c.requires.there
    (search rules) has)

pub returns-then-place-size-clause-some : goal.returns-then-place-size-clause-some
returns-then-place-size-clause-some c =
    λ has. let end : HasEnd c.args.octets.now c.in_ok-word.word =
    (c.in_ok-word.ensures.last, omega (arith, c.in_ok-word.ensures.inside, c.requires.size)) in
    rw (c.requires.size)
    (flags_found c.args.octets.now c.in_ok-word.word _ c.requires.there end c.first_field-place.ensures.place
    (omega (arith, c.if-place-size.true, c.requires.size)) has)

pub returns-else-place-size-clause-none : goal.returns-else-place-size-clause-none
returns-else-place-size-clause-none c =
    λ has. let end : HasEnd c.args.octets.now c.in_ok-word.word =
    (c.in_ok-word.ensures.last, omega (arith, c.in_ok-word.ensures.inside, c.requires.size)) in
    flags_beyond c.args.octets.now c.in_ok-word.word _ c.requires.there end
    c.first_field-place.ensures.place (omega (arith, c.if-place-size.false, c.requires.size)) has
