use Rattle.std.proofs.Common.{rules, sym, ◌∙◌, ◌+◌, ◌*◌, arith, slice_index}
use Rattle.cap_linklayers.specs.Radiotap.{has_rate, rate_at}
use Rattle.cap_linklayers.proofs.RadiotapHeaders.{HasEnd, field_found, field_beyond, field_endless}
use Rattle.cap_linklayers.proofs.RadiotapHeaders.{field_unsaid, field_absent, rate_low}
use Rattle.cap_linklayers.proofs.radiotap.rate_of.Goals as goal

pub returns-in_err-size : goal.returns-in_err-size
returns-in_err-size c =
    c.from_residual.ensures ∙ sym (field_absent has_rate rate_at c.args.octets.now (search rules))

pub returns-then-not-has : goal.returns-then-not-has
returns-then-not-has c =
    sym (field_unsaid has_rate rate_at c.args.octets.now (search rules) (search rules))

pub returns-in_err-word : goal.returns-in_err-word
returns-in_err-word c =
    c.from_residual-in_err-word.ensures
    ∙ sym (field_endless has_rate rate_at c.args.octets.now (search rules) (search rules))

pub returns-then-place-size : goal.returns-then-place-size
returns-then-place-size c =
    let end : HasEnd c.args.octets.now c.in_ok-word.word = (
      c.in_ok-word.ensures.last,
      omega (
        arith,
        c.in_ok-word.ensures.inside,
        c.in_ok-size.ensures.there.1,
      ),
    ) in
    sym (field_found has_rate rate_at c.args.octets.now c.in_ok-word.word _ c.in_ok-size.ensures.there.0 end
    c.rate_place-place.ensures.place
    (omega (
      arith,
      c.rate_place-place.ensures.place,
      rate_low (slice_index c.args.octets.now 4)
          (8 + 4 * c.in_ok-word.word),
    ))
    (omega (arith, c.if-place-size.true, c.in_ok-size.ensures.there.1)) (search rules))

pub returns-else-place-size : goal.returns-else-place-size
returns-else-place-size c =
    let end : HasEnd c.args.octets.now c.in_ok-word.word = (
      c.in_ok-word.ensures.last,
      omega (
        arith,
        c.in_ok-word.ensures.inside,
        c.in_ok-size.ensures.there.1,
      ),
    ) in
    sym (field_beyond has_rate rate_at c.args.octets.now c.in_ok-word.word _ c.in_ok-size.ensures.there.0 end
    c.rate_place-place.ensures.place (omega (
      arith,
      c.if-place-size.false,
      c.in_ok-size.ensures.there.1,
    )) (search rules))
