use Rattle.std.proofs.Common.{rules, ◌+◌, ◌*◌, arith, slice_index}
use Rattle.cap_linklayers.specs.Radiotap.{has_signal, signal_at}
use Rattle.cap_linklayers.proofs.RadiotapHeaders.{HasEnd, field_found, field_beyond, field_endless}
use Rattle.cap_linklayers.proofs.RadiotapHeaders.{field_unsaid, field_absent, signal_low}
use Rattle.cap_linklayers.proofs.radiotap.signal_of.Goals as goal

pub returns-in_err-size : goal.returns-in_err-size
returns-in_err-size c =
    rw (c.from_residual.ensures) (field_absent has_signal signal_at c.args.octets.now
    (search rules))

pub returns-then-not-has : goal.returns-then-not-has
returns-then-not-has c =
    field_unsaid has_signal signal_at c.args.octets.now (search rules) (search rules)

pub returns-in_err-word : goal.returns-in_err-word
returns-in_err-word c =
    rw (c.from_residual-in_err-word.ensures)
    (field_endless has_signal signal_at c.args.octets.now (search rules) (search rules))

pub returns-then-place-size : goal.returns-then-place-size
returns-then-place-size c =
    let end : HasEnd c.args.octets.now c.in_ok-word.word = (
      c.in_ok-word.ensures.last,
      omega (
        arith,
        c.in_ok-word.ensures.inside,
        c.in_ok-size.ensures.there.1,
      ),
    ) in (
      _,
      field_found has_signal signal_at c.args.octets.now c.in_ok-word.word _ c.in_ok-size.ensures.there.0 end
          c.signal_place-place.ensures.place
          (omega (
            arith,
            c.signal_place-place.ensures.place,
            signal_low
                (slice_index c.args.octets.now 4) (8 + 4 * c.in_ok-word.word),
          ))
          (omega (arith, c.if-place-size.true, c.in_ok-size.ensures.there.1)) (search rules),
      search rules,
    )

pub returns-else-place-size : goal.returns-else-place-size
returns-else-place-size c =
    let end : HasEnd c.args.octets.now c.in_ok-word.word = (
      c.in_ok-word.ensures.last,
      omega (
        arith,
        c.in_ok-word.ensures.inside,
        c.in_ok-size.ensures.there.1,
      ),
    ) in
    field_beyond has_signal signal_at c.args.octets.now c.in_ok-word.word _ c.in_ok-size.ensures.there.0 end
    c.signal_place-place.ensures.place (omega (
      arith,
      c.if-place-size.false,
      c.in_ok-size.ensures.there.1,
    )) (search rules)
