use Rattle.std.proofs.Common.{arith, ap, length}
use Rattle.cap_records.proofs.Inner.{secured_length}
use Rattle.cap_records.proofs.signed.find_plain.Goals as goal

pub returns-clause-inside : goal.returns-clause-inside
returns-clause-inside c =
    let size = secured_length c.in_ok-secured.secured c.args.frame.now c.in_ok-secured.ensures.found in
    omega (
      arith,
      size,
      ap length c.message.ensures.value,
      c.in_ok-message.ensures.place.inside,
      c.start.ensures,
      ap length c.plain.ensures,
    )
