use Rattle.std.proofs.Common.{◌∙◌, ap, drop}
use Rattle.std.proofs.lemmas.List.{take_rest}
use Rattle.cap_records.proofs.signed.rest.Goals as goal

pub returns : goal.returns
returns c =
    take_rest c.as_slice.result.now c.args.start
    ∙ ap (drop c.args.start) c.as_slice.ensures.value
