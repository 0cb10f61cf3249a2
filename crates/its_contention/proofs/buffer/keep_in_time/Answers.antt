use Rattle.std.proofs.Common.{rules}
use Rattle.std.proofs.lemmas.Fn.{filter_same}
use Rattle.its_contention.proofs.buffer.keep_in_time.Goals as goal

pub returns-clause-held : goal.returns-clause-held
returns-clause-held g c = filter_same _ _ _ (λ x b f' k. search rules) _ _ c.retain.ensures.filtered
