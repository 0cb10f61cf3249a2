use Rattle.std.proofs.Common.{◌≡◌, List, ℕ, ◌++◌, length, take, drop, ap, ◌∙◌, arith, rules}
use Rattle.std.proofs.lemmas.List.{take_at}
use Rattle.cap_linklayers.proofs.CookedHeaders.{sll2_frame}
use Rattle.cap_linklayers.proofs.cooked.sll2_start.Goals as goal

pub returns-clause-frame : goal.returns-clause-frame
returns-clause-frame c =
    let old = c.args.octets.now in
    let new = c.put_header.new.octets in
    let front = c.header_of-header.result in
    let kept : take old.len (new ++ drop (length new) old.items) ≡ new =
    take_at new (drop (length new) old.items) old.len
    (omega (arith, c.put_header.ensures.size, c.as_mut_slice.ensures.len)) in
    sll2_frame old.items _ front (search rules) (search rules) (search rules)
    (ap (drop c.put_header.result) kept ∙ c.put_header.ensures.frame
    ∙ ap (λ (l : List ℕ). front ++ drop 20 l) c.as_mut_slice.ensures.value)
