use Rattle.std.proofs.Common.{◌∙◌, drop, sym, ap}
use Rattle.std.specs.Prelude.{◌==◌}
use Rattle.std.specs.List.{position}
use Rattle.std.proofs.lemmas.List.{get_or-drop}
use Rattle.sim_queue.specs.declared.places.place_index.Standing.{Standing}
use Rattle.sim_queue.proofs.Counts.{found_at}
use Rattle.sim_queue.proofs.places.place_index.find_from.Goals as goal

pub returns-clause-found : goal.returns-clause-found
returns-clause-found c = λ d.
    let xs = c.args.order.now in
    let sooner = c.partition_point-sooner.result in
    let at = c.in_ok-at.at in
    ap (λ (s : Standing). s.number) (sym (get_or-drop sooner xs at d))
    ∙ found_at (drop sooner xs) c.args.number at
    (ap (position (λ (s : Standing). s.number == c.args.number)) (sym c.split_at.ensures.back)
    ∙ sym c.place_in.ensures ∙ c.in_ok-at.was) d
