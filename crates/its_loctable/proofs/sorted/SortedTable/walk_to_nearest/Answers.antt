use Rattle.std.proofs.Common.{◌≡◌, true, All, subst, arith}
use Rattle.its_model.specs.Stations.{stations_at}
use Rattle.its_loctable.specs.declared.sorted.slot.SortedSlot.{SortedSlot}
use Rattle.its_loctable.specs.Bound.{is_not_below}
use Rattle.its_loctable.specs.Kept.{numbers_of}
use Rattle.its_loctable.specs.Nearest.{IsNearest}
use Rattle.its_loctable.proofs.NearestLemmas.{nearest-is}
use Rattle.its_loctable.proofs.sorted.SortedTable.walk_to_nearest.Goals as goal

pub returns-clause-bound : goal.returns-clause-bound
returns-clause-bound c =
    subst (All (λ (s : SortedSlot). is_not_below c.among-nearest.result s ≡ true))
    c.deref.ensures.value c.among-nearest.ensures.bound

pub returns-clause-nearest : goal.returns-clause-nearest
returns-clause-nearest c = λ history rep.
    let table = c.args.self.now in
    let nearest = c.among-nearest.result in
    subst
    (λ p. IsNearest p (stations_at table.remembered c.args.now history) c.still_nearest.result)
    c.among-nearest.ensures.place
    (nearest-is (numbers_of table) table.remembered nearest table.slots.items history
    c.args.now c.still_nearest.result (omega (arith, c.among-nearest.ensures.since)) c.requires
    (subst (All (λ (s : SortedSlot). is_not_below nearest s ≡ true)) c.deref.ensures.value
    c.among-nearest.ensures.bound) rep
    c.still_nearest.ensures)
