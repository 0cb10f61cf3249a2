use Rattle.std.proofs.Common.{◌≡◌, ◌&&◌, true, All, sym, subst, ◌∙◌}
use Rattle.std.specs.Ordering.{int_eq}
use Rattle.std.proofs.lemmas.Bool.{and_parts}
use Rattle.std.proofs.lemmas.Bool.Decides.{Decides-int_eq}
use Rattle.its_gnvalue.specs.Values.{Position}
use Rattle.its_model.specs.Stations.{stations_at}
use Rattle.its_loctable.specs.declared.sorted.slot.SortedSlot.{SortedSlot}
use Rattle.its_loctable.specs.Bound.{is_within}
use Rattle.its_loctable.specs.Kept.{numbers_of}
use Rattle.its_loctable.specs.Nearest.{IsNearest}
use Rattle.its_loctable.proofs.NearestLemmas.{nearest-is}
use Rattle.its_loctable.proofs.sorted.SortedTable.kept_nearest.Goals as goal

-- places that compare as equal are the same
same_place : (p q : Position)
    → (int_eq p.latitude q.latitude && int_eq p.longitude q.longitude) ≡ true → p ≡ q
same_place p q e =
    let parts = and_parts (int_eq p.latitude q.latitude) (int_eq p.longitude q.longitude) e in
    let lat = (Decides-int_eq p.latitude q.latitude).0 parts.0 in
    let lon = (Decides-int_eq p.longitude q.longitude).0 parts.1 in
    λ i. record { latitude = lat i; longitude = lon i }

pub returns-in-Some : goal.returns-in-Some
returns-in-Some c = λ history rep.
    let table = c.args.self.now in
    let kept = c.in-Some.nearest in
    let stations = stations_at table.remembered c.args.now history in
    subst (λ p. IsNearest p stations c.still_nearest.result)
    (same_place kept.place c.args.centre (sym c.eq.ensures ∙ c.if-eq.true))
    (nearest-is (numbers_of table) table.remembered kept table.slots.items history c.args.now
    c.still_nearest.result c.if-nearest-now.true c.requires
    (subst (λ o. All (λ (s : SortedSlot). is_within o s ≡ true) table.slots.items)
    c.in-Some.is table.bound)
    rep c.still_nearest.ensures)
