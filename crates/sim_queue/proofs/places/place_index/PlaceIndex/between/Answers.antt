use Rattle.std.proofs.Common.{◌≡◌, ◌∙◌, ℕ, List, ltb, leb, drop, take, subst, sym, ap, rules}
use Rattle.std.proofs.Common.{true, false}
use Rattle.std.specs.List.Sorted.{IsPartitionPoint, IsPartitionedBy}
use Rattle.std.proofs.lemmas.List.Sorted.{IsPartitionPoint-from_clause, IsPartitionedBy-ltb}
use Rattle.std.proofs.lemmas.List.Sorted.{IsPartitionedBy-leb, IsNonDecreasingBy-drop}
use Rattle.sim_queue.specs.declared.places.place_index.Standing.{Standing}
use Rattle.sim_queue.specs.PlaceIndexes.{row_key}
use Rattle.sim_queue.proofs.Between.{between}
use Rattle.sim_queue.proofs.places.place_index.PlaceIndex.between.Goals as goal

pub returns : goal.returns
returns c =
    let low = c.args.low in
    let high = c.args.high in
    let order = c.args.self.now.order.items in
    let key : Standing → ℕ = λ s. row_key c.args.self.now.range s.place in
    let i = c.partition_point-below.result in
    let j = c.partition_point-within.result in
    let rising = c.args.self.now.rising in
    let ys = drop i order in
    let first = IsPartitionPoint-from_clause (λ (s : Standing). ltb (key s) low)
    c.deref.result.now i c.partition_point-below.ensures.partitioned
    (subst (IsPartitionedBy (λ (s : Standing). ltb (key s) low)) (sym c.deref.ensures.value)
    (IsPartitionedBy-ltb key order low rising))
    (λ a r q k. search rules) in
    let back : c.split_at.result.1.now ≡ ys =
    c.split_at.ensures.back ∙ ap (drop i) c.deref-2.ensures.value in
    let second = IsPartitionPoint-from_clause (λ (s : Standing). leb (key s) high)
    c.split_at.result.1.now j c.partition_point-within.ensures.partitioned
    (subst (IsPartitionedBy (λ (s : Standing). leb (key s) high)) (sym back)
    (IsPartitionedBy-leb key ys high (IsNonDecreasingBy-drop key i order rising)))
    (λ a r q k. search rules) in
    c.split_at-2.ensures.front ∙ ap (take j) back ∙ between key low high order i j
    (subst (λ (l : List Standing). IsPartitionPoint (λ s. ltb (key s) low ≡ true)
    (λ s. ltb (key s) low ≡ false) l i) c.deref.ensures.value first)
    (subst (λ (l : List Standing). IsPartitionPoint (λ s. leb (key s) high ≡ true)
    (λ s. leb (key s) high ≡ false) l j) back second)
