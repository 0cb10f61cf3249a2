use Rattle.std.proofs.Common.{◌≡◌, ◌∙◌, ◌+◌, ◌-◌, ◌*◌, ◌/◌, ◌++◌, ℕ, List, cond, map}
use Rattle.std.proofs.Common.{filter, ap, arith}
use Rattle.std.specs.Prelude.{count_by, ◌==◌}
use Rattle.std.proofs.lemmas.List.Sums.{sum_by-append}
use Rattle.its_gnvalue.specs.Values.{Position}
use Rattle.sim_queue.specs.declared.places.place_index.Standing.{Standing}
use Rattle.sim_queue.specs.Reach.{hears_there}
use Rattle.sim_queue.specs.PlaceIndexes.{northing, is_between}
use Rattle.sim_queue.proofs.Counts.{count_gathered}
use Rattle.sim_queue.proofs.Rows.{row_more, none_before, all_found}
use Rattle.sim_queue.proofs.places.place_index.PlaceIndex.gather_rows.Goals as goal

pub loop-row-init : goal.loop-row-init
loop-row-init c =
    let range = c.args.range in
    let height = c.args.self.now.range in
    let place = c.args.place in
    let south : c.saturating_sub.result ≡ northing place - 100 * range =
    omega (arith, c.saturating_sub.ensures, c.northing-north.ensures.value, c.from-reach.ensures) in
    let first : c.row_at-first.result ≡ (northing place - 100 * range) / (100 * height + 1) =
    c.row_at-first.ensures.value ∙ ap (λ k. k / (100 * height + 1)) south in
    record {
      found = λ n.
          let none = none_before height range c.args.giver place c.row_at-first.result n
          c.args.self.now.order.items (omega (arith, first)) in
          ap (count_by (λ m. m == n)) c.clear.ensures.items ∙ omega (arith, none);
      centre = c.new-centre.ensures;
    }

pub loop-row-preserved : goal.loop-row-preserved
loop-row-preserved c =
    let range = c.args.range in
    let giver = c.args.giver in
    let height = c.args.self.now.range in
    let place = c.args.place in
    let row = c.loop-row.row in
    let west = c.args.stretch.west in
    let east = c.args.stretch.east in
    let xs = c.args.self.now.order.items in
    let old = c.loop-row.found.items in
    let near : List Standing =
    filter (is_between height (row * 4294967296 + west) (row * 4294967296 + east)) xs in
    let near_is : c.between-near.result.now ≡ near =
    c.between-near.ensures
    ∙ ap (λ k. filter (is_between height k c.key_at-in-loop-row.result) xs) c.key_at.ensures
    ∙ ap (λ k. filter (is_between height (row * 4294967296 + west) k) xs)
    c.key_at-in-loop-row.ensures in
    let items : c.gather.new.found.items
    ≡ old ++ map (λ s. s.number) (filter (hears_there range giver place) near) =
    c.in_ok-gather.ensures
    ∙ ap (λ (p : Position). old ++ map (λ s. s.number)
    (filter (hears_there range giver p) c.between-near.result.now)) c.loop-row.invariant.centre
    ∙ ap (λ (l : List Standing). old ++ map (λ s. s.number)
    (filter (hears_there range giver place) l)) near_is in
    record {
      found = λ n.
          let more = ap (count_by (λ m. m == n)) items
          ∙ sum_by-append (λ (m : ℕ). cond (m == n) 1 0) old
          (map (λ s. s.number) (filter (hears_there range giver place) near)) in
          let new = count_gathered range giver place near n in
          let rows = row_more height range giver place west east row n xs c.requires.east
          c.requires.covers c.args.self.now.longitudes in
          let before = c.loop-row.invariant.found n in
          omega (arith, more, new, rows, before);
      centre = c.loop-row.invariant.centre;
    }

pub returns : goal.returns
returns c =
    let range = c.args.range in
    let height = c.args.self.now.range in
    let place = c.args.place in
    let north : c.northing-north.result + 100 * c.from-reach.result ≡ northing place + 100 * range =
    omega (arith, c.northing-north.ensures.value, c.from-reach.ensures) in
    let last : c.row_at-last.result ≡ (northing place + 100 * range) / (100 * height + 1) =
    c.row_at-last.ensures.value ∙ ap (λ k. k / (100 * height + 1)) north in
    λ n. c.loop-row.invariant.found n
    ∙ all_found height range c.args.giver place c.loop-row.row n c.args.self.now.order.items
    (omega (arith, last, c.loop-row-test.false))
