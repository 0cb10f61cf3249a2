use Rattle.std.proofs.Common.{rules, arith, ◌≡◌, ℕ, ◌++◌, ◌∷◌, [], ◌+◌, ◌-◌, List, Option, Some, None}
use Rattle.std.proofs.Common.{subst, sym, ap, ◌∙◌, inl, inr, IsTrue, IsSome, ◌↔◌, false}
use Rattle.its_gnvalue.specs.Values.{PositionVector}
use Rattle.its_model.specs.Stations.{stations_at}
use Rattle.its_lines.specs.Knowing.{neighbour_above, told_to}
use Rattle.its_lines.proofs.Neighbours.{LeadsTo, found_above, leads_more, leads_end, told_last}
use Rattle.its_lines.proofs.knowing.first_neighbours.Goals as goal

pub loop-preserved : goal.loop-preserved
loop-preserved c =
    let v = c.loop.invariant in
    let vector = c.in-Some.vector in
    let same : c.address.result ≡ vector.address = c.address.ensures in
    let pushed : c.push.new.self.items ≡ c.loop.vectors.items ++ vector ∷ [] = search rules in
    record {
      leads = λ m rep.
          let known = c.in_default.ensures.known m rep in
          let stations = stations_at m.remember c.args.now m.history in
          let found = found_above c.args.station.now m c.args.now c.loop.last _ _ (Some vector) rep
          known c.table-table.ensures.remember c.table-table.ensures.content c.in-Some.ensures.next
          in
          subst (λ (x : ℕ). LeadsTo c.args.after stations (32 - (c.loop.counter + 1)) (Some x)
          c.push.new.self.items) (sym same)
          (subst (λ (vs : List PositionVector). LeadsTo c.args.after stations
          (32 - (c.loop.counter + 1)) (Some vector.address) vs) (sym pushed)
          (leads_more c.args.after c.loop.last stations c.loop.counter c.loop.vectors.items vector
          c.loop-test.true (v.leads m rep) (sym found)));
      last = ap (λ (vs : List PositionVector). told_to c.args.after vs) pushed
          ∙ told_last c.args.after c.loop.vectors.items vector ∙ ap Some (sym same);
    }

pub returns-in_default-next_neighbour : goal.returns-in_default-next_neighbour
returns-in_default-next_neighbour c = λ m rep.
    let v = c.loop.invariant in
    let known = c.in_default.ensures.known m rep in
    let stations = stations_at m.remember c.args.now m.history in
    let none = found_above c.args.station.now m c.args.now c.loop.last _ _ None rep known
    c.table-table.ensures.remember c.table-table.ensures.content
    c.in_default-next_neighbour.ensures.next in
    let no : neighbour_above (told_to c.args.after c.loop.vectors.items) stations ≡ None =
    ap (λ (l : Option ℕ). neighbour_above l stations) v.last ∙ sym none in (
      known,
      leads_end c.args.after c.loop.last stations (32 - c.loop.counter) c.loop.vectors.items
          (v.leads m rep) (inr (sym none)),
      subst (λ (o : Option PositionVector). IsTrue false ↔ IsSome o) (sym no) (search rules),
    )

pub returns : goal.returns
returns c = λ m rep.
    let v = c.loop.invariant in
    let known = c.in_default.ensures.known m rep in
    let stations = stations_at m.remember c.args.now m.history in
    let found = found_above c.args.station.now m c.args.now c.loop.last _ _ c.next_neighbour-2.result
    rep known c.table-table.ensures.remember c.table-table.ensures.content
    c.next_neighbour-2.ensures.next in
    let all : 32 - c.loop.counter ≡ 0 = omega (arith, c.loop-test.false) in
    let last : c.next_neighbour-2.result
    ≡ neighbour_above (told_to c.args.after c.loop.vectors.items) stations =
    found ∙ ap (λ (l : Option ℕ). neighbour_above l stations) (sym v.last) in (
      known,
      leads_end c.args.after c.loop.last stations (32 - c.loop.counter) c.loop.vectors.items
          (v.leads m rep) (inl all),
      subst (λ (o : Option PositionVector). IsTrue c.is_some-more.result ↔ IsSome o) last
          (search rules),
    )
