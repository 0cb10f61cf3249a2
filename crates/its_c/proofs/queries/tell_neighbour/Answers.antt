use Rattle.std.proofs.Common.{rules, subst, Option}
use mir.Syntax.{w32}
use mir.Val.{to_z, of_z}
use Rattle.its_gnvalue.specs.Values.{PositionVector}
use Rattle.its_c.specs.Lookups.{TellsFound}
use Rattle.its_c.proofs.Lookups.{neighbour_found}
use Rattle.its_c.proofs.queries.tell_neighbour.Goals as goal

pub returns-clause-found : goal.returns-clause-found
returns-clause-found c = λ m rep moment.
    let found = c.next_neighbour-found in
    let is = neighbour_found c.args.station.now m c.args.now c.greatest_to-after.result c.args.after
    _ _ found.result rep moment c.table.ensures.remember c.table.ensures.content
    found.ensures.next c.greatest_to-after.ensures.least c.greatest_to-after.ensures.above
    found.ensures.above c.tell_found-2.ensures.individual in
    subst (λ (o : Option PositionVector). TellsFound o (to_z w32 (of_z w32 c.tell_found-2.result))
    c.tell_found-2.new.vector) is (search rules)
