use Rattle.std.proofs.Common.{◌≡◌, rules, subst}
use Rattle.its_c.specs.Open.{IsOpen}
use Rattle.its_c.proofs.Opens.{open_some}
use Rattle.its_c.proofs.unit_ptr.UnitPtr.take.Goals as goal

pub into_raw_box-requires : goal.into_raw_box-requires
into_raw_box-requires c =
    let same : c.args.self.now.unit ≡ c.replace.result.unit = search rules in
    open_some c.replace.result.unit (subst IsOpen same c.requires)
