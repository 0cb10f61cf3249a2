-- The codes of the faults of values.
use Rattle.std.specs.Prelude.{ℕ, List, codes}
use Rattle.its_gnvalue.specs.declared.fault.ValueFault.{ValueFault}
use Rattle.its_gnvalue.specs.declared.fault.ValueFault.TheVariants.{LatitudeRange, LongitudeRange}
use Rattle.its_gnvalue.specs.declared.fault.ValueFault.TheVariants.{SpeedRange, GroupMid}

abbrev pub value_code : ValueFault → List ℕ
value_code LatitudeRange = codes "V1"
value_code LongitudeRange = codes "V2"
value_code SpeedRange = codes "V3"
value_code GroupMid = codes "V4"
