use Rattle.std.proofs.Common.{rules}
use Rattle.its_gnvalue.specs.Values.{IsIndividual, IsLatitude, IsLongitude}
use Rattle.its_governor.specs.Forwarding.{AreRemembered}
use Rattle.its_c.specs.Configs.{HasContention, HasSizes, HasLimits, limits_of}
use Rattle.its_c.proofs.heap.geostation_new_from_config.Goals as goal

pub returns-in_default-make-clause-taken : goal.returns-in_default-make-clause-taken
returns-in_default-make-clause-taken c = λ other.
    let config = c.args.config.now in
    let sizes : HasSizes config = search rules in
    let individual : IsIndividual config.address = search rules in
    let latitude : IsLatitude config.latitude = search rules in
    let longitude : IsLongitude config.longitude = search rules in
    let limits : HasLimits config = search rules in
    let kept : AreRemembered (limits_of config).forward (limits_of config).source = search rules in
    let contention : HasContention config = search rules in
    (sizes, individual, latitude, longitude, limits, kept, contention)

pub returns-clause-taken : goal.returns-clause-taken
returns-clause-taken c = λ other.
    let config = c.args.config.now in
    let sizes : HasSizes config = search rules in
    let individual : IsIndividual config.address = search rules in
    let latitude : IsLatitude config.latitude = search rules in
    let longitude : IsLongitude config.longitude = search rules in
    let limits : HasLimits config = search rules in
    let kept : AreRemembered (limits_of config).forward (limits_of config).source = search rules in
    let contention : HasContention config = search rules in
    (sizes, individual, latitude, longitude, limits, kept, contention)
