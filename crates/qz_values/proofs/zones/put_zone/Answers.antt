use Rattle.std.proofs.Common.{arith}
use Rattle.qz_civil.proofs.ZoneLemmas.{zone-length}
use Rattle.qz_values.proofs.ZoneFormats.{table_of_two}
use Rattle.qz_values.proofs.zones.put_zone.Goals as goal

pub put_list-requires : goal.put_list-requires
put_list-requires c =
    let long = zone-length c.args.zone.now c.as_slice.ensures.valid in
    rw c.as_slice.ensures.value (omega (arith, long.1))

pub returns-clause-valid : goal.returns-clause-valid
returns-clause-valid c = table_of_two c.args.zone.now c.as_slice.ensures.valid
