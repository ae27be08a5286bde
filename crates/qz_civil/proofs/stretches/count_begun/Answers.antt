use Rattle.std.proofs.Common.{int_le, rules}
use Rattle.std.proofs.lemmas.List.Sorted.{IsPartitionPoint-from_clause}
use Rattle.qz_civil.proofs.HalvingLemmas.{begun-parted, zone-parted}
use Rattle.qz_civil.proofs.stretches.count_begun.Goals as goal

pub returns : goal.returns
returns c =
    let parts = zone-parted c.args.stretches.now c.args.ms c.requires in
    let point = IsPartitionPoint-from_clause (λ s. int_le s.from c.args.ms) _ _ c.partition_point.ensures.partitioned parts (λ a r q k. search rules) in
    begun-parted c.args.stretches.now c.args.ms c.partition_point.result c.partition_point.ensures.bound point
