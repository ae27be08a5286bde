use Rattle.std.proofs.Common.{w64}
use Rattle.std.proofs.lemmas.Int.{to_z-of_z}
use Rattle.qz_times.proofs.NextLaws.{next_is}
use Rattle.qz_times.proofs.telling.next_time.Goals as goal

pub returns : goal.returns
returns c =
    let back = to_z-of_z w64 c.args.after c.ranges.after in
    next_is c.args.known.now.store.tables c.args.spec.now c.args.after c.next_after.result c.args.known.now.reaches c.requires.spec c.requires.low (rw (c.tables.ensures, back) at c.next_after.ensures.value)
