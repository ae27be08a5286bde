use Rattle.std.proofs.Common.{rules}
use Rattle.qz_acquire.proofs.Facts.{threshold_of}
use Rattle.qz_acquire.proofs.due.earliest.Goals as goal

pub overflow_sub-result : goal.overflow_sub-result
overflow_sub-result c =
    let bound = threshold_of c.args.tables.now.tables c.requires.valid in
    search rules

pub returns : goal.returns
returns c =
    let bound = threshold_of c.args.tables.now.tables c.requires.valid in
    search rules
