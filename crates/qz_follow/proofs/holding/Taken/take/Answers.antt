use Rattle.qz_follow.proofs.NewTables.{keeps_on}
use Rattle.std.proofs.Common.{refl}
use Rattle.qz_follow.proofs.holding.Taken.take.Goals as goal

pub invariant_of-self-clause-based : goal.invariant_of-self-clause-based
invariant_of-self-clause-based c =
    let s = c.args.self.now in
    keeps_on s.version s.stage s.start.value.tables s.entries.items s.entries.items s.kept s.kept s.base c.requires.here refl s.based
