use Rattle.std.proofs.Common.{rules, arith}
use Rattle.qz_journal.proofs.Headers.{other_header}
use Rattle.qz_journal.proofs.layout.version_of.Goals as goal

pub returns-then-ne-clause-none : goal.returns-then-ne-clause-none
returns-then-ne-clause-none c none version is = other_header c.args.kind c.args.front.now c.split_at.result.0.now c.split_at.ensures.front (λ same. grind (arith, rules)) version is
