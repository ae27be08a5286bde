use Rattle.std.proofs.Common.{arith}
use Rattle.qz_cron.proofs.BitSets.{none_left, first_left}
use Rattle.qz_cron.proofs.Firsts.{first_before, none_before}
use Rattle.qz_cron.proofs.bits.next_bit.Goals as goal

pub returns-then-rest-eq0-clause-first : goal.returns-then-rest-eq0-clause-first
returns-then-rest-eq0-clause-first c = none_left c.args.set c.args.from c.args.to c.if-rest-eq0.true

pub returns-then-place-to-clause-first : goal.returns-then-place-to-clause-first
returns-then-place-to-clause-first c =
    rw c.from.ensures (first_before _ _ _ c.args.to _ (first_left c.args.set c.args.from (omega arith) (omega arith)) (rw c.from.ensures at c.if-place-to.true))

pub returns-else-place-to-clause-first : goal.returns-else-place-to-clause-first
returns-else-place-to-clause-first c =
    none_before _ _ _ c.args.to _ (first_left c.args.set c.args.from (omega arith) (omega arith)) (rw c.from.ensures at c.if-place-to.false)
