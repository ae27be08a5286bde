use Rattle.std.proofs.Common.{arith}
use Rattle.qz_cron.proofs.Firsts.{first_same}
use Rattle.qz_calendar.proofs.Lacking.{lacks-complement}
use Rattle.qz_calendar.proofs.bits.next_lacking.Goals as goal

pub returns-clause-first : goal.returns-clause-first
returns-clause-first c = first_same _ _ _ _ _ (λ k from to. lacks-complement c.args.set k c.ranges.set.fits (omega arith)) c.next_bit.ensures.first
