use Rattle.std.proofs.Common.{◌+◌, arith}
use Rattle.qz_cron.proofs.LongMonths.{all_months, not_february, long_months, too_long}
use Rattle.qz_cron.proofs.lengths.months_of.Goals as goal

pub returns-then-length-le29 : goal.returns-then-length-le29
returns-then-length-le29 c y m lt long = all_months m lt

pub returns-then-length-le30 : goal.returns-then-length-le30
returns-then-length-le30 c y m lt long = not_february y m lt (omega arith)

pub returns-then-length-le31 : goal.returns-then-length-le31
returns-then-length-le31 c y m lt long = long_months y m lt (omega arith)

pub returns-else-length-le31 : goal.returns-else-length-le31
returns-else-length-le31 c y m lt long = absurd (too_long y (m + 1) (omega arith))
