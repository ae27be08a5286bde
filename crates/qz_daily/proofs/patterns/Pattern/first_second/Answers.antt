use Rattle.std.proofs.Common.{◌≡◌, ◌+◌, ◌/◌, arith}
use Rattle.qz_civil.specs.declared.limits.TheConstants.{DAY_SECONDS}
use Rattle.qz_daily.proofs.LocalSeconds.{none-ever}
use Rattle.qz_daily.proofs.patterns.Pattern.first_second.Goals as goal

pub returns-clause-none : goal.returns-clause-none
returns-clause-none c =
    let last : c.loop-day.day ≡ c.args.floor / DAY_SECONDS + 8 = omega arith in
    none-ever c.args.self.now c.args.floor (rw last at c.loop-day.invariant)
