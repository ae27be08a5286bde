use Rattle.std.proofs.Common.{rules, to_z-of_z}
use Rattle.qz_civil.specs.declared.limits.TheConstants.{LAST}
use Rattle.qz_civil.specs.Least.{IsNext}
use Rattle.qz_misfire.proofs.NextLaws.{same_next}
use Rattle.qz_misfire.proofs.misfires.after_misfire.Goals as goal

pub returns-in-ResumeCountingMissed : goal.returns-in-ResumeCountingMissed
returns-in-ResumeCountingMissed g c l is_next =
    let now = to_z-of_z c.ranges.now in
    let found : IsNext LAST (g.T.Times.timestamps c.args.later.now) c.args.now c.next-later.result = rw now at c.next-later.ensures in
    rw (← same_next LAST (g.T.Times.timestamps c.args.later.now) c.args.now c.next-later.result l found is_next) (search rules)

pub returns-in-Resume : goal.returns-in-Resume
returns-in-Resume g c l is_next =
    let now = to_z-of_z c.ranges.now in
    let found : IsNext LAST (g.T.Times.timestamps c.args.later.now) c.args.now c.next.result = rw now at c.next.ensures in
    rw (← same_next LAST (g.T.Times.timestamps c.args.later.now) c.args.now c.next.result l found is_next) (search rules)
