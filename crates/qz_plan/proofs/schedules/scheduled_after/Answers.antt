use Rattle.std.proofs.Common.{rules, FitsSigned, w64}
use Rattle.std.proofs.lemmas.Int.{to_z-of_z}
use Rattle.qz_plan.proofs.schedules.scheduled_after.Goals as goal

pub returns-in-Simple : goal.returns-in-Simple
returns-in-Simple c =
    let a = to_z-of_z w64 c.args.after c.ranges.after in
    let f : FitsSigned w64 c.args.timing.now.start = search rules in
    let s = to_z-of_z w64 c.args.timing.now.start f in
    let g : FitsSigned w64 c.in-Simple.interval = search rules in
    let i = to_z-of_z w64 c.in-Simple.interval g in
    let h : FitsSigned w64 c.in-Simple.count = search rules in
    let n = to_z-of_z w64 c.in-Simple.count h in
    rw c.in-Simple.is (rw n at (rw i at (rw s at (rw a at c.next.ensures))))

pub returns-in-Cron : goal.returns-in-Cron
returns-in-Cron c =
    let a = to_z-of_z w64 c.args.after c.ranges.after in
    let f : FitsSigned w64 c.args.timing.now.start = search rules in
    let s = to_z-of_z w64 c.args.timing.now.start f in
    rw c.in-Cron.is (rw s at (rw a at c.cron_after.ensures))

pub returns-in-Interval : goal.returns-in-Interval
returns-in-Interval c =
    let a = to_z-of_z w64 c.args.after c.ranges.after in
    let f : FitsSigned w64 c.args.timing.now.start = search rules in
    let s = to_z-of_z w64 c.args.timing.now.start f in
    rw c.in-Interval.is (rw s at (rw a at c.next-in-Interval.ensures))

pub returns-in-Daily : goal.returns-in-Daily
returns-in-Daily c =
    let a = to_z-of_z w64 c.args.after c.ranges.after in
    let f : FitsSigned w64 c.args.timing.now.start = search rules in
    let s = to_z-of_z w64 c.args.timing.now.start f in
    rw c.in-Daily.is (rw s at (rw a at c.next-in-Daily.ensures))
