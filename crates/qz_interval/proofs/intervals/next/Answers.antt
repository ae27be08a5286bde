use Rattle.std.proofs.Common.{w64}
use Rattle.std.proofs.lemmas.Int.{to_z-of_z}
use Rattle.qz_interval.proofs.intervals.next.Goals as goal

pub returns-in-Day : goal.returns-in-Day
returns-in-Day c =
    let start = to_z-of_z w64 c.args.start c.ranges.start in
    let after = to_z-of_z w64 c.args.after c.ranges.after in
    rw c.in-Day.is (rw (start, after, c.from-every.ensures) at c.next_dated.ensures)

pub returns-in-Week : goal.returns-in-Week
returns-in-Week c =
    let start = to_z-of_z w64 c.args.start c.ranges.start in
    let after = to_z-of_z w64 c.args.after c.ranges.after in
    rw c.in-Week.is (rw (start, after, c.from-every.ensures) at c.next_dated-in-Week.ensures)

pub returns-in-Month : goal.returns-in-Month
returns-in-Month c =
    let start = to_z-of_z w64 c.args.start c.ranges.start in
    let after = to_z-of_z w64 c.args.after c.ranges.after in
    rw c.in-Month.is (rw (start, after, c.from-every.ensures) at c.next_dated-in-Month.ensures)

pub returns-in-Year : goal.returns-in-Year
returns-in-Year c =
    let start = to_z-of_z w64 c.args.start c.ranges.start in
    let after = to_z-of_z w64 c.args.after c.ranges.after in
    rw c.in-Year.is (rw (start, after, c.from-every.ensures) at c.next_dated-in-Year.ensures)
