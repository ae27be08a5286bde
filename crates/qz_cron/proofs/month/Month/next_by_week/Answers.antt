use Rattle.qz_cron.proofs.Weeks.{any_week, week_set, first_is_last, first_is_nth}
use Rattle.qz_cron.proofs.month.Month.next_by_week.Goals as goal

pub returns-in-Any : goal.returns-in-Any
returns-in-Any c = rw c.in-Any.is (any_week c.args.self.start c.args.self.length c.args.low c.any_from.result c.any_from.ensures)

pub returns-in-Set : goal.returns-in-Set
returns-in-Set c = rw c.in-Set.is (week_set c.in-Set.set c.args.self.start c.args.self.length c.args.low c.next_weekday_of.result c.next_weekday_of.ensures)

pub returns-in-Last : goal.returns-in-Last
returns-in-Last c =
    rw c.in-Last.is (first_is_last c.args.self.start c.args.self.length c.args.low c.in-Last.day c.next_weekday.result (rw c.max.ensures at c.next_weekday.ensures))

pub returns-in-Nth : goal.returns-in-Nth
returns-in-Nth c =
    rw c.in-Nth.is (first_is_nth c.args.self.start c.args.self.length c.args.low c.in-Nth.day c.in-Nth.nth c.next_weekday-in-Nth.result c.requires.0
    (rw (c.max-in-Nth.ensures, c.saturating_sub.ensures, c.min.ensures, c.from-end.ensures) at c.next_weekday-in-Nth.ensures))
