use Rattle.std.proofs.Common.{Some, None, inl, inr, arith}
use Rattle.qz_cron.proofs.Weeks.{any_day, first_is_day, first_is_before_last, first_is_last_weekday, first_is_nearest, none_is_nearest}
use Rattle.qz_cron.proofs.month.Month.next_by_day.Goals as goal
use Rattle.qz_cron.proofs.month.Month.next_by_day.Goals.{then-day-lt1-via-then-day-lt1, then-day-lt1-via-else-day-lt1+then-self-day}

pub returns-in-Any : goal.returns-in-Any
returns-in-Any c = rw c.in-Any.is (any_day c.args.self.start c.args.self.length c.args.low c.any_from.result c.any_from.ensures)

pub returns-in_ok-bit-in-Set : goal.returns-in_ok-bit-in-Set
returns-in_ok-bit-in-Set c =
    rw c.in-Set.is (first_is_day c.in-Set.set c.args.low c.args.self.length c.args.self.start (Some c.in_ok-bit-in-Set.bit) c.requires.0 (rw c.from.ensures at c.in_ok-bit-in-Set.ensures.first))

pub returns-in_err-bit-in-Set : goal.returns-in_err-bit-in-Set
returns-in_err-bit-in-Set c =
    rw (c.in-Set.is, c.from_residual.ensures) (first_is_day c.in-Set.set c.args.low c.args.self.length c.args.self.start None c.requires.0 (rw (c.from.ensures, c.in_err-bit-in-Set.was) at c.next_bit.ensures.first))

pub returns-in-Last : goal.returns-in-Last
returns-in-Last c =
    rw c.in-Last.is (first_is_before_last c.args.self.start c.args.self.length c.args.low c.in-Last.back c.only_from.result c.requires.0 (rw (c.saturating_sub.ensures, c.from-in-Last.ensures) at c.only_from.ensures))

pub returns-in-LastWeekday : goal.returns-in-LastWeekday
returns-in-LastWeekday c =
    rw c.in-LastWeekday.is (first_is_last_weekday c.args.self.start c.args.self.length c.args.low c.only_from-in-LastWeekday.result c.requires.0 c.args.self.lasts (rw c.nearest_to.ensures at c.only_from-in-LastWeekday.ensures))

pub returns-else-self-day : goal.returns-else-self-day
returns-else-self-day c =
    rw c.in-Nearest.is (first_is_nearest c.args.self.start c.args.self.length c.args.low c.in-Nearest.day c.only_from-in-Nearest.result c.requires.0 c.args.self.lasts
    (omega arith) (rw (c.nearest_to-in-Nearest.ensures, c.from-day.ensures) at c.only_from-in-Nearest.ensures))

pub returns-then-day-lt1 : goal.returns-then-day-lt1
returns-then-day-lt1 c =
    rw c.in-Nearest.is (none_is_nearest c.args.self.start c.args.self.length c.args.low c.in-Nearest.day
    (elim c.then-day-lt1.branch [ then-day-lt1-via-then-day-lt1 w ↦ inl (omega arith) | then-day-lt1-via-else-day-lt1+then-self-day w ↦ inr (omega arith) ]))
