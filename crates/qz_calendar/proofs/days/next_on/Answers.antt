use Rattle.std.proofs.Common.{arith}
use Rattle.qz_calendar.proofs.DayTimes.{day-range, first-annual, first-holiday, first-weekly, first-monthly, first-daily, first-cron}
use Rattle.qz_calendar.proofs.days.next_on.Goals as goal

pub overflow_sub-from : goal.overflow_sub-from
overflow_sub-from c = let day = rw (← c.date_of-date.ensures.value) at (day-range c.args.day) in omega (arith, day.0)

pub has_bit-requires-in-Monthly : goal.has_bit-requires-in-Monthly
has_bit-requires-in-Monthly c = let day = rw (← c.date_of-date.ensures.value) at (day-range c.args.day) in omega (arith, day.1)

pub returns-in-Annual-clause-first : goal.returns-in-Annual-clause-first
returns-in-Annual-clause-first c =
    rw c.in-Annual.is (first-annual c.in-Annual.days c.args.day c.args.low c.from_unless.result (rw (c.has_day.ensures, c.date_of.ensures.value) at c.from_unless.ensures.first))

pub returns-in-Holiday-clause-first : goal.returns-in-Holiday-clause-first
returns-in-Holiday-clause-first c =
    rw c.in-Holiday.is (first-holiday c.in-Holiday.dates c.args.day c.args.low c.from_unless-in-Holiday.result (rw (c.has_date.ensures, c.date_of-in-Holiday.ensures.value) at c.from_unless-in-Holiday.ensures.first))

pub returns-in-Weekly-clause-first : goal.returns-in-Weekly-clause-first
returns-in-Weekly-clause-first c =
    rw c.in-Weekly.is (first-weekly c.in-Weekly.days c.args.day c.args.low c.from_unless-in-Weekly.result (rw (c.has_bit.ensures, c.from.ensures, c.from-weekday.ensures, c.weekday_of.ensures) at c.from_unless-in-Weekly.ensures.first))

pub returns-in-Monthly-clause-first : goal.returns-in-Monthly-clause-first
returns-in-Monthly-clause-first c =
    rw c.in-Monthly.is (first-monthly c.in-Monthly.days c.args.day c.args.low c.from_unless-in-Monthly.result (rw (c.has_bit-in-Monthly.ensures, c.from-in-Monthly.ensures, c.from-in-Monthly-2.ensures, c.date_of-date.ensures.value) at c.from_unless-in-Monthly.ensures.first))

pub returns-in-Daily-clause-first : goal.returns-in-Daily-clause-first
returns-in-Daily-clause-first c =
    rw c.in-Daily.is (first-daily c.in-Daily.from c.in-Daily.to c.in-Daily.inverted c.args.day c.args.low c.next_in_daily.result c.next_in_daily.ensures.first)

pub returns-in-Cron-clause-first : goal.returns-in-Cron-clause-first
returns-in-Cron-clause-first c =
    rw c.in-Cron.is (first-cron c.in-Cron.fields c.args.day c.args.low c.next_in_cron.result c.next_in_cron.ensures.first)
