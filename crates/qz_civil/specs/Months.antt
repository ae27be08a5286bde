-- Months of the calendar, counted from January of the year 0 on.
use Rattle.std.specs.Prelude.{ℕ, ◌+◌, ◌-◌, ◌*◌, ◌/◌, ◌%◌, min}
use Rattle.qz_civil.specs.declared.dates.Date.{Date}
use Rattle.qz_civil.specs.Dates.{days_in_month}

-- the months before the date's
abbrev pub month_number : Date → ℕ
month_number d = d.year * 12 + d.month - 1

-- that day of that month, or the month's last day where it has fewer
abbrev pub day_in_month : ℕ → ℕ → Date
day_in_month month day = record {
  year = month / 12;
  month = month % 12 + 1;
  day = min day (days_in_month (month / 12) (month % 12 + 1));
}
