use Rattle.std.proofs.Common.{◌≡◌, ℕ, ◌+◌, ◌*◌, ◌/◌, ◌%◌, ◌<◌, ◌≤◌, true, false}
use Rattle.qz_calendar.specs.Search.{any_meets, are_free_at}
use Rattle.qz_calendar.proofs.skips.gather.Given as goal

abbrev pub invariant-loop-calendar : goal.invariant-loop-calendar
invariant-loop-calendar l = record {
  end : l.from < l.end;
  within : l.end ≤ 7258118400000;
  day : l.end + l.shift ≤ ((l.from + l.shift) / 86400000 + 1) * 86400000;
  met : (t : ℕ) → l.from ≤ t → t < l.end → any_meets l.fields.items ((t + l.shift) % 86400000 / 1000) ≡ true → are_free_at l.calendars t ≡ false;
}
