-- What is drawn for a job and its trigger.
use Rattle.std.specs.Prelude.{ℕ, ◌+◌, ◌==◌, Bool, nat_le, nat_lt, ◌&&◌, if◌then◌else◌}
use Rattle.qz_generator.specs.declared.choices.Choice.{Choice}
use Rattle.qz_generator.specs.declared.choices.Schedule.{Schedule}
use Rattle.qz_generator.specs.declared.choices.Schedule.TheVariants.{Simple, Cron, Interval, Daily}
use Rattle.qz_generator.specs.Draws.{after, drawn}

-- the schedule of this kind, drawn from this state on
abbrev pub schedule_by : ℕ → ℕ → Schedule
schedule_by kind x =
    if kind == 0 then Simple (1 + drawn 1440 x)
    else if kind == 1 then Cron (drawn 60 x) (drawn 24 (after 1 x))
    else if kind == 2 then Interval (1 + drawn 24 x)
    else Daily (1 + drawn 720 x)

-- how many draws that takes
abbrev pub draws_by : ℕ → ℕ
draws_by kind = if kind == 1 then 2 else 1

-- the draws from this state on, in their order
unfoldable pub choice_at : ℕ → Choice
choice_at x = record {
  no_concurrent = drawn 2 x == 1;
  requests_recovery = drawn 2 (after 1 x) == 1;
  priority = 1 + drawn 9 (after 2 x);
  schedule = schedule_by (drawn 4 (after 3 x)) (after 4 x);
}

-- the state after them
unfoldable pub after_choice : ℕ → ℕ
after_choice x = after (draws_by (drawn 4 (after 3 x))) (after 4 x)

-- from 1 to n
abbrev pub is_up_to : ℕ → ℕ → Bool
is_up_to n k = nat_le 1 k && nat_le k n

-- the numbers are within the ranges that are drawn from
abbrev pub is_schedule : Schedule → Bool
is_schedule (Simple minutes) = is_up_to 1440 minutes
is_schedule (Cron minute hour) = nat_lt minute 60 && nat_lt hour 24
is_schedule (Interval hours) = is_up_to 24 hours
is_schedule (Daily minutes) = is_up_to 720 minutes

abbrev pub is_choice : Choice → Bool
is_choice c = is_up_to 9 c.priority && is_schedule c.schedule
