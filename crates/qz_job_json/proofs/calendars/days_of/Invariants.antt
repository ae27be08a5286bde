use Rattle.std.proofs.Common.{◌≡◌, ◌≤◌, None, true, drop, length}
use Rattle.std.specs.Prelude.{[], option_map}
use Rattle.serde_json.specs.View.{items_view}
use Rattle.qz_civil.specs.Calendars.{are_above}
use Rattle.qz_job_json.specs.Calendars.{is_valid, number_of, with_all}
use Rattle.qz_job_json.specs.Clocks.{listed}
use Rattle.qz_job_json.proofs.calendars.days_of.Given as goal

-- the days so far, with those of the rest
abbrev pub invariant-loop-item : goal.invariant-loop-item
invariant-loop-item g l = record {
  value : option_map (with_all l.days.items) (listed (number_of l.form) (items_view (drop l.item-index l.items))) ≡ option_map (with_all []) (listed (number_of l.form) (items_view l.items));
  within : length l.days.items ≤ g.row.N;
  above : are_above (is_valid l.form) None l.days.items ≡ true;
}
