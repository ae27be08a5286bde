-- What the commands on zones and calendars count.
use Rattle.std.proofs.Common.{◌≡◌, ℕ, ◌+◌, ◌≤◌, Bool, true, false, List, take, count_by, Some, None, is_some, ap, ◌∙◌, arith}
use Rattle.std.specs.List.{slice_get}
use Rattle.std.proofs.Math.Logic.{∥∥₁_elim}
use Rattle.std.proofs.Props.{props}
use Rattle.std.proofs.lemmas.Bool.{or_parts}
use Rattle.std.proofs.lemmas.List.Sums.{count_by-le-length, count_by_more_yes, count_by_more_no}
use Rattle.std.proofs.lemmas.Option.{slice_get_within}
use Rattle.qz_types.specs.Rows.{TriggerData, CalendarData, ZoneData}
use Rattle.qz_types.specs.Tables.{SchedulerTables}
use Rattle.qz_types.specs.Words.{zone_of}
use Rattle.qz_model.specs.Invariant.{TablesValid}
use Rattle.qz_model.specs.Plan.{is_utc, is_known_zone}
use Rattle.qz_model.proofs.RowLaws.{no_row}
use Rattle.qz_apply.proofs.Searches.{at_place}

-- a zone that isn't known isn't stored
pub new_zone : (zones : List ZoneData) (name : List ℕ) → is_known_zone zones name ≡ false → zone_of name zones ≡ None
unfolding is_known_zone
new_zone zones name unknown = no_row (zone_of name zones) (or_parts (is_utc name) (is_some (zone_of name zones)) unknown).1

-- rows that pass, place by place
pub one_more : {R : Type 0} (p : R → Bool) (rows : List R) (place : ℕ) (row : R) → slice_get rows place ≡ Some row → p row ≡ true → count_by p (take (place + 1) rows) ≡ count_by p (take place rows) + 1
one_more p rows place row is passes = count_by_more_yes p rows place row (slice_get_within rows place row is) (ap p (at_place rows place row is) ∙ passes)

pub no_more : {R : Type 0} (p : R → Bool) (rows : List R) (place : ℕ) (row : R) → slice_get rows place ≡ Some row → p row ≡ false → count_by p (take (place + 1) rows) ≡ count_by p (take place rows)
no_more p rows place row is fails = count_by_more_no p rows place row (slice_get_within rows place row is) (ap p (at_place rows place row is) ∙ fails)

-- the rows that are counted are few
pub few_uses : (T : SchedulerTables) (p : TriggerData → Bool) (q : CalendarData → Bool) → ∥ TablesValid T ∥₁ → count_by p T.triggers + count_by q T.calendars ≤ 1052672
few_uses T p q valid = ∥∥₁_elim valid (hlevel props) (λ is.
    omega (arith, count_by-le-length p T.triggers, count_by-le-length q T.calendars, is.references_and_limits.limits.triggers, is.references_and_limits.limits.calendars))
