-- Bounds on the fields' values.
use Rattle.std.proofs.Common.{◌+◌, ◌≤◌, arith}
use Rattle.qz_civil.specs.declared.fields.Field.{Field}
use Rattle.qz_civil.specs.declared.fields.Field.TheVariants.{Seconds, Minutes, Hours, DayOfMonth, Month, DayOfWeek, Year}
use Rattle.qz_civil.specs.declared.limits.TheConstants.{LAST_YEAR}
use Rattle.qz_civil.specs.Fields.{least, size}

pub values_most : (field : Field) → least field + size field ≤ LAST_YEAR + 1
unfolding least size
values_most Seconds = omega arith
values_most Minutes = omega arith
values_most Hours = omega arith
values_most DayOfMonth = omega arith
values_most Month = omega arith
values_most DayOfWeek = omega arith
values_most Year = omega arith

pub size_most : (field : Field) → size field ≤ 256
unfolding size
size_most Seconds = omega arith
size_most Minutes = omega arith
size_most Hours = omega arith
size_most DayOfMonth = omega arith
size_most Month = omega arith
size_most DayOfWeek = omega arith
size_most Year = omega arith

pub size_some : (field : Field) → 1 ≤ size field
unfolding size
size_some Seconds = omega arith
size_some Minutes = omega arith
size_some Hours = omega arith
size_some DayOfMonth = omega arith
size_some Month = omega arith
size_some DayOfWeek = omega arith
size_some Year = omega arith

pub ruleset field_bounds = (values_most, size_most, size_some)
