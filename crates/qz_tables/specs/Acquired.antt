-- The fired row of an acquired trigger.
use Rattle.std.specs.Prelude.{List, filter, Option}
use Rattle.std.specs.List.{slice_get}
use Rattle.qz_types.specs.Rows.{FiredData}
use Rattle.qz_types.specs.States.{is_acquired_for}
use Rattle.qz_types.specs.declared.keys.Key.{Key}

-- the first one
unfoldable pub acquired_row_of : Key → List FiredData → Option FiredData
acquired_row_of trigger rows = slice_get (filter (is_acquired_for trigger) rows) 0
