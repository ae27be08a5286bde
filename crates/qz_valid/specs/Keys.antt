-- Sets of keys, and the fired rows that are counted for a key.
use Rattle.std.specs.Prelude.{◌≤◌, Bool, List}
use Rattle.std.specs.List.{list_any, count_by}
use Rattle.qz_types.specs.Rows.{FiredData}
use Rattle.qz_types.specs.States.{is_acquired_for}
use Rattle.qz_types.specs.Words.{same_key}
use Rattle.qz_types.specs.declared.keys.Key.{Key}
use Rattle.qz_model.specs.Executions.{is_exclusive_of}
use Rattle.qz_valid.specs.declared.keys.Counted.{Counted}
use Rattle.qz_valid.specs.declared.keys.Counted.TheVariants.{Acquired, Exclusive}

-- the key is one of these
unfoldable pub has : Key → List Key → Bool
has key keys = list_any (same_key key) keys

-- the row is counted for this key
unfoldable pub counts : Counted → Key → FiredData → Bool
counts Acquired key f = is_acquired_for key f
counts Exclusive key f = is_exclusive_of key f

-- two rows are counted for one key
abbrev pub IsTwice : Counted → List FiredData → Type 0
IsTwice of rows = (key : Key) × (2 ≤ count_by (counts of key) rows)
