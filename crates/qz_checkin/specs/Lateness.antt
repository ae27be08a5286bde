-- When a node is taken for failed. It may miss one check-in, and 7.5 seconds more; where the node that looks has itself
-- been slow to check in, it grants the other as much.
use Rattle.std.specs.Prelude.{ℕ, ℤ, pos, ◌+ℤ◌, ◌-ℤ◌, List, Bool, int_lt, Option, Some, None, option_map, if◌then◌else◌}
use Rattle.std.specs.Int.{int_max}
use Rattle.std.specs.List.{position, find}
use Rattle.qz_types.specs.Rows.{StateData, EvidenceData}
use Rattle.qz_types.specs.declared.replies.Refusal.{Refusal}
use Rattle.qz_types.specs.declared.replies.Refusal.TheVariants.{UnknownNode, StillFresh}
use Rattle.qz_checkin.specs.Rows.{StateTables, state_of}

-- when the node that looks last checked in; 0 for one that has no row
unfoldable pub last_of : Option StateData → ℤ
last_of None = pos 0
last_of (Some row) = row.last

-- the last moment at which the row isn't late, seen at this moment by a node whose own last check-in is given
unfoldable pub fresh_until : StateData → ℤ → ℤ → ℤ
fresh_until row own_last now = row.last +ℤ int_max row.interval (now -ℤ own_last) +ℤ pos 7500

unfoldable pub is_late : StateData → ℤ → ℤ → Bool
is_late row own_last now = int_lt (fresh_until row own_last now) now

-- why the node of this row isn't taken for failed
unfoldable pub row_refusal : Option StateData → ℤ → ℤ → Option Refusal
row_refusal None own_last now = Some UnknownNode
row_refusal (Some row) own_last now = if is_late row own_last now then None else Some (StillFresh (fresh_until row own_last now))

-- the same for a node by its name, as another one sees it at this moment
abbrev pub fresh_refusal : StateTables → ℤ → List ℕ → List ℕ → Option Refusal
fresh_refusal T now own failed = row_refusal (state_of failed T.rows) (last_of (state_of own T.rows)) now

-- the place of the first row, in the order of names, that is late for this node at this moment
unfoldable pub late_place : StateTables → ℤ → List ℕ → Option ℕ
late_place T now own = position (λ row. is_late row (last_of (state_of own T.rows)) now) T.rows

-- what is told of a row that is late
abbrev pub evidence_of : StateData → ℤ → ℤ → EvidenceData
evidence_of row own_last now = record { node = row.node; last = row.last; until = fresh_until row own_last now }

-- of the first row that is late, if there is one
unfoldable pub failed_by : StateTables → ℤ → List ℕ → Option EvidenceData
failed_by T now own = option_map (λ row. evidence_of row (last_of (state_of own T.rows)) now) (find (λ row. is_late row (last_of (state_of own T.rows)) now) T.rows)
