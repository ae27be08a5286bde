-- What holds of the rows at each moment, and what one command changes in them.
use Rattle.std.specs.Prelude.{⊤, ◌≡◌, ℕ, ℤ, ◌≤◌, List, length, Option, Some, None, MatchOption}
use Rattle.std.specs.List.{AllByRecursion}
use Rattle.qz_civil.specs.declared.limits.TheConstants.{LAST}
use Rattle.qz_types.specs.Rows.{StateData}
use Rattle.qz_types.specs.Entries.{StateEntryData}
use Rattle.qz_types.specs.Sorted.{IsAscending}
use Rattle.qz_types.specs.Tables.{IsMoment}
use Rattle.qz_types.specs.Words.{text_cmp}
use Rattle.qz_types.specs.declared.limits.TheConstants.{STATE_LIMIT}
use Rattle.qz_types.specs.declared.replies.Refusal.{Refusal}
use Rattle.qz_types.specs.declared.states.StateCommand.{StateCommand}
use Rattle.qz_types.specs.declared.states.StateCommand.TheVariants.{CheckIn, Forget}
use Rattle.qz_checkin.specs.Rows.{StateTables, without_state, with_state, IsAccepted, state_transaction, refused}

-- the last check-in is a moment that a store has
abbrev pub HasMoment : StateData → Type 0
HasMoment row = IsMoment LAST row.last

-- The rows are in the order of the nodes' names, which differ; there are no more of them than there may be; and each
-- moment is one that a store has.
pub record StatesValid (T : StateTables) : Type 0 where
  pub order : IsAscending text_cmp (λ r. r.node) T.rows
  pub few : length T.rows ≤ STATE_LIMIT
  pub rows : AllByRecursion HasMoment T.rows
  pub last_moment : IsMoment LAST T.last_moment

-- the node that a command names
abbrev pub node_of : StateCommand → List ℕ
node_of (CheckIn node interval) = node
node_of (Forget node last) = node

-- the row that a command puts in at this moment
abbrev pub row_by : ℤ → StateCommand → Option StateData
row_by m (CheckIn node interval) = Some (record { node = node; last = m; interval = interval })
row_by m (Forget node last) = None

-- the rows without that of a node, and with this one, if there is one
abbrev pub edited : List ℕ → Option StateData → List StateData → List StateData
edited node None rows = without_state node rows
edited node (Some row) rows = with_state row rows

-- why an entry is refused, if it is
abbrev pub IsRefusalOf : StateTables → StateEntryData → Option Refusal → Type 0
IsRefusalOf T e answer = MatchOption answer (IsAccepted (state_transaction T e)) (λ x. state_transaction T e ≡ refused x)

-- the row, if there is one, is this node's
abbrev pub IsOfNode : List ℕ → Option StateData → Type 0
IsOfNode node None = ⊤
IsOfNode node (Some row) = row.node ≡ node
