-- The rows of the state store, one for each node that checks in, and what one transaction makes of them. Times are in ms
-- since 1970-01-01T00:00:00Z.
use Rattle.std.specs.Prelude.{⊤, ℕ, ℤ, pos, List, [], length, filter, not, nat_le, Option, Some, None, if◌then◌else◌}
use Rattle.std.specs.Int.{int_max, int_min}
use Rattle.std.specs.Ordering.{int_eq}
use Rattle.qz_civil.specs.declared.limits.TheConstants.{LAST}
use Rattle.qz_types.specs.Rows.{StateData}
use Rattle.qz_types.specs.Entries.{StateEntryData}
use Rattle.qz_types.specs.Sorted.{row_of, put}
use Rattle.qz_types.specs.Words.{text_cmp, same_text}
use Rattle.qz_types.specs.declared.limits.TheConstants.{STATE_LIMIT}
use Rattle.qz_types.specs.declared.replies.Refusal.{Refusal}
use Rattle.qz_types.specs.declared.replies.Refusal.TheVariants.{UnknownNode, RowsFull, Renewed}
use Rattle.qz_types.specs.declared.states.StateCommand.{StateCommand}
use Rattle.qz_types.specs.declared.states.StateCommand.TheVariants.{CheckIn, Forget}

-- the rows, in the order of the nodes' names, and the recorded moment of the last transaction
pub record StateTables : Type 0 where
  pub rows : List StateData
  pub last_moment : ℤ

abbrev pub new_state_tables : StateTables
new_state_tables = record { rows = []; last_moment = pos 0 }

-- the row of this node
unfoldable pub state_of : List ℕ → List StateData → Option StateData
state_of node rows = row_of text_cmp (λ r. r.node) node rows

unfoldable pub without_state : List ℕ → List StateData → List StateData
without_state node rows = filter (λ r. not (same_text node r.node)) rows

-- the rows with this one, in place of one of the same node
unfoldable pub with_state : StateData → List StateData → List StateData
with_state row rows = put text_cmp (λ r. r.node) row (without_state row.node rows)

-- The moment at which a transaction with this reading of the clock is recorded: recorded moments never fall, and lie
-- from 0 to the last one that a store has.
unfoldable pub state_moment : StateTables → ℤ → ℤ
state_moment T at = int_max T.last_moment (int_min (int_max at (pos 0)) LAST)

-- What a transaction comes to: new rows, or a refusal, which changes nothing.
pub data StateOutcome : Type 0 where
  accepted : StateTables → StateOutcome
  refused : Refusal → StateOutcome

abbrev pub IsAccepted : StateOutcome → Type 0
IsAccepted (accepted next) = ⊤
IsAccepted (refused refusal) = ⊥

abbrev pub unless : Option Refusal → StateOutcome → StateOutcome
unless None outcome = outcome
unless (Some refusal) outcome = refused refusal

-- a node that has no row needs one more
unfoldable pub check_in_refusal : StateTables → Option StateData → Option Refusal
check_in_refusal T (Some row) = None
check_in_refusal T None = if nat_le STATE_LIMIT (length T.rows) then Some RowsFull else None

-- the node lives, and will check in again after this interval
abbrev pub check_in : StateTables → ℤ → List ℕ → ℤ → StateOutcome
check_in T m node interval = unless (check_in_refusal T (state_of node T.rows))
    (accepted (record { rows = with_state (record { node = node; last = m; interval = interval }) T.rows; last_moment = m }))

-- the row is there, and the node hasn't checked in since
unfoldable pub forget_refusal : Option StateData → ℤ → Option Refusal
forget_refusal None last = Some UnknownNode
forget_refusal (Some row) last = if int_eq row.last last then None else Some (Renewed row.last)

-- the row of a node that is gone is removed
abbrev pub forget : StateTables → ℤ → List ℕ → ℤ → StateOutcome
forget T m node last = unless (forget_refusal (state_of node T.rows) last)
    (accepted (record { rows = without_state node T.rows; last_moment = m }))

abbrev pub by_command : StateTables → ℤ → StateCommand → StateOutcome
by_command T m (CheckIn node interval) = check_in T m node interval
by_command T m (Forget node last) = forget T m node last

-- what the entry comes to at these rows
abbrev pub state_transaction : StateTables → StateEntryData → StateOutcome
state_transaction T e = by_command T (state_moment T e.at) e.command
