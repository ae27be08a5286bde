-- Changes of rows in place.
use Rattle.std.specs.Prelude.{⊤, ℕ, zero, suc, List, [], ◌∷◌, IsTrue}
use Rattle.qz_civil.specs.Fields.{is_year_set}
use Rattle.qz_types.specs.Changes.{with_state, after_fire, moved_trigger}
use Rattle.qz_types.specs.Rows.{TriggerData, is_trigger}
use Rattle.qz_types.specs.States.{paused, resumed, blocked, unblocked}
use Rattle.qz_types.specs.declared.triggers.TriggerState.{TriggerState}
use Rattle.qz_tables.specs.declared.edits.StateChange.{StateChange}
use Rattle.qz_tables.specs.declared.edits.StateChange.TheVariants as state
use Rattle.qz_tables.specs.declared.edits.TriggerEdit.{TriggerEdit}
use Rattle.qz_tables.specs.declared.edits.TriggerEdit.TheVariants.{State, Fire, Move, Years}
use Rattle.qz_tables.specs.Years.{trigger_with_years}

-- what the change makes of a trigger's state
abbrev pub changed : StateChange → TriggerState → TriggerState
changed state.Pause s = paused s
changed state.Resume s = resumed s
changed state.Block s = blocked s
changed state.Unblock s = unblocked s
changed (state.Set now) s = now

abbrev pub trigger_edited : TriggerEdit → TriggerData → TriggerData
trigger_edited (State change) t = with_state (changed change) t
trigger_edited (Fire next state) t = after_fire next state t
trigger_edited (Move moved) t = moved_trigger moved t
trigger_edited (Years change) t = trigger_with_years change t

-- the edit makes a valid row of this one
abbrev pub IsFit : TriggerEdit → TriggerData → Type 0
IsFit (State change) t = ⊤
IsFit (Fire next state) t = ⊤
IsFit (Move moved) t = IsTrue (is_trigger (moved_trigger moved t))
IsFit (Years change) t = IsTrue (is_year_set change.new)

module _ {R : Type 0} (change : R → R) where
  -- the rows, where that at a place is changed
  abbrev pub changed_nth : ℕ → List R → List R
  changed_nth place [] = []
  changed_nth zero (row ∷ rows) = change row ∷ rows
  changed_nth (suc place) (row ∷ rows) = row ∷ changed_nth place rows

  -- the rows, where so many at the start are changed
  abbrev pub changed_first : ℕ → List R → List R
  changed_first zero rows = rows
  changed_first (suc count) [] = []
  changed_first (suc count) (row ∷ rows) = change row ∷ changed_first count rows
