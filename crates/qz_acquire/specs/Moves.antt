-- The moves of misfired triggers, one after the other.
use Rattle.std.specs.Prelude.{⊤, ℤ, pos, ◌≤ℤ◌, ◌<ℤ◌, List, [], ◌∷◌, IfSome, IsTrue}
use Rattle.qz_types.specs.Changes.{moved_trigger}
use Rattle.qz_types.specs.Rows.{TriggerData, is_trigger}
use Rattle.qz_types.specs.Tables.{SchedulerTables}
use Rattle.qz_types.specs.Words.{trigger_of, with_trigger}
use Rattle.qz_model.specs.Acquiring.{next_time}
use Rattle.qz_model.specs.Misfires.{move_of}
use Rattle.qz_acquire.specs.declared.changes.Move.{Move}

-- the triggers, one moved
abbrev pub with_move : List TriggerData → Move → List TriggerData
with_move triggers move = with_trigger move.key (moved_trigger move.moved) triggers

-- each move, done in its turn, makes a valid row
abbrev pub AreMovable : List TriggerData → List Move → Type 0
AreMovable triggers [] = ⊤
AreMovable triggers (move ∷ moves) =
    IfSome (trigger_of move.key triggers) (λ t. IsTrue (is_trigger (moved_trigger move.moved t))) × AreMovable (with_move triggers move) moves

-- its next time has passed
pub record IsMissed (m : ℤ) (t : TriggerData) : Type 0 where
  pub low : pos 0 ≤ℤ next_time t
  pub before : next_time t <ℤ m

-- what a misfire makes of the trigger
abbrev pub move_for : SchedulerTables → ℤ → TriggerData → Move
move_for T m t = record { key = t.spec.key; moved = move_of T m t }

-- and that makes a valid row of it
abbrev pub IsMovable : SchedulerTables → ℤ → TriggerData → Type 0
IsMovable T m t = IsTrue (is_trigger (moved_trigger (move_of T m t) t))
