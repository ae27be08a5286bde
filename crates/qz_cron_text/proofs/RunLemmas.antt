-- What no fault says of a run.
use Rattle.std.proofs.Common.{◌≡◌, ◌≤◌, arith}
use Rattle.std.specs.Prelude.{None, IsTrue}
use Rattle.qz_civil.specs.declared.fields.Field.{Field}
use Rattle.qz_cron_text.specs.declared.runs.Run.{Run}
use Rattle.qz_civil.specs.Fields.{is_value}
use Rattle.qz_cron_text.specs.Runs.{run_fault}

pub first_is_value : (field : Field) (run : Run) → run_fault field run ≡ None → IsTrue (is_value field run.first)
unfolding run_fault
first_is_value field run right = grind arith

pub last_is_value : (field : Field) (run : Run) → run_fault field run ≡ None → IsTrue (is_value field run.last)
unfolding run_fault
last_is_value field run right = grind arith

pub step_is_some : (field : Field) (run : Run) → run_fault field run ≡ None → 1 ≤ run.step
unfolding run_fault
step_is_some field run right = grind arith

pub ruleset run_is_right = (first_is_value, last_is_value, step_is_some)
