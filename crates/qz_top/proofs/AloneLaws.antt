-- The law on open executions, over the steps of a script.
use Rattle.std.proofs.Common.{ℕ, ℤ, List, [], refl, arith}
use Rattle.std.specs.Prelude.{Bool, true, ⊤}
use Rattle.qz_io.specs.Outside.{Outside}
use Rattle.qz_steps.specs.declared.steps.StepReply.{StepReply}
use Rattle.qz_model.proofs.Kept.{valid-empty}
use Rattle.qz_trigger_store.specs.Opening.{IsSound}
use Rattle.qz_cluster.specs.Steps.{ClusterState}
use Rattle.qz_open.specs.Opened.{AreAlwaysAlone}
use Rattle.qz_open.specs.Runs.{IsStart, AlwaysSparesOthers}
use Rattle.qz_open.proofs.Runs.{always_alone, always_spares}
use Rattle.qz_top.specs.Calls.{begun}
use Rattle.qz_top.specs.Lines.{steps_of}
use Rattle.qz_top.specs.Runs.{IsRun}
use Rattle.qz_top.specs.Trails.{RunState, new_cluster}
use Rattle.qz_top.specs.declared.statuses.Status.{Status}

-- A run on stores that were just opened, whether or not the disks are the call's own.
module _ (honest : Type 0) (s : Status) (is_own : Bool) (S : ClusterState) (after : RunState) (old new : Outside) (lines : List (List ℕ)) (readings : List ℤ) (replies : List StepReply)
    (start : IsStart S) (run : IsRun honest s (begun is_own S) after old new lines readings replies) where
  pub alone_from_start : AreAlwaysAlone [] (steps_of lines readings) replies
  alone_from_start = always_alone honest S (steps_of lines readings) replies run.steps.states start run.steps.done

  pub spares_from_start : AlwaysSparesOthers S [] (steps_of lines readings) replies run.steps.states
  spares_from_start = always_spares honest S (steps_of lines readings) replies run.steps.states start run.steps.done

-- New stores are like stores that were just opened.
new_sound : (m n : ℕ) → IsSound (new_cluster m n).triggers
new_sound m n = record {
  version = 2;
  begins = λ _. record { known = refl; count = refl; base = refl };
  base = ∣ valid-empty 2 ∣₁;
  legal = tt;
  state = ∣ valid-empty 2 ∣₁;
  counted = λ _. omega arith;
}

pub new_start : (m n : ℕ) → IsStart (new_cluster m n)
new_start m n = record {
  opened = record { is_open = refl; settled = refl; sound = new_sound m n; valid = tt };
  held = refl;
}

-- A run on new stores.
module _ (m n : ℕ) (s : Status) (after : RunState) (old new : Outside) (lines : List (List ℕ)) (readings : List ℤ) (replies : List StepReply) (run : IsRun ⊤ s (begun true (new_cluster m n)) after old new lines readings replies) where
  pub alone_new : AreAlwaysAlone [] (steps_of lines readings) replies
  alone_new = alone_from_start ⊤ s true (new_cluster m n) after old new lines readings replies (new_start m n) run

  pub spares_new : AlwaysSparesOthers (new_cluster m n) [] (steps_of lines readings) replies run.steps.states
  spares_new = spares_from_start ⊤ s true (new_cluster m n) after old new lines readings replies (new_start m n) run
