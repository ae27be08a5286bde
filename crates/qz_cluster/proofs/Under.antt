-- What a step came to where the disks tell what they hold, it came to where something else says that they do.
use Rattle.std.proofs.Math.Logic.{∥∥₁_elim}
use Rattle.std.proofs.Props.{props}
use Rattle.qz_steps.specs.declared.steps.StepReply.{StepReply}
use Rattle.qz_steps.specs.declared.steps.StepReply.TheVariants as reply
use Rattle.qz_stores.specs.Kinds.{StoreKind}
use Rattle.qz_stores.specs.Bases.{Opens}
use Rattle.qz_stores.specs.Stores.{StoreState}
use Rattle.qz_trigger_store.specs.Kinds.{trigger_kind}
use Rattle.qz_checkin.specs.Kinds.{state_kind}
use Rattle.qz_cluster.specs.Script.{TimedStep}
use Rattle.qz_cluster.specs.Steps.{ClusterState, StepCase, IsStep, LostStore, EndCase, IsCutShort}
use Rattle.qz_cluster.specs.declared.errors.StepEnd.{StepEnd}
use Rattle.qz_cluster.specs.declared.errors.StepEnd.TheVariants as ends

pub never : IsProp ⊥
never = hlevel props

pub opens_under : {H S E R : Type 0} (k : StoreKind H S E R) (P Q : Type 0) (s t : StoreState H E) → (P → ∥ Q ∥₁) → Opens k Q s t → Opens k P s t
opens_under k P Q s t tells opens = record {
  is_open = opens.is_open;
  undecided = opens.undecided;
  decided = λ p. ∥∥₁_elim (tells p) squash₁ opens.decided;
  later = opens.later;
}

module _ (P Q : Type 0) (tells : P → ∥ Q ∥₁) (t : TimedStep) (S S' : ClusterState) where
  lost_under : LostStore Q t S S' → LostStore P t S S'
  lost_under lost = record { asked = lost.asked; shut = lost.shut; dishonest = λ p. ∥∥₁_elim (tells p) never lost.dishonest }

  pub case_under : (r : StepReply) → StepCase Q t r S S' → StepCase P t r S S'
  case_under (reply.Ok r) case = case
  case_under (reply.Refused refusal) case = case
  case_under reply.Fault case = case
  case_under reply.Closed case = case
  case_under reply.Stopped case = case
  case_under reply.Restarted case = record {
    asked = case.asked;
    triggers = opens_under trigger_kind P Q S.triggers S'.triggers tells case.triggers;
    states = opens_under state_kind P Q S.states S'.states tells case.states;
    are_triggers = case.are_triggers;
    are_states = case.are_states;
    held = case.held;
  }
  case_under (reply.Shown s) case = case
  case_under (reply.Marked m) case = case
  case_under (reply.Room room) case = case

  pub step_under : (r : StepReply) → IsStep Q t r S S' → IsStep P t r S S'
  step_under r step = record { valid = step.valid; case = case_under r step.case; standing = step.standing }

  pub end_under : (e : StepEnd) → EndCase Q t e S S' → EndCase P t e S S'
  end_under (ends.JournalFull need room) case = case
  end_under (ends.NotAStore store) case = lost_under case
  end_under (ends.Damaged store at) case = lost_under case
  end_under ends.NoMemory case = case

  pub cut_under : (e : StepEnd) → IsCutShort Q t e S S' → IsCutShort P t e S S'
  cut_under e cut = record { valid = cut.valid; case = end_under e cut.case }
