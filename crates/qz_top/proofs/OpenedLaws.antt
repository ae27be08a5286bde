-- What a whole run tells: how it may end on disks, and in memory.
use Rattle.std.proofs.Common.{◌≡◌, ◌⊎◌, inl, inr, ◌≤◌, ℕ, ℤ, List, [], ◌∷◌, ◌++◌, length, take, true, false, Option, refl, sym, ap, ◌∙◌, subst, arith}
use Rattle.std.specs.Prelude.{⊤}
use Rattle.std.specs.List.{AllByRecursion}
use Rattle.qz_civil.specs.Causes.{Rose}
use Rattle.qz_io.specs.Outside.{Outside}
use Rattle.qz_steps.specs.declared.steps.StepReply.{StepReply}
use Rattle.qz_trigger_store.specs.Opening.{IsOpened}
use Rattle.qz_checkin.specs.Opening.{IsOpened as AreOpened}
use Rattle.qz_cluster.specs.Script.{TimedStep, new_script, plain_replies, step_replies}
use Rattle.qz_cluster.specs.Steps.{ClusterState, is_closed}
use Rattle.qz_cluster.specs.declared.errors.StepEnd.{StepEnd}
use Rattle.qz_cluster.proofs.Closings.{IsReady, ready_open}
use Rattle.qz_cluster.proofs.Counts.{NoneFalls}
use Rattle.qz_cluster.proofs.Sound.{cut_sound}
use Rattle.qz_open.specs.Runs.{StepsDone}
use Rattle.qz_top.specs.Lines.{steps_of}
use Rattle.qz_top.specs.Calls.{begun, script_of, HasSoundStores, IsOnTold}
use Rattle.qz_top.specs.LineOutcomes.{step_at}
use Rattle.qz_top.specs.Resting.{MayBreak}
use Rattle.qz_top.specs.Runs.{TellsClosed, EndsShort, EndsRun, IsRun}
use Rattle.qz_top.specs.Trails.{IsNoFault, RunState, RanSteps, new_cluster}
use Rattle.qz_top.specs.declared.statuses.Status.{Status}
use Rattle.qz_top.specs.declared.statuses.Status.TheVariants as status
use Rattle.qz_top.proofs.RestLaws.{rests_may, rested_trail, rested_counts, rested_closed, rested_sound, own_rested}
use Rattle.qz_top.proofs.RunLaws.{OneRose, rose_then, then_rose, run_counts, run_closes, run_ready, run_plain, run_plain_first, run_sound, last_sound}

-- stores that were just opened are open, and nothing is undecided
pub opened_ready : (S : ClusterState) → IsOpened S.triggers → AreOpened S.states → IsReady S
opened_ready S triggers states =
    record { triggers_open = triggers.is_open; states_open = states.is_open; triggers_settled = triggers.settled; states_settled = states.settled }

new_ready : (m n : ℕ) → IsReady (new_cluster m n)
new_ready m n = record { triggers_open = refl; states_open = refl; triggers_settled = refl; states_settled = refl }

rose_from : (a b c : ℕ) → a ≤ b → Rose b c → Rose a c
rose_from a b c earlier rose = omega (arith, earlier, rose)

pub rose_from_first : (m n : ℕ) (S S' : ClusterState) → m ≤ S.triggers.faults → n ≤ S.states.faults → OneRose S S' → Rose m S'.triggers.faults ⊎ Rose n S'.states.faults
rose_from_first m n S S' earlier states_earlier (inl rose) = inl (rose_from m S.triggers.faults S'.triggers.faults earlier rose)
rose_from_first m n S S' earlier states_earlier (inr rose) = inr (rose_from n S.states.faults S'.states.faults states_earlier rose)

-- A run on disks of its own has a plain scheduler's replies.
all_honest : (ts : List TimedStep) → AllByRecursion (IsOnTold ⊤) ts
all_honest [] = tt
all_honest (t ∷ ts) = (λ is. tt, all_honest ts)

pub plain_of : (m n : ℕ) (s : Status) (after : RunState) (old new : Outside) (lines : List (List ℕ)) (readings : List ℤ) (replies : List StepReply)
    → IsRun ⊤ s (begun true (new_cluster m n)) after old new lines readings replies
    → plain_replies (steps_of lines readings) replies ≡ step_replies (new_script 2) (steps_of lines readings)
plain_of m n s after old new lines readings replies run =
    run_plain ⊤ (new_cluster m n) (steps_of lines readings) replies run.steps.states run.steps.done (new_ready m n) (all_honest (steps_of lines readings)) (run.steps.no_fault refl)

-- And it doesn't end with DiskFault.
pub no_disk_fault : (m n : ℕ) (s : Status) (after : RunState) (old new : Outside) (lines : List (List ℕ)) (readings : List ℤ) (replies : List StepReply)
    → IsRun ⊤ s (begun true (new_cluster m n)) after old new lines readings replies → s ≡ status.DiskFault → ⊥
no_disk_fault m n s after old new lines readings replies run is =
    let steps = run.steps in
    let same : after ≡ run.last = own_rested run.last after steps.own (subst (λ (x : Status). EndsRun ⊤ x old.left lines run.clocked.more run.last after) is run.end) in
    let closed = ap (λ (r : RunState). is_closed r.cluster) (sym same) ∙ subst (λ s. TellsClosed s after.cluster) is run.closed in
    let still = ready_open _ (run_ready ⊤ (new_cluster m n) (steps_of lines readings) replies steps.states steps.done (new_ready m n) (steps.no_fault refl)) in
    let bad : false ≡ true = sym still ∙ ap is_closed (sym steps.last) ∙ closed in
    absurd cc

-- What the end of a run leaves is sound, where the last state is.

short_sound : (honest : Type 0) (e : StepEnd) (left : Option (List ℕ)) (lines : List (List ℕ)) (more : List ℤ) (last after : RunState) → EndsShort honest e left lines more last after
    → HasSoundStores last.cluster → HasSoundStores after.cluster
short_sound honest e left lines more last after short sound = cut_sound honest (step_at short.given short.at) e last.cluster after.cluster short.cut.cut sound

same_run_sound : (last after : RunState) → after ≡ last → HasSoundStores last.cluster → HasSoundStores after.cluster
same_run_sound last after same sound = subst (λ (r : RunState). HasSoundStores r.cluster) (sym same) sound

end_sound : (honest : Type 0) (s : Status) (left : Option (List ℕ)) (lines : List (List ℕ)) (more : List ℤ) (last after : RunState) → EndsRun honest s left lines more last after
    → last.is_own ≡ false → HasSoundStores last.cluster → HasSoundStores after.cluster
end_sound honest (status.NotAStore store) left lines more last after end not_own sound = short_sound honest _ left lines more last after end sound
end_sound honest (status.Damaged store at) left lines more last after end not_own sound = short_sound honest _ left lines more last after end sound
end_sound honest (status.JournalFull need room) left lines more last after end not_own sound = short_sound honest _ left lines more last after end sound
end_sound honest status.NoMemory left lines more last after (inl nothing) not_own sound = subst HasSoundStores (sym (nothing.stays not_own)) sound
end_sound honest status.NoMemory left lines more last after (inr short) not_own sound = short_sound honest _ left lines more last after short sound
end_sound honest status.Ok left lines more last after end not_own sound = rested_sound last after (rests_may last after status.Ok end) sound
end_sound honest (status.BadWords fault) left lines more last after end not_own sound = same_run_sound last after end sound
end_sound honest (status.BadLine line kind) left lines more last after end not_own sound = same_run_sound last after end sound
end_sound honest status.ReadFault left lines more last after end not_own sound = same_run_sound last after end sound
end_sound honest status.WriteFault left lines more last after end not_own sound = rested_sound last after (rests_may last after status.WriteFault end) sound
end_sound honest status.DiskFault left lines more last after end not_own sound = rested_sound last after (rests_may last after status.DiskFault end) sound
end_sound honest status.Exists left lines more last after end not_own sound = same_run_sound last after end sound
end_sound honest (status.Budget firings) left lines more last after end not_own sound = same_run_sound last after end sound
end_sound honest (status.TooMany count) left lines more last after end not_own sound = same_run_sound last after end sound
end_sound honest status.Fenced left lines more last after end not_own sound = same_run_sound last after end sound
end_sound honest status.OldStore left lines more last after end not_own sound = same_run_sound last after end sound
end_sound honest (status.BadStream at) left lines more last after end not_own sound = same_run_sound last after end sound

-- The trail stays, whatever the end left of the cluster.

short_trail : (honest : Type 0) (e : StepEnd) (left : Option (List ℕ)) (lines : List (List ℕ)) (more : List ℤ) (last after : RunState) → EndsShort honest e left lines more last after → after.trail ≡ last.trail
short_trail honest e left lines more last after short = short.cut.trail

pub end_trail : (honest : Type 0) (s : Status) (left : Option (List ℕ)) (lines : List (List ℕ)) (more : List ℤ) (last after : RunState) → EndsRun honest s left lines more last after → after.trail ≡ last.trail
end_trail honest (status.NotAStore store) left lines more last after end = short_trail honest _ left lines more last after end
end_trail honest (status.Damaged store at) left lines more last after end = short_trail honest _ left lines more last after end
end_trail honest (status.JournalFull need room) left lines more last after end = short_trail honest _ left lines more last after end
end_trail honest status.NoMemory left lines more last after (inl nothing) = nothing.trail
end_trail honest status.NoMemory left lines more last after (inr short) = short_trail honest _ left lines more last after short
end_trail honest status.Ok left lines more last after end = rested_trail last after (rests_may last after status.Ok end)
end_trail honest (status.BadWords fault) left lines more last after end = ap (λ (r : RunState). r.trail) end
end_trail honest (status.BadLine line kind) left lines more last after end = ap (λ (r : RunState). r.trail) end
end_trail honest status.ReadFault left lines more last after end = ap (λ (r : RunState). r.trail) end
end_trail honest status.WriteFault left lines more last after end = rested_trail last after (rests_may last after status.WriteFault end)
end_trail honest status.DiskFault left lines more last after end = rested_trail last after (rests_may last after status.DiskFault end)
end_trail honest status.Exists left lines more last after end = ap (λ (r : RunState). r.trail) end
end_trail honest (status.Budget firings) left lines more last after end = ap (λ (r : RunState). r.trail) end
end_trail honest (status.TooMany count) left lines more last after end = ap (λ (r : RunState). r.trail) end
end_trail honest status.Fenced left lines more last after end = ap (λ (r : RunState). r.trail) end
end_trail honest status.OldStore left lines more last after end = ap (λ (r : RunState). r.trail) end
end_trail honest (status.BadStream at) left lines more last after end = ap (λ (r : RunState). r.trail) end

-- Where both stores were open at first, and one is closed after the steps and a checkpoint, a disk failed.
pub ran_rose : (honest : Type 0) (S : ClusterState) (ts : List TimedStep) (rs : List StepReply) (last after : RunState) → RanSteps honest ts rs (begun false S) last → IsReady S → MayBreak last after
    → is_closed after.cluster ≡ true → OneRose S after.cluster
ran_rose honest S ts rs last after ran ready may closed = by (rested_closed last after may closed) where
  by : (is_closed last.cluster ≡ true) ⊎ OneRose last.cluster after.cluster → OneRose S after.cluster
  by (inl was) =
      rose_then S last.cluster after.cluster (subst (OneRose S) (sym ran.last) (run_closes honest S ts rs ran.states ran.done ready (ap is_closed (sym ran.last) ∙ was))) (rested_counts last after may)
  by (inr rose) = then_rose S last.cluster after.cluster (subst (NoneFalls S) (sym ran.last) (run_counts honest S ts rs ran.states ran.done)) rose

-- A run on opened stores.
module _ (honest : Type 0) (s : Status) (S : ClusterState) (after : RunState) (old new : Outside) (lines : List (List ℕ)) (readings : List ℤ) (replies : List StepReply)
    (opened : IsOpened S.triggers) (states_opened : AreOpened S.states) (run : IsRun honest s (begun false S) after old new lines readings replies) where
  ready_at_first : IsReady S
  ready_at_first = opened_ready S opened states_opened

  -- DiskFault comes only where the count of a disk rose
  pub disk_rose : (m n : ℕ) → m ≤ S.triggers.faults → n ≤ S.states.faults → s ≡ status.DiskFault → Rose m after.cluster.triggers.faults ⊎ Rose n after.cluster.states.faults
  disk_rose m n earlier states_earlier is =
      let may = subst (λ (x : Status). EndsRun honest x old.left lines run.clocked.more run.last after) is run.end in
      let closed = subst (λ (x : Status). TellsClosed x after.cluster) is run.closed in
      rose_from_first m n S after.cluster earlier states_earlier (ran_rose honest S _ replies run.last after run.steps ready_at_first may closed)

  pub plain_opened : AllByRecursion (IsOnTold honest) (steps_of lines readings) → AllByRecursion IsNoFault replies
      → plain_replies (steps_of lines readings) replies ≡ step_replies (script_of S) (steps_of lines readings)
  plain_opened on_honest no_fault = run_plain honest S _ replies run.steps.states run.steps.done ready_at_first on_honest no_fault

  pub plain_first : (first rest : List StepReply) → replies ≡ first ++ rest → AllByRecursion (IsOnTold honest) (take (length first) (steps_of lines readings)) → AllByRecursion IsNoFault first
      → plain_replies (steps_of lines readings) first ≡ take (length first) (step_replies (script_of S) (steps_of lines readings))
  plain_first first rest is on_honest no_fault =
      run_plain_first honest S _ first rest run.steps.states (subst (λ rs. StepsDone honest S (steps_of lines readings) rs run.steps.states) is run.steps.done) ready_at_first on_honest no_fault

  sound_at_first : HasSoundStores S
  sound_at_first = (opened.sound, states_opened.sound)

  states_sound : AllByRecursion HasSoundStores run.steps.states
  states_sound = run_sound honest S _ replies run.steps.states run.steps.done sound_at_first

  -- its states have legal histories, valid tables and valid rows
  pub sound_opened : AllByRecursion HasSoundStores after.trail
  sound_opened =
      subst (AllByRecursion HasSoundStores) (sym (end_trail honest s old.left lines run.clocked.more run.last after run.end ∙ run.steps.trail)) (sound_at_first, states_sound)

  pub sound_at_end : HasSoundStores after.cluster
  sound_at_end =
      end_sound honest s old.left lines run.clocked.more run.last after run.end run.steps.own
      (subst HasSoundStores (sym run.steps.last) (last_sound S run.steps.states sound_at_first states_sound))
