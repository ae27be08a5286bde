-- What the checkpoint at the end of a script leaves of it.
use Rattle.std.proofs.Common.{◌≡◌, ◌⊎◌, inl, inr, ◌≤◌, ℕ, Bool, true, false, refl, sym, ap, ◌∙◌, subst, arith}
use Rattle.std.specs.Prelude.{not, ◌||◌, Ok, Err}
use Rattle.qz_io.specs.Outside.{Outside}
use Rattle.qz_stores.specs.Checkpoints.{Marks, Breaks}
use Rattle.qz_types.specs.declared.errors.SubmitError.TheVariants as submit
use Rattle.qz_trigger_store.proofs.Sound.{checked_sound}
use Rattle.qz_checkin.specs.Entries.{StatesState}
use Rattle.qz_cluster.specs.Steps.{ClusterState, is_closed}
use Rattle.qz_cluster.proofs.Counts.{NoneFalls}
use Rattle.qz_top.specs.Calls.{HasSoundStores}
use Rattle.qz_top.specs.LineOutcomes.{NothingDone}
use Rattle.qz_top.specs.Resting.{RestedRun, IsRested, MayBreak, RestsRun}
use Rattle.qz_top.specs.Statuses.{Finishes}
use Rattle.qz_top.specs.Trails.{RunState}
use Rattle.qz_top.specs.declared.statuses.Status.{Status}
use Rattle.qz_top.specs.declared.statuses.Status.TheVariants as status
use Rattle.qz_top.proofs.RunLaws.{OneRose}
use Rattle.qz_top.proofs.TrailLaws.{NothingDone-none}

-- a closed store of two
closed_of : (a b c d : Bool) → c ≡ a → d ≡ b → not c || not d ≡ not a || not b
closed_of a b c d p q = λ i. not (p i) || not (q i)

closed_first : (a b : Bool) → a ≡ false → not a || not b ≡ true
closed_first a b is = ap (λ x. not x || not b) is

-- where neither is closed, the first is open
pub open_first : (a b : Bool) → not a || not b ≡ false → a ≡ true
open_first true b is = refl
open_first false b is = absurd cc

module _ (last after : RunState) where
  -- by the status: nothing, a snapshot, or a disk that failed
  pub rests_may : (s : Status) → RestsRun s last after → MayBreak last after
  rests_may status.Ok rests = inl rests
  rests_may status.DiskFault rests = rests
  rests_may status.WriteFault rests = rests
  rests_may status.NoMemory rests = inl (inl rests)
  rests_may (status.BadWords fault) rests = absurd rests
  rests_may (status.BadLine line kind) rests = absurd rests
  rests_may status.ReadFault rests = absurd rests
  rests_may (status.NotAStore store) rests = absurd rests
  rests_may (status.Damaged store at) rests = absurd rests
  rests_may (status.JournalFull need room) rests = absurd rests
  rests_may status.Exists rests = absurd rests
  rests_may (status.Budget firings) rests = absurd rests
  rests_may (status.TooMany count) rests = absurd rests
  rests_may status.Fenced rests = absurd rests
  rests_may status.OldStore rests = absurd rests
  rests_may (status.BadStream at) rests = absurd rests

  pub rested_history : MayBreak last after → after.cluster.triggers.history ≡ last.cluster.triggers.history
  rested_history (inl (inl same)) = ap (λ (r : RunState). r.cluster.triggers.history) same
  rested_history (inl (inr marks)) = marks.triggers.history
  rested_history (inr breaks) = breaks.triggers.history

  pub rested_trail : MayBreak last after → after.trail ≡ last.trail
  rested_trail (inl (inl same)) = ap (λ (r : RunState). r.trail) same
  rested_trail (inl (inr marks)) = marks.trail
  rested_trail (inr breaks) = breaks.trail

  -- no count of faults fell
  pub rested_counts : MayBreak last after → NoneFalls last.cluster after.cluster
  rested_counts (inl (inl same)) =
      let triggers = ap (λ (r : RunState). r.cluster.triggers.faults) same in
      let states = ap (λ (r : RunState). r.cluster.states.faults) same in
      (omega (arith, triggers), omega (arith, states))
  rested_counts (inl (inr marks)) = let states = ap (λ (x : StatesState). x.faults) marks.states in (marks.triggers.later, omega (arith, states))
  rested_counts (inr breaks) = let states = ap (λ (x : StatesState). x.faults) breaks.states in (breaks.triggers.later, omega (arith, states))

  -- a store is closed only where one was before, or a disk failed
  pub rested_closed : MayBreak last after → is_closed after.cluster ≡ true → (is_closed last.cluster ≡ true) ⊎ OneRose last.cluster after.cluster
  rested_closed (inl (inl same)) now = inl (ap (λ (r : RunState). is_closed r.cluster) (sym same) ∙ now)
  rested_closed (inl (inr marks)) now =
      inl (sym (closed_of _ _ _ _ (marks.triggers.is_open ∙ sym marks.triggers.was_open) (ap (λ (x : StatesState). x.is_open) marks.states)) ∙ now)
  rested_closed (inr breaks) now = inr (inl breaks.triggers.rose)

  -- and none where the disk didn't fail
  pub rested_open : IsRested last after → is_closed last.cluster ≡ false → is_closed after.cluster ≡ false
  rested_open (inl same) before = ap (λ (r : RunState). is_closed r.cluster) same ∙ before
  rested_open (inr marks) before = closed_of _ _ _ _ (marks.triggers.is_open ∙ sym marks.triggers.was_open) (ap (λ (x : StatesState). x.is_open) marks.states) ∙ before

  pub broken_closed : RestedRun Breaks last after → is_closed after.cluster ≡ true
  broken_closed breaks = closed_first _ _ breaks.triggers.is_open

  -- legal histories, valid tables and valid rows stay
  pub rested_sound : MayBreak last after → HasSoundStores last.cluster → HasSoundStores after.cluster
  rested_sound (inl (inl same)) sound = subst (λ (r : RunState). HasSoundStores r.cluster) (sym same) sound
  rested_sound (inl (inr marks)) sound = (checked_sound (Ok true) last.cluster.triggers after.cluster.triggers marks.triggers sound.0, rw marks.states sound.1)
  rested_sound (inr breaks) sound = (checked_sound (Err submit.Fault) last.cluster.triggers after.cluster.triggers breaks.triggers sound.0, rw breaks.states sound.1)

  -- on disks of the call's own there is no checkpoint
  pub own_rested : last.is_own ≡ true → MayBreak last after → after ≡ last
  own_rested own (inl (inl same)) = same
  own_rested own (inl (inr marks)) = let bad : true ≡ false = sym own ∙ marks.not_own in absurd cc
  own_rested own (inr breaks) = let bad : true ≡ false = sym own ∙ breaks.not_own in absurd cc

  pub nothing_so : after ≡ last → NothingDone last after
  nothing_so same = subst (λ (r : RunState). NothingDone last r) (sym same) (NothingDone-none last)

  -- The output was flushed after a checkpoint that was made or wasn't due, or after one in which the disk failed.
  module _ (old new : Outside) (m n : ℕ) where
    pub rests_open : (s : Status) → Finishes s false old new m n → (s ≡ status.NoMemory → ⊥) → IsRested last after → RestsRun s last after
    rests_open status.Ok finishes other rested = rested
    rests_open status.DiskFault finishes other rested = let bad : false ≡ true = finishes.0 in absurd cc
    rests_open status.WriteFault finishes other rested = inl rested
    rests_open status.NoMemory finishes other rested = absurd (other refl)
    rests_open (status.BadWords fault) finishes other rested = absurd finishes
    rests_open (status.BadLine line kind) finishes other rested = absurd finishes
    rests_open status.ReadFault finishes other rested = absurd finishes
    rests_open (status.NotAStore store) finishes other rested = absurd finishes
    rests_open (status.Damaged store at) finishes other rested = absurd finishes
    rests_open (status.JournalFull need room) finishes other rested = absurd finishes
    rests_open status.Exists finishes other rested = absurd finishes
    rests_open (status.Budget firings) finishes other rested = absurd finishes
    rests_open (status.TooMany count) finishes other rested = absurd finishes
    rests_open status.Fenced finishes other rested = absurd finishes
    rests_open status.OldStore finishes other rested = absurd finishes
    rests_open (status.BadStream at) finishes other rested = absurd finishes

    pub rests_closed : (s : Status) → Finishes s true old new m n → (s ≡ status.NoMemory → ⊥) → MayBreak last after → RestsRun s last after
    rests_closed status.Ok finishes other may = let bad : true ≡ false = finishes.0 in absurd cc
    rests_closed status.DiskFault finishes other may = may
    rests_closed status.WriteFault finishes other may = may
    rests_closed status.NoMemory finishes other may = absurd (other refl)
    rests_closed (status.BadWords fault) finishes other may = absurd finishes
    rests_closed (status.BadLine line kind) finishes other may = absurd finishes
    rests_closed status.ReadFault finishes other may = absurd finishes
    rests_closed (status.NotAStore store) finishes other may = absurd finishes
    rests_closed (status.Damaged store at) finishes other may = absurd finishes
    rests_closed (status.JournalFull need room) finishes other may = absurd finishes
    rests_closed status.Exists finishes other may = absurd finishes
    rests_closed (status.Budget firings) finishes other may = absurd finishes
    rests_closed (status.TooMany count) finishes other may = absurd finishes
    rests_closed status.Fenced finishes other may = absurd finishes
    rests_closed status.OldStore finishes other may = absurd finishes
    rests_closed (status.BadStream at) finishes other may = absurd finishes

-- a status that isn't Ok where a store is closed
pub closed_not_ok : (s : Status) (old new : Outside) (m n : ℕ) → Finishes s true old new m n → s ≡ status.Ok → ⊥
closed_not_ok s old new m n finishes is = let bad : true ≡ false = (subst (λ (x : Status). Finishes x true old new m n) is finishes).0 in cc
