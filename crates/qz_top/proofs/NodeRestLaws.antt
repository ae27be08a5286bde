-- What a checkpoint after the nodes' work leaves of their stores.
use Rattle.std.proofs.Common.{◌≡◌, ◌⊎◌, inl, inr, ◌≤◌, ℕ, List, length, true, refl, sym, ap, subst, ◌∙◌, arith}
use Rattle.std.proofs.Math.Logic.{∥∥₁_map}
use Rattle.std.specs.Prelude.{Option, None}
use Rattle.qz_civil.specs.Causes.{Rose}
use Rattle.qz_disk.specs.declared.disk.Disk.{Ghosts}
use Rattle.qz_disk.proofs.Moments.{then_leaves}
use Rattle.qz_types.specs.Entries.{EntryData}
use Rattle.qz_model.specs.History.{History}
use Rattle.qz_node.specs.Jobs.{JobMeaning}
use Rattle.qz_stores.specs.Checkpoints.{Marks, Breaks}
use Rattle.qz_trigger_store.specs.Bytes.{Whole, Stands, MayBe}
use Rattle.qz_trigger_store.specs.Entries.{TriggerState}
use Rattle.qz_trigger_store.specs.View.{view, disk_state, LeavesEither}
use Rattle.qz_trigger_store.specs.declared.stores.TriggerStore.{TriggerStore}
use Rattle.qz_cluster.specs.Steps.{ClusterState}
use Rattle.qz_words.specs.declared.wishes.WordFault.{WordFault}
use Rattle.qz_run.specs.declared.commands.Plan.{Plan}
use Rattle.qz_run_stores.specs.Going.{Went}
use Rattle.qz_run_stores.specs.Ways.{first_entries, HasOnTheWay, KeepsTriggers}
use Rattle.qz_top.specs.NodeRuns.{IsOfNodes, IsToldAs, Worked}
use Rattle.qz_top.specs.Resting.{RestsNodes}
use Rattle.qz_top.specs.declared.statuses.Status.{Status}
use Rattle.qz_top.specs.declared.statuses.Status.TheVariants as status
use Rattle.qz_top.proofs.NodeRunLaws.{told_disk_rose}

-- By both statuses: nothing was done, a snapshot was made, or the disk failed.

abbrev pub MayRest : TriggerState → TriggerState → Type 0
MayRest s t = (t ≡ s) ⊎ Marks s t ⊎ Breaks s t

may_done : (s t : TriggerState) → (t ≡ s) ⊎ Marks s t → MayRest s t
may_done s t (inl same) = inl same
may_done s t (inr marks) = inr (inl marks)

may_try : (s t : TriggerState) → ((t ≡ s) ⊎ Marks s t) ⊎ Breaks s t → MayRest s t
may_try s t (inl done) = may_done s t done
may_try s t (inr breaks) = inr (inr breaks)

pub rests_may : (told r : Status) (s t : TriggerState) → RestsNodes told r s t → MayRest s t
rests_may status.Ok r s t (inl done) = may_done s t done.1
rests_may status.Ok r s t (inr (inl failed)) = inr (inr failed.1)
rests_may status.Ok r s t (inr (inr starved)) = inl starved.1
rests_may (status.Budget firings) r s t rests = may_try s t rests.1
rests_may (status.BadWords fault) r s t rests = inl rests.1
rests_may (status.BadLine line kind) r s t rests = inl rests.1
rests_may status.ReadFault r s t rests = inl rests.1
rests_may status.WriteFault r s t rests = inl rests.1
rests_may status.DiskFault r s t rests = inl rests.1
rests_may (status.NotAStore store) r s t rests = inl rests.1
rests_may (status.Damaged store at) r s t rests = inl rests.1
rests_may (status.JournalFull need room) r s t rests = inl rests.1
rests_may status.NoMemory r s t rests = inl rests.1
rests_may status.Exists r s t rests = inl rests.1
rests_may (status.TooMany count) r s t rests = inl rests.1
rests_may status.Fenced r s t rests = inl rests.1
rests_may status.OldStore r s t rests = inl rests.1
rests_may (status.BadStream at) r s t rests = inl rests.1

-- the status stays, or tells that the checkpoint failed
rests_status : (told r : Status) (s t : TriggerState) → RestsNodes told r s t → (r ≡ told) ⊎ ((r ≡ status.DiskFault) × Breaks s t) ⊎ (r ≡ status.NoMemory)
rests_status status.Ok r s t (inl done) = inl done.0
rests_status status.Ok r s t (inr (inl failed)) = inr (inl failed)
rests_status status.Ok r s t (inr (inr starved)) = inr (inr starved.0)
rests_status (status.Budget firings) r s t rests = inl rests.0
rests_status (status.BadWords fault) r s t rests = inl rests.0
rests_status (status.BadLine line kind) r s t rests = inl rests.0
rests_status status.ReadFault r s t rests = inl rests.0
rests_status status.WriteFault r s t rests = inl rests.0
rests_status status.DiskFault r s t rests = inl rests.0
rests_status (status.NotAStore store) r s t rests = inl rests.0
rests_status (status.Damaged store at) r s t rests = inl rests.0
rests_status (status.JournalFull need room) r s t rests = inl rests.0
rests_status status.NoMemory r s t rests = inl rests.0
rests_status status.Exists r s t rests = inl rests.0
rests_status (status.TooMany count) r s t rests = inl rests.0
rests_status status.Fenced r s t rests = inl rests.0
rests_status status.OldStore r s t rests = inl rests.0
rests_status (status.BadStream at) r s t rests = inl rests.0

-- where nothing is done, the status stays
pub rests_none : (told : Status) (s : TriggerState) → RestsNodes told told s s
rests_none status.Ok s = inl (refl, inl refl)
rests_none (status.Budget firings) s = (refl, inl (inl refl))
rests_none (status.BadWords fault) s = (refl, refl)
rests_none (status.BadLine line kind) s = (refl, refl)
rests_none status.ReadFault s = (refl, refl)
rests_none status.WriteFault s = (refl, refl)
rests_none status.DiskFault s = (refl, refl)
rests_none (status.NotAStore store) s = (refl, refl)
rests_none (status.Damaged store at) s = (refl, refl)
rests_none (status.JournalFull need room) s = (refl, refl)
rests_none status.NoMemory s = (refl, refl)
rests_none status.Exists s = (refl, refl)
rests_none (status.TooMany count) s = (refl, refl)
rests_none status.Fenced s = (refl, refl)
rests_none status.OldStore s = (refl, refl)
rests_none (status.BadStream at) s = (refl, refl)

-- another status than those two was so before
status_stays : (told r x : Status) (s t : TriggerState) → RestsNodes told r s t → (status.DiskFault ≡ x → ⊥) → (status.NoMemory ≡ x → ⊥) → r ≡ x → told ≡ x
status_stays told r x s t rests no_fault memory is = by (rests_status told r s t rests) where
  by : (r ≡ told) ⊎ ((r ≡ status.DiskFault) × Breaks s t) ⊎ (r ≡ status.NoMemory) → told ≡ x
  by (inl same) = sym same ∙ is
  by (inr (inl failed)) = absurd (no_fault (sym failed.0 ∙ is))
  by (inr (inr starved)) = absurd (memory (sym starved ∙ is))

-- bad words were told so before
pub rests_words : (fault : WordFault) (told r : Status) (s t : TriggerState) → RestsNodes told r s t → r ≡ status.BadWords fault → told ≡ status.BadWords fault
rests_words fault told r s t rests is = status_stays told r (status.BadWords fault) s t rests (λ bad. cc) (λ bad. cc) is

-- a call that ends with a write fault told of one
pub rests_write : (told r : Status) (s t : TriggerState) → RestsNodes told r s t → r ≡ status.WriteFault → told ≡ status.WriteFault
rests_write told r s t rests is = status_stays told r status.WriteFault s t rests (λ bad. cc) (λ bad. cc) is

-- and none ends with a read fault
pub rests_read : (work told r : Status) (s t : TriggerState) → IsOfNodes work → IsToldAs told work → RestsNodes told r s t → r ≡ status.ReadFault → ⊥
rests_read work told r s t called told_as rests is = by told_as where
  read : told ≡ status.ReadFault
  read = status_stays told r status.ReadFault s t rests (λ bad. cc) (λ bad. cc) is

  by : IsToldAs told work → ⊥
  by (inl same) = subst IsOfNodes (sym same ∙ read) called
  by (inr (inl same)) = let bad : status.WriteFault ≡ status.ReadFault = sym same ∙ read in cc
  by (inr (inr same)) = let bad : status.NoMemory ≡ status.ReadFault = sym same ∙ read in cc

-- The history and the undecided entry stay.

module _ (s t : TriggerState) where
  pub may_history : MayRest s t → t.history ≡ s.history
  may_history (inl same) = ap (λ (x : TriggerState). x.history) same
  may_history (inr (inl marks)) = marks.history
  may_history (inr (inr breaks)) = breaks.history

  may_undecided : (s.is_open ≡ true → s.undecided ≡ None) → MayRest s t → t.undecided ≡ s.undecided
  may_undecided settled (inl same) = ap (λ (x : TriggerState). x.undecided) same
  may_undecided settled (inr (inl marks)) = marks.undecided
  may_undecided settled (inr (inr breaks)) = breaks.undecided ∙ sym (settled breaks.was_open)

  may_later : MayRest s t → s.faults ≤ t.faults
  may_later (inl same) = let faults = ap (λ (x : TriggerState). x.faults) same in omega (arith, faults)
  may_later (inr (inl marks)) = marks.later
  may_later (inr (inr breaks)) = breaks.later

-- What a crash on the way leaves.

module _ (w : Whole) (b s t : TriggerState) (bytes : List ℕ) (same : t.history ≡ s.history) (undecided : t.undecided ≡ s.undecided) where
  may_same : MayBe w s.history s.undecided bytes → MayBe w t.history t.undecided bytes
  may_same may = subst (λ (u : Option EntryData). MayBe w t.history u bytes) (sym undecided) (subst (λ (h : History). MayBe w h s.undecided bytes) (sym same) may)

  way_same : HasOnTheWay w b s bytes → HasOnTheWay w b t bytes
  way_same (inl on) = inl (on.0, on.1, subst (λ (h : History). on.0 ≤ length h.entries) (sym same) on.2, subst (λ (h : History). Stands w bytes (first_entries on.0 h)) (sym same) on.3)
  way_same (inr may) = inr (may_same may)

  either_way : MayBe w s.history s.undecided bytes ⊎ MayBe w t.history t.undecided bytes → HasOnTheWay w b t bytes
  either_way (inl was) = inr (may_same was)
  either_way (inr may) = inr may

module _ {D : Type 0} {g : Ghosts D} where
  -- the checkpoint is on the way of the run
  pub rested_kept : (b s t : TriggerStore D g) → MayRest (view s) (view t) → (g.honest → LeavesEither s t) → ∥ KeepsTriggers b s ∥₁ → ∥ KeepsTriggers b t ∥₁
  rested_kept b s t may leaves kept =
      let same : (view t).history ≡ (view s).history = may_history (view s) (view t) may in
      let undecided : (view t).undecided ≡ (view s).undecided = may_undecided (view s) (view t) s.store.settled may in
      ∥∥₁_map kept (λ so_far honest w on.
      let first = so_far honest w on in
      let second = leaves honest w first.0 in (
        second.0,
        then_leaves (disk_state b) (disk_state s) (disk_state t) _ _ _ first.1 second.1
            (λ bytes was. way_same w (view b) (view s) (view t) bytes same undecided was) (λ bytes is. either_way w (view b) (view s) (view t) bytes same undecided is),
      ))

-- A disk failed where the call tells so: in the nodes' work, or in the checkpoint.

rests_fault : (told r : Status) (s t : TriggerState) → RestsNodes told r s t → r ≡ status.DiskFault → (told ≡ status.DiskFault) ⊎ Rose s.faults t.faults
rests_fault told r s t rests is = by (rests_status told r s t rests) where
  by : (r ≡ told) ⊎ ((r ≡ status.DiskFault) × Breaks s t) ⊎ (r ≡ status.NoMemory) → (told ≡ status.DiskFault) ⊎ Rose s.faults t.faults
  by (inl same) = inl (sym same ∙ is)
  by (inr (inl failed)) = inr failed.1.rose
  by (inr (inr starved)) = let bad : status.NoMemory ≡ status.DiskFault = sym starved ∙ is in absurd cc

pub rested_disk_rose : (p : Plan) (work told r : Status) (jobs jobs' : List JobMeaning) (begun left : ClusterState) (t : TriggerState) (m n : ℕ) → IsToldAs told work → RestsNodes told r left.triggers t → r ≡ status.DiskFault
    → Worked p work jobs jobs' begun left → begun.triggers.is_open ≡ true → begun.states.is_open ≡ true → Went begun.triggers left.triggers → Went begun.states left.states → m ≤ begun.triggers.faults → n ≤ begun.states.faults
    → Rose m t.faults ⊎ Rose n left.states.faults
rested_disk_rose p work told r jobs jobs' begun left t m n told_as rests is worked opened states_opened went states_went earlier states_earlier = by (rests_fault told r left.triggers t rests is) where
  later : left.triggers.faults ≤ t.faults
  later = may_later left.triggers t (rests_may told r left.triggers t rests)

  so : Rose m left.triggers.faults ⊎ Rose n left.states.faults → Rose m t.faults ⊎ Rose n left.states.faults
  so (inl rose) = inl (omega (arith, rose, later))
  so (inr rose) = inr rose

  by : (told ≡ status.DiskFault) ⊎ Rose left.triggers.faults t.faults → Rose m t.faults ⊎ Rose n left.states.faults
  by (inl fault) = so (told_disk_rose p work told jobs jobs' begun left m n told_as fault worked opened states_opened went states_went earlier states_earlier)
  by (inr rose) = inl (omega (arith, earlier, went.later, rose))
