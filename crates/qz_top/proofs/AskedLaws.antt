-- What a call did, by what its words ask for, and the causes of its status.
use Rattle.std.proofs.Common.{◌≡◌, ◌⊎◌, inl, inr, List, Result, subst, refl, sym, ◌∙◌}
use Rattle.std.specs.Prelude.{Ok, Err}
use Rattle.qz_civil.specs.Causes.{Rose}
use Rattle.qz_disk.specs.declared.disk.Disk.{Ghosts}
use Rattle.qz_io.specs.Outside.{Outside}
use Rattle.qz_journal.specs.declared.errors.MountError.{MountError}
use Rattle.qz_journal.specs.declared.errors.MountError.TheVariants as mount
use Rattle.qz_types.specs.declared.stores.Store.{Store}
use Rattle.qz_node.specs.Jobs.{JobMeaning}
use Rattle.qz_run.specs.declared.commands.Plan.{Plan}
use Rattle.qz_words.specs.declared.wishes.WordFault.{WordFault}
use Rattle.qz_words.specs.declared.wishes.Wish.{Wish}
use Rattle.qz_cluster.specs.Steps.{ClusterState}
use Rattle.qz_top.specs.Asked.{RanScript, UsesJobs, DidAsAsked}
use Rattle.qz_top.specs.Calls.{OwnDone, refusal_of}
use Rattle.qz_top.specs.Causes.{FaultCounts, DiskFailed, HasCause}
use Rattle.qz_top.specs.Making.{IsInit}
use Rattle.qz_top.specs.NodeRuns.{RanNodes}
use Rattle.qz_top.specs.Runs.{IsOfScript}
use Rattle.qz_top.specs.Times.{IsOfTimes}
use Rattle.qz_top.specs.declared.statuses.Status.{Status}
use Rattle.qz_top.specs.declared.statuses.Status.TheVariants as status
use Rattle.qz_top.specs.declared.ended.Ended.{Ended}
use Rattle.qz_top.proofs.NodeRestLaws.{rests_words}
use Rattle.qz_top.proofs.NodeRunLaws.{told_no_words}

pub done_at : {D : Type 0} {g : Ghosts D} (jobs jobs' : List JobMeaning) (triggers states : D) (e : Ended D g) (old new : Outside) (v w : Result Wish WordFault) → v ≡ w
    → DidAsAsked v jobs jobs' triggers states e old new → DidAsAsked w jobs jobs' triggers states e old new
done_at jobs jobs' triggers states e old new v w same done = subst (λ (x : Result Wish WordFault). DidAsAsked x jobs jobs' triggers states e old new) same done

pub uses_at : (jobs jobs' : List JobMeaning) (v w : Result Wish WordFault) → v ≡ w → UsesJobs v jobs jobs' → UsesJobs w jobs jobs'
uses_at jobs jobs' v w same uses = subst (λ (x : Result Wish WordFault). UsesJobs x jobs jobs') same uses

-- words that aren't refused
pub words_at : (w v : Wish) → w ≡ v → ◌≡◌ {A = Result Wish WordFault} (Ok v) (Ok w)
words_at w v is = subst (λ (x : Wish). ◌≡◌ {A = Result Wish WordFault} (Ok x) (Ok w)) is refl

pub cause_at : (s : Status) (v w : Result Wish WordFault) (old new : FaultCounts) → v ≡ w → HasCause s v old new → HasCause s w old new
cause_at s v w old new same cause = subst (λ (x : Result Wish WordFault). HasCause s x old new) same cause

-- the cause of a status that may be answered to such words
pub caused_at : (s : Status) (v w : Result Wish WordFault) (old new : FaultCounts) → v ≡ w → ((fault : WordFault) → s ≡ status.BadWords fault → v ≡ Err fault)
    → (s ≡ status.ReadFault → Rose old.input new.input) → (s ≡ status.WriteFault → Rose old.output new.output) → (s ≡ status.DiskFault → DiskFailed v old new) → HasCause s w old new
caused_at (status.BadWords fault) v w old new same words read write disk = subst (λ (x : Result Wish WordFault). x ≡ Err fault) same (words fault refl)
caused_at status.ReadFault v w old new same words read write disk = read refl
caused_at status.WriteFault v w old new same words read write disk = write refl
caused_at status.DiskFault v w old new same words read write disk = subst (λ (x : Result Wish WordFault). DiskFailed x old new) same (disk refl)
caused_at status.Ok v w old new same words read write disk = tt
caused_at (status.BadLine line fault) v w old new same words read write disk = tt
caused_at (status.NotAStore store) v w old new same words read write disk = tt
caused_at (status.Damaged store at) v w old new same words read write disk = tt
caused_at (status.JournalFull need room) v w old new same words read write disk = tt
caused_at status.NoMemory v w old new same words read write disk = tt
caused_at status.Exists v w old new same words read write disk = tt
caused_at (status.Budget firings) v w old new same words read write disk = tt
caused_at (status.TooMany count) v w old new same words read write disk = tt
caused_at status.Fenced v w old new same words read write disk = tt
caused_at status.OldStore v w old new same words read write disk = tt
caused_at (status.BadStream at) v w old new same words read write disk = tt

-- Statuses that some calls don't end with.

pub own_words : (s : Status) (trail : List ClusterState) (old new : Outside) (fault : WordFault) → OwnDone s trail old new → s ≡ status.BadWords fault → ⊥
own_words s trail old new fault (inl ran) is = subst IsOfScript is ran.run.called
own_words s trail old new fault (inr none) is = let status_is = none.0 in absurd cc

pub own_disk : (s : Status) (trail : List ClusterState) (old new : Outside) → OwnDone s trail old new → s ≡ status.DiskFault → ⊥
own_disk s trail old new (inl ran) is = ran.no_fault is
own_disk s trail old new (inr none) is = let status_is = none.0 in absurd cc

pub not_of_opening : (store : Store) (error : MountError) (fault : WordFault) → refusal_of store error ≡ status.BadWords fault → ⊥
not_of_opening store mount.Fault fault is = cc
not_of_opening store mount.NotAStore fault is = cc
not_of_opening store (mount.Damaged at) fault is = cc
not_of_opening store mount.NoMemory fault is = cc

pub script_words : {D : Type 0} {g : Ghosts D} (triggers states : D) (e : Ended D g) (old new : Outside) (fault : WordFault)
    → RanScript triggers states e old new → e.status ≡ status.BadWords fault → ⊥
script_words triggers states e old new fault (inl ran) is = subst IsOfScript is ran.run.called
script_words triggers states e old new fault (inr none) is = not_of_opening none.store none.error fault (sym none.status_is ∙ is)

pub run_words : {D : Type 0} {g : Ghosts D} (p : Plan) (jobs jobs' : List JobMeaning) (triggers states : D) (e : Ended D g) (old new : Outside) (fault : WordFault)
    → RanNodes p jobs jobs' triggers states e old new → e.status ≡ status.BadWords fault → ⊥
run_words p jobs jobs' triggers states e old new fault (inl (inl ran)) is = told_no_words p ran.work ran.told_as fault jobs jobs' ran.opened ran.worked_to ran.told (rests_words fault ran.told_as e.status _ _ ran.rests is) ran.worked
run_words p jobs jobs' triggers states e old new fault (inl (inr was)) is = let found : status.BadWords fault ≡ status.OldStore = sym is ∙ was.0.status_is in absurd cc
run_words p jobs jobs' triggers states e old new fault (inr none) is = not_of_opening none.0.store none.0.error fault (sym none.0.status_is ∙ is)

pub times_words : (s : Status) (fault : WordFault) → IsOfTimes s → s ≡ status.BadWords fault → ⊥
times_words s fault called is = subst IsOfTimes is called

pub times_disk : (s : Status) → IsOfTimes s → s ≡ status.DiskFault → ⊥
times_disk s called is = subst IsOfTimes is called

module _ {D : Type 0} (g : Ghosts D) (s : Status) (t t' u u' : D) (made : IsInit g s t t' u u') where
  pub init_words : (fault : WordFault) → s ≡ status.BadWords fault → ⊥
  init_words fault is = subst (λ x. IsInit g x t t' u u') is made

  pub init_read : s ≡ status.ReadFault → ⊥
  init_read is = subst (λ x. IsInit g x t t' u u') is made

  -- one of the two disks failed
  pub init_disk : s ≡ status.DiskFault → Rose (g.faults t) (g.faults t') ⊎ Rose (g.faults u) (g.faults u')
  init_disk is = failed (subst (λ x. IsInit g x t t' u u') is made) where
    failed : IsInit g status.DiskFault t t' u u' → Rose (g.faults t) (g.faults t') ⊎ Rose (g.faults u) (g.faults u')
    failed (inl first) = inl first.rose
    failed (inr second) = inr second.rose
