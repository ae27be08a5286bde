-- What a crash at any moment of a script leaves on the disks.
use Rattle.std.specs.Prelude.{⊤, ◌≡◌, ◌⊎◌, ◌≤◌, ℕ, false, List, [], ◌∷◌, ◌++◌}
use Rattle.std.specs.declared.snapshot.Snapshot.{Snapshot}
use Rattle.qz_disk.specs.declared.disk.Disk.{Ghosts}
use Rattle.qz_disk.specs.Disk.{DiskState, LeavesOnly}
use Rattle.qz_journal.specs.Through.{OnlyReads}
use Rattle.qz_trigger_store.specs.Bytes.{Whole, IsWhole, MayBe}
use Rattle.qz_trigger_store.specs.Opening.{IsOpened}
use Rattle.qz_trigger_store.specs.View.{added_of, GoesOnFrom}
use Rattle.qz_checkin.specs.Bytes.{Whole as WholeRows, IsWhole as IsWholeRows, MayBe as RowsMayBe}
use Rattle.qz_checkin.specs.Opening.{IsOpened as AreOpened}
use Rattle.qz_checkin.specs.View.{GoesOnFrom as RowsGoOnFrom}
use Rattle.qz_cluster.specs.declared.clusters.Cluster.{Cluster}
use Rattle.qz_cluster.specs.Steps.{ClusterState}
use Rattle.qz_cluster.specs.View.{view as cluster_view, triggers_of, states_of as rows_of, triggers_disk, states_disk, EachLeavesEither, IsTold as ClusterIsTold}
use Rattle.qz_top.specs.Found.{IsFoundOn, IsTold}
use Rattle.qz_top.specs.Seen.{Shown, states_of}
use Rattle.qz_top.specs.declared.runs.Run.{Run}

-- These bytes hold a whole list that begins with this one. The history of this state's trigger store is an end of it, or with
-- the undecided entry is.
abbrev pub HasTriggers : Whole → List ℕ → ClusterState → Type 0
HasTriggers w bytes S = MayBe w S.triggers.history S.triggers.undecided bytes

-- the same of its state store
abbrev pub HasStates : WholeRows → List ℕ → ClusterState → Type 0
HasStates v bytes S = RowsMayBe v S.states.history S.states.undecided bytes

-- it holds of one of these states, or of the one at the end
abbrev pub HoldsOfOne : (ClusterState → Type 0) → List ClusterState → ClusterState → Type 0
HoldsOfOne Holds [] end = Holds end
HoldsOfOne Holds (S ∷ states) end = Holds S ⊎ HoldsOfOne Holds states end

-- both disks were only read before the first cluster was shown
abbrev pub BeginsWithReads : {D : Type 0} {g : Ghosts D} → DiskState → DiskState → Shown D g → Type 0
BeginsWithReads triggers states [] = ⊥
BeginsWithReads triggers states (first ∷ later) = OnlyReads triggers (triggers_disk first.value) × OnlyReads states (states_disk first.value)

-- From the moment on when a state was shown, a crash leaves each store as in that state, in a later one or in the one at
-- the end: what was done until then isn't lost again.
abbrev pub EachIsKept : {D : Type 0} {g : Ghosts D} → Whole → WholeRows → Shown D g → ClusterState → DiskState → DiskState → Type 0
EachIsKept w v [] end triggers states = ⊤
EachIsKept w v (s ∷ later) end triggers states =
    LeavesOnly (triggers_disk s.value) triggers (λ b. HoldsOfOne (HasTriggers w b) (states_of (s ∷ later)) end)
    × LeavesOnly (states_disk s.value) states (λ b. HoldsOfOne (HasStates v b) (states_of (s ∷ later)) end)
    × EachIsKept w v later end triggers states

-- the last cluster that was shown after this one
abbrev pub last_shown : {D : Type 0} {g : Ghosts D} → Cluster D g → Shown D g → Cluster D g
last_shown c [] = c
last_shown c (s ∷ later) = last_shown s.value later

-- a crash at any moment between two neighbours leaves each store as in the one or in the other
abbrev pub EachStepLeaves : {D : Type 0} {g : Ghosts D} → Cluster D g → Shown D g → Type 0
EachStepLeaves c [] = ⊤
EachStepLeaves c (s ∷ later) = EachLeavesEither c s.value × EachStepLeaves s.value later

-- What a script in progress showed of its cluster from one moment to another. Where all is shown, nothing but the shown
-- steps was done; else one step more may have been.
pub record Shows {D : Type 0} {g : Ghosts D} (all : Type 0) (old new : Run D g) : Type 0 where
  pub shown : Shown D g
  pub trail : new.trail.items ≡ old.trail.items ++ shown
  pub own : new.is_own ≡ old.is_own
  pub begun : new.begun.value ≡ old.begun.value
  pub last : all → new.cluster ≡ last_shown old.cluster shown
  pub moments : g.honest → EachStepLeaves old.cluster shown
  pub end : g.honest → (new.cluster ≡ last_shown old.cluster shown) ⊎ EachLeavesEither (last_shown old.cluster shown) new.cluster

-- A script that begins on the stores that were just opened on these disks.
pub record BeginsOn {D : Type 0} {g : Ghosts D} (triggers states : D) (r : Run D g) : Type 0 where
  pub are_opened : IsOpened (cluster_view r.cluster).triggers × AreOpened (cluster_view r.cluster).states
  pub nothing_held : (cluster_view r.cluster).held ≡ []
  pub nothing_added : added_of (triggers_of r.cluster) ≡ []
  pub found : g.honest → IsFoundOn g triggers states (cluster_view r.cluster)
  pub goes_on : g.honest → (w : Whole) → IsWhole w (g.state triggers).content → GoesOnFrom (triggers_of r.cluster) w
  pub rows_go_on : g.honest → (v : WholeRows) → IsWholeRows v (g.state states).content → RowsGoOnFrom (rows_of r.cluster) v
  pub told : IsTold g triggers → ClusterIsTold r.cluster
  pub no_earlier : (g.faults triggers ≤ (cluster_view r.cluster).triggers.faults) × (g.faults states ≤ (cluster_view r.cluster).states.faults)
  pub reads : g.honest → OnlyReads (g.state triggers) (triggers_disk r.cluster) × OnlyReads (g.state states) (states_disk r.cluster)
  pub not_own : r.is_own ≡ false
  pub begun : r.begun.value ≡ r.cluster
  pub first : Snapshot (Cluster D g)
  pub trail : r.trail.items ≡ first ∷ []
  pub shown : first.value ≡ r.cluster
