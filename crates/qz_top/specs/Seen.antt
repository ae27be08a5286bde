-- What a run of lines sees of its cluster and its trail.
use Rattle.std.specs.Prelude.{List, map, Vec}
use Rattle.std.specs.declared.snapshot.Snapshot.{Snapshot}
use Rattle.std.specs.declared.alloc.Global.{Global}
use Rattle.qz_disk.specs.declared.disk.Disk.{Ghosts}
use Rattle.qz_cluster.specs.declared.clusters.Cluster.{Cluster}
use Rattle.qz_cluster.specs.Steps.{ClusterState}
use Rattle.qz_cluster.specs.View.{view as cluster_view, IsTold}
use Rattle.qz_top.specs.Trails.{RunState}
use Rattle.qz_top.specs.declared.runs.Run.{Run}

-- clusters as they were shown, one after another
abbrev pub Shown : (D : Type 0) → Ghosts D → Type 0
Shown D g = List (Snapshot (Cluster D g))

abbrev pub states_of : {D : Type 0} {g : Ghosts D} → Shown D g → List ClusterState
states_of shown = map (λ s. cluster_view s.value) shown

-- the states that were shown
abbrev pub states_in : {D : Type 0} {g : Ghosts D} → Vec (Snapshot (Cluster D g)) Global → List ClusterState
states_in trail = states_of trail.items

abbrev pub view : {D : Type 0} {g : Ghosts D} → Run D g → RunState
view r = record { cluster = cluster_view r.cluster; trail = states_in r.trail; is_own = r.is_own }

-- The disks are honest, and held whole lists when the script began.
abbrev pub told_of : {D : Type 0} {g : Ghosts D} → Run D g → Type 0
told_of r = IsTold r.begun.value
