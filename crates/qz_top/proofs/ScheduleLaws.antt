-- The triggers of each store that was shown follow their schedules, since its history is legal.
use Rattle.std.proofs.Common.{◌++◌, [], List, ◌∷◌, subst}
use Rattle.std.proofs.lemmas.List.{append-nil}
use Rattle.qz_disk.specs.declared.disk.Disk.{Ghosts}
use Rattle.qz_trigger_store.proofs.Kept.{schedules_kept}
use Rattle.qz_cluster.specs.Steps.{ClusterState}
use Rattle.qz_cluster.specs.View.{triggers_of}
use Rattle.qz_top.specs.Calls.{trail_of}
use Rattle.qz_top.specs.Schedules.{FollowSchedules}
use Rattle.qz_top.specs.Seen.{Shown, states_of}
use Rattle.qz_top.specs.declared.ended.Trail.{Trail}

shown_follow : {D : Type 0} {g : Ghosts D} (shown : Shown D g) (more : List ClusterState) → FollowSchedules more → FollowSchedules (states_of shown ++ more)
shown_follow [] more follow = follow
shown_follow (s ∷ shown) more follow = (schedules_kept (triggers_of s.value), shown_follow shown more follow)

pub trail_follows : {D : Type 0} {g : Ghosts D} (t : Trail D g) → FollowSchedules (trail_of t)
trail_follows t = shown_follow t.on_disk.value.items _ (subst FollowSchedules (append-nil _) (shown_follow t.in_memory.value.items [] tt))
