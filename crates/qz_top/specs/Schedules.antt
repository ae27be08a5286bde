-- The schedules of triggers in the states that a call went through.
use Rattle.std.specs.Prelude.{List}
use Rattle.std.specs.List.{AllByRecursion}
use Rattle.qz_cluster.specs.Steps.{ClusterState}
use Rattle.qz_schedule_law.specs.Following.{FollowsSchedules}

-- In each of these states, each trigger has fired for the first times of its schedule, as long as nothing disturbed it.
abbrev pub FollowSchedules : List ClusterState → Type 0
FollowSchedules states = AllByRecursion (λ S. FollowsSchedules S.triggers.history) states
