use Rattle.std.proofs.Common.{◌≡◌, position, drop}
use Rattle.std.specs.List.{position_from}
use Rattle.qz_node.specs.Jobs.{is_of_class}
use Rattle.qz_node.proofs.executing.place_of_class.Given as goal

-- the jobs before this place are of another class
abbrev pub invariant-loop-place : goal.invariant-loop-place
invariant-loop-place g l =
    position (λ b. is_of_class l.class ((goal.Job-dyn g (b.vtable, b.value)).means b.value)) l.jobs.items
    ≡ position_from (λ b. is_of_class l.class ((goal.Job-dyn g (b.vtable, b.value)).means b.value)) l.place (drop l.place l.jobs.items)
