use Rattle.std.proofs.Common.{◌≡◌, ◌++◌, map, take, string_bytes}
use Rattle.std.specs.List.{flat_map}
use Rattle.qz_listing.specs.Lines.{job_group_line}
use Rattle.qz_listing.proofs.triggers.push_job_groups.Given as goal

abbrev pub invariant-loop-group : goal.invariant-loop-group
invariant-loop-group l = string_bytes l.text ≡ string_bytes l.fn.text ++ flat_map job_group_line (map (λ g. g.now) (take l.group-index l.groups))
