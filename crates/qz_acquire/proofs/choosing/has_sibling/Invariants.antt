use Rattle.std.proofs.Common.{◌≡◌, map, drop}
use Rattle.qz_acquire.specs.Choosing.{has_sibling}
use Rattle.qz_acquire.proofs.choosing.has_sibling.Given as goal

abbrev pub invariant-loop-one : goal.invariant-loop-one
invariant-loop-one l = has_sibling l.tables.tables.jobs (map (λ r. r.now) (drop l.one-index l.taken)) l.trigger ≡ has_sibling l.tables.tables.jobs (map (λ r. r.now) l.taken) l.trigger
