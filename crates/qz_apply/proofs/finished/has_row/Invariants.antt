use Rattle.std.proofs.Common.{◌≡◌, false, take}
use Rattle.std.specs.List.{list_any}
use Rattle.qz_types.specs.Words.{same_key}
use Rattle.qz_apply.proofs.finished.has_row.Given as goal

abbrev pub invariant-loop-place : goal.invariant-loop-place
invariant-loop-place l = list_any (λ f. same_key l.trigger f.trigger) (take l.place l.tables.tables.fired) ≡ false
