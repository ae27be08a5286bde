use Rattle.std.proofs.Common.{ℕ, ◌<◌, List, slice_index_or}
use Rattle.qz_serve.specs.Courses.{IsGone}
use Rattle.qz_serve.specs.Going.{state_of_both}
use Rattle.qz_serve.proofs.both_stores.BothStores.are_gone.Given as goal

abbrev pub invariant-loop-name : goal.invariant-loop-name
invariant-loop-name g l = (k : ℕ) (d : List ℕ) → k < l.name-index → IsGone (state_of_both l.self) (slice_index_or l.names k d)
