-- The last moment of valid tables.
use Rattle.std.proofs.Common.{pos, ◌≤ℤ◌}
use Rattle.std.proofs.Math.Logic.{∥∥₁_elim}
use Rattle.std.proofs.Props.{props}
use Rattle.qz_types.specs.Tables.{SchedulerTables}
use Rattle.qz_model.specs.Invariant.{TablesValid}

-- it isn't before 0
pub last_moment-low : (T : SchedulerTables) → ∥ TablesValid T ∥₁ → pos 0 ≤ℤ T.last_moment
last_moment-low T valid = ∥∥₁_elim valid (Prim.hlevel props) (λ is. is.next_times.moment.low)
