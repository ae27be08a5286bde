-- How often a trigger fired stays within its limit.
use Rattle.std.proofs.Common.{◌≤◌, ℕ, Bool, true, false, ◌&&◌, nat_le, arith}
use Rattle.std.proofs.lemmas.Grind.{common_steps}
use Rattle.std.specs.Prelude.{IsTrue}
use Rattle.qz_types.specs.declared.limits.TheConstants.{TIMES_LIMIT}

pub times_within : (spec : Bool) (times : ℕ) → IsTrue (spec && nat_le times TIMES_LIMIT) → times ≤ TIMES_LIMIT
times_within true times h = grind (arith, common_steps)
times_within false times h = absurd cc

-- it may be any other that is within its limit
pub within_again : (spec : Bool) (times again : ℕ) → IsTrue (spec && nat_le times TIMES_LIMIT) → again ≤ TIMES_LIMIT → IsTrue (spec && nat_le again TIMES_LIMIT)
within_again true times again h le = grind (arith, common_steps)
within_again false times again h le = absurd cc
