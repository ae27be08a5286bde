-- Transactions that record the moment alone, or leave all fired rows and members as they were.
use Rattle.std.proofs.Common.{◌≡◌, ℤ}
use Rattle.qz_types.specs.Tables.{SchedulerTables}

-- only the moment is recorded
abbrev pub IsStill : SchedulerTables → SchedulerTables → ℤ → Type 0
IsStill T T' m = T' ≡ record T { last_moment = m }

-- rows and members are as they were
pub record KeepsHands (T T' : SchedulerTables) (m : ℤ) : Type 0 where
  pub fired : T'.fired ≡ T.fired
  pub members : T'.members ≡ T.members
  pub last : T'.last_moment ≡ m
