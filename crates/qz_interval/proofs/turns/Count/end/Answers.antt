use Rattle.qz_interval.proofs.NumberLemmas.{late_month}
use Rattle.qz_interval.proofs.turns.Count.end.Goals as goal

pub returns-in-Months-clause-late : goal.returns-in-Months-clause-late
returns-in-Months-clause-late c = λ number day le h. late_month number c.in-Months.day day le (rw c.in-Months.is at h)
