use Rattle.qz_top.proofs.runs.Run.end.Goals as goal

pub returns-clause-short : goal.returns-clause-short
returns-clause-short g c honest w on rested = (rw c.into_stores-triggers.ensures.0 at c.give_back.ensures.short) honest rested.0 w on rested.1
