use Rattle.std.proofs.Common.{rules}
use Rattle.qz_io_probes.proofs.journals.crash.Goals as goal

pub returns-clause-closed : goal.returns-clause-closed
returns-clause-closed g c = search rules

pub returns-clause-same : goal.returns-clause-same
returns-clause-same g c = search rules

pub returns-clause-cause : goal.returns-clause-cause
returns-clause-cause g c = search rules

pub returns-clause-told : goal.returns-clause-told
returns-clause-told g c = search rules

pub returns-clause-images : goal.returns-clause-images
returns-clause-images g c = search rules

pub returns-clause-any_moment : goal.returns-clause-any_moment
returns-clause-any_moment g c = search rules

pub returns-clause-same_slots : goal.returns-clause-same_slots
returns-clause-same_slots g c = search rules
