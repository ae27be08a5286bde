use Rattle.qz_stream.proofs.Faults.{bad_told, bad_once, end_told}
use Rattle.qz_stream.proofs.laws.places_are_told.Goals as goal

pub returns-clause-bad : goal.returns-clause-bad
returns-clause-bad c = bad_told

pub returns-clause-one_bad : goal.returns-clause-one_bad
returns-clause-one_bad c = bad_once

pub returns-clause-end : goal.returns-clause-end
returns-clause-end c = end_told
