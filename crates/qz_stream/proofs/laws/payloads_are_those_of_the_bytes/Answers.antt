use Rattle.qz_stream.proofs.Faults.{payloads_once}
use Rattle.qz_stream.proofs.Once.{taken-after, taken_once, taken-before}
use Rattle.qz_stream.proofs.laws.payloads_are_those_of_the_bytes.Goals as goal

pub returns-clause-one : goal.returns-clause-one
returns-clause-one c = payloads_once

pub returns-clause-taken_once : goal.returns-clause-taken_once
returns-clause-taken_once c = taken_once

pub returns-clause-before_bad : goal.returns-clause-before_bad
returns-clause-before_bad c = taken-before

pub returns-clause-taken : goal.returns-clause-taken
returns-clause-taken c = taken-after
