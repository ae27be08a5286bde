use Rattle.std.proofs.Common.{rules}
use Rattle.qz_line_probes.proofs.documents.read_document.Goals as goal

pub returns-clause-meaning : goal.returns-clause-meaning
returns-clause-meaning c = search rules

pub returns-clause-valid : goal.returns-clause-valid
returns-clause-valid c = search rules
