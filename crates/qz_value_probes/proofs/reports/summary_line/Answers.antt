use Rattle.std.proofs.Common.{rules}
use Rattle.qz_value_probes.proofs.reports.summary_line.Goals as goal

pub returns : goal.returns
returns c = search rules
