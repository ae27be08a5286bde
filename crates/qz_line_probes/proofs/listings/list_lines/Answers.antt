use Rattle.std.proofs.Common.{rules}
use Rattle.qz_line_probes.proofs.listings.list_lines.Goals as goal

pub returns : goal.returns
returns c = search rules
