use Rattle.std.proofs.Common.{rules}
use Rattle.qz_value_probes.proofs.cron_texts.print.Goals as goal

pub returns-clause-text : goal.returns-clause-text
returns-clause-text c = search rules

pub returns-clause-again : goal.returns-clause-again
returns-clause-again c = search rules
