use Rattle.std.proofs.Common.{◌∙◌}
use Rattle.qz_cron_text.proofs.GrammarLaws.{reading_read, when_read}
use Rattle.qz_cron_text.proofs.ValidLaws.{valid_when_read}
use Rattle.qz_cron_text.proofs.TextFaults.{first_fault_read, fault_when_read}
use Rattle.qz_cron_text.proofs.parsing.parse.Goals as goal

pub returns-clause-found : goal.returns-clause-found
returns-clause-found c = when_read c.args.text.now c.read.result c.read.ensures

pub returns-clause-only : goal.returns-clause-only
returns-clause-only c fields is = c.read.ensures ∙ reading_read c.args.text.now fields is

pub returns-clause-fault : goal.returns-clause-fault
returns-clause-fault c = fault_when_read c.args.text.now c.read.result c.read.ensures

pub returns-clause-only_fault : goal.returns-clause-only_fault
returns-clause-only_fault c fault is = c.read.ensures ∙ first_fault_read c.args.text.now fault is

pub returns-clause-valid : goal.returns-clause-valid
returns-clause-valid c = valid_when_read c.args.text.now c.read.result c.read.ensures
