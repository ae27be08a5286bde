use Rattle.std.proofs.Common.{sym, ◌∙◌}
use Rattle.qz_cron_text.proofs.CutLemmas.{split_nowhere}
use Rattle.qz_cron_text.proofs.cuts.cut_at_blank.Goals as goal

pub returns-in-None-clause-pieces : goal.returns-in-None-clause-pieces
returns-in-None-clause-pieces c = split_nowhere _ _ (sym c.blank_of.ensures ∙ c.in-None.is)
