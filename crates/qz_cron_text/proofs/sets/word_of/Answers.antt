use Rattle.qz_cron_text.proofs.SetLemmas.{word-small}
use Rattle.qz_cron_text.proofs.sets.word_of.Goals as goal

pub returns-clause-small : goal.returns-clause-small
returns-clause-small c none = word-small _ _ _ _ _ none c.loop-bit.invariant
