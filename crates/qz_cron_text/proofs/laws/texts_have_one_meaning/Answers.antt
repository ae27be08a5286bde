use Rattle.qz_cron_text.proofs.GrammarLaws.{texts_have_meanings, one_meaning}
use Rattle.qz_cron_text.proofs.ValidLaws.{text_valid}
use Rattle.qz_cron_text.proofs.laws.texts_have_one_meaning.Goals as goal

pub returns-clause-both_ways : goal.returns-clause-both_ways
returns-clause-both_ways c = texts_have_meanings

pub returns-clause-one : goal.returns-clause-one
returns-clause-one c = one_meaning

pub returns-clause-valid : goal.returns-clause-valid
returns-clause-valid c = text_valid
