use Rattle.std.proofs.Common.{refl}
use Rattle.qz_cron_text.specs.Printing.{canonical_text}
use Rattle.qz_cron_text.proofs.PrintTexts.{printed_again}
use Rattle.qz_cron_text.proofs.laws.printed_texts_are_read_again.Goals as goal

pub returns : goal.returns
returns c fields four valid = printed_again (canonical_text fields) fields refl four valid
