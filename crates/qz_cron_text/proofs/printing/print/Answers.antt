use Rattle.std.proofs.Common.{◌≡◌, arith}
use Rattle.std.proofs.lemmas.Grind.{common_steps}
use Rattle.qz_cron_text.specs.Printing.{canonical_text}
use Rattle.qz_cron_text.proofs.PrintTexts.{printed_again}
use Rattle.qz_cron_text.proofs.printing.print.Goals as goal

pub returns-clause-again : goal.returns-clause-again
returns-clause-again c valid =
    let text : c.from_string.result ≡ canonical_text c.args.fields.now = grind (arith, common_steps) in
    printed_again c.from_string.result c.args.fields.now text c.in_ok-push_fields.ensures.four valid
