use Rattle.std.proofs.Common.{◌≡◌, true}
use Rattle.qz_cron_text.specs.Printing.{has_all}
use Rattle.qz_cron_text.proofs.printing.is_full.Given as goal

abbrev pub invariant-loop-index : goal.invariant-loop-index
invariant-loop-index l = has_all l.set l.index ≡ true
