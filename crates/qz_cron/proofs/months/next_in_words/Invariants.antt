use Rattle.std.proofs.Common.{◌-◌, ◌≤◌}
use Rattle.qz_civil.specs.Least.{NoneIn}
use Rattle.qz_civil.specs.Fields.{has_word}
use Rattle.qz_cron.proofs.months.next_in_words.Given as goal

abbrev pub invariant-loop-low : goal.invariant-loop-low
invariant-loop-low l = NoneIn (has_word l.words) l.from l.low × (l.from ≤ l.low)

abbrev pub decreases-loop-low : goal.decreases-loop-low
decreases-loop-low l = 256 - l.low
