use Rattle.std.proofs.Common.{◌≡◌, ◌+◌}
use Rattle.qz_cron_text.specs.Sets.{set_of}
use Rattle.qz_cron_text.specs.Runs.{has_value}
use Rattle.qz_cron_text.proofs.sets.word_of.Given as goal

abbrev pub invariant-loop-bit : goal.invariant-loop-bit
invariant-loop-bit l = l.word ≡ set_of (λ i. has_value l.field l.run (l.from + i)) l.bit
