use Rattle.std.proofs.Common.{◌/◌, refl, arith}
use Rattle.qz_cron.proofs.BitSets.{first_in_word, none_in_word}
use Rattle.qz_cron.proofs.Firsts.{first_then, none_then}
use Rattle.qz_cron.proofs.months.next_in_words.Goals as goal

pub returns-in-Some-clause-first : goal.returns-in-Some-clause-first
returns-in-Some-clause-first c =
    first_then _ c.args.from c.loop-low.low 256 _ c.loop-low.invariant.1 c.loop-low.invariant.0
    (first_in_word c.args.words.now (c.loop-low.low / 64) c.loop-low.low c.in-Some.bit refl (omega arith) c.in-Some.ensures.first)

pub loop-low-preserved : goal.loop-low-preserved
loop-low-preserved c = (
  none_then _ c.args.from c.loop-low.low _ c.loop-low.invariant.0 (none_in_word c.args.words.now (c.loop-low.low / 64) c.loop-low.low refl c.in_default.ensures.first),
  omega (arith, c.loop-low.invariant.1),
)
