use Rattle.std.proofs.Common.{rules, ℕ, ◌<◌, arith, length, get_or, below_more}
use Rattle.qz_stream.specs.Front.{IsFrontByte}
use Rattle.qz_stream.proofs.front.first_bad.Goals as goal

pub loop-at-preserved : goal.loop-at-preserved
loop-at-preserved c = below_more (λ (at : ℕ). at < length c.args.bytes.now → IsFrontByte at (get_or c.args.bytes.now at 0)) _ c.loop-at.invariant
    (λ there. c.is_front_byte.ensures.0 (search rules))

pub returns-clause-none : goal.returns-clause-none
returns-clause-none c at lt there = c.loop-at.invariant at (omega arith) there
