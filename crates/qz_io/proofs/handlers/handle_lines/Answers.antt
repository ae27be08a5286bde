use Rattle.std.proofs.Common.{◌≡◌, ◌+◌, ◌≤◌, ◌++◌, ◌∷◌, [], arith, length, length-append}
use Rattle.qz_io.specs.declared.limits.TheConstants.{LINE_COUNT_LIMIT}
use Rattle.qz_io.proofs.LoopLaws.{HandlesLines-nothing, HandledUpTo-more, HandlesLines-whole, HandlesLines-at, HandlesLines-beyond}
use Rattle.qz_io.proofs.handlers.handle_lines.Goals as goal

pub returns-in-Err-clause-lines : goal.returns-in-Err-clause-lines
returns-in-Err-clause-lines g c = HandlesLines-nothing _ _ _

pub returns-in-Ok-false-clause-lines : goal.returns-in-Ok-false-clause-lines
returns-in-Ok-false-clause-lines g c =
    let done = c.loop-number.invariant.done in
    let last = rw c.in-Ok-false.field-0-test at c.in-Ok-false.ensures.done in
    let low : length done.0 + length last.lines ≤ LINE_COUNT_LIMIT = omega (arith, done.1, last.one) in
    HandlesLines-whole _ _ _ _ _ _ _ _ done.2 _ last low

pub returns-in-Err-handle_next-clause-lines : goal.returns-in-Err-handle_next-clause-lines
returns-in-Err-handle_next-clause-lines g c =
    let done = c.loop-number.invariant.done in
    HandlesLines-at _ _ _ _ _ _ _ _ done.2 _ _ _ _ c.in-Err-handle_next.ensures.done (omega (arith, done.1)) (omega (arith, done.1))

pub loop-number-preserved : goal.loop-number-preserved
loop-number-preserved g c =
    let done = c.loop-number.invariant.done in
    let next = rw c.in-Ok-true.field-0-test at c.in-Ok-true.ensures.done in
    record {
      reads = omega (arith, c.handle_next.ensures.reads);
      done = (done.0 ++ next.line ∷ [], simp length-append (omega (arith, done.1)), HandledUpTo-more _ _ _ _ _ _ _ _ done.2 _ _ next);
    }

pub returns-clause-lines : goal.returns-clause-lines
returns-clause-lines g c =
    let done = c.loop-number.invariant.done in
    let full : length done.0 ≡ LINE_COUNT_LIMIT = omega (arith, done.1) in
    HandlesLines-beyond _ _ _ _ _ _ _ _ done.2 _ _ c.end_of_lines.ensures.done full
