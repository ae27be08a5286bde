use Rattle.std.proofs.Common.{◌∙◌, ◌+◌, ◌-◌, ◌++◌, ap, sym, arith, slice_range}
use Rattle.qz_io.proofs.Slices.{slice_range-join, slice_range-front, slice_range-none, length-slice_range}
use Rattle.qz_io.proofs.Scans.{moved_buffer}
use Rattle.qz_io.proofs.readers.LineReader.fill.Goals as goal

pub returns-clause-got : goal.returns-clause-got
returns-clause-got g c =
    let xs = c.read_behind.new.buffer.items in
    let at = c.self.inside.end - c.self.inside.start in
    let n = c.in_ok-count.count in
    let gets = c.in_ok-count.ensures.got in
    let front = slice_range-front xs at ∙ c.read_behind.ensures.front ∙ c.move_front.ensures.moved ∙ ap (λ r. r.pending) c.self.view_is in
    record {
      got = slice_range xs at (at + n);
      taken = gets.taken;
      kept = sym (slice_range-join xs 0 at (at + n) (omega arith) (omega arith)) ∙ ap (λ bs. bs ++ slice_range xs at (at + n)) front;
      some = length-slice_range xs at (at + n) (omega arith) gets.within ∙ (omega arith);
      none = slice_range-none xs 0;
      ended = gets.ended;
    }

pub invariant_of-self : goal.invariant_of-self
invariant_of-self g c =
    moved_buffer _ _ _ _ _ _ _ _ _ c.self.invariant c.move_front.ensures.moved c.move_front.ensures.len c.read_behind.ensures.front c.read_behind.ensures.len
    (omega arith) (omega (arith, c.self.invariant.high))

pub invariant_of-self-2 : goal.invariant_of-self-2
invariant_of-self-2 g c =
    moved_buffer _ _ _ _ _ _ _ _ _ c.self.invariant c.move_front.ensures.moved c.move_front.ensures.len c.read_behind.ensures.front c.read_behind.ensures.len
    (omega arith) (omega (arith, c.in_ok-count.ensures.got.within, c.read_behind.ensures.len, c.move_front.ensures.len, c.self.invariant.size))
