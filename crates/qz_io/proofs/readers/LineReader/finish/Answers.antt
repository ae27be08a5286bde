use Rattle.std.proofs.Common.{◌≡◌, ◌∙◌, [], sym, ap, arith, slice_range, length}
use Rattle.qz_io.proofs.Slices.{slice_range-none, length-slice_range}
use Rattle.qz_io.proofs.readers.LineReader.finish.Goals as goal
use Rattle.qz_io.proofs.readers.LineReader.finish.Goals.{then-self, else-self}

pub returns : goal.returns
returns c =
    let xs = c.self.inside.buffer.items in
    let s = c.self.inside.start in
    let e = c.self.inside.end in
    let pending = ap (λ r. r.pending) c.self.view_is in
    elim c.if-self.branch [
      | then-self w ↦
          let none : slice_range xs s e ≡ [] = ap (slice_range xs s) (sym w.if-self.true) ∙ slice_range-none xs s in
          rw w.result-is (none, sym pending ∙ none, slice_range-none xs e)
      | else-self w ↦
          let long = length-slice_range xs s e (omega (arith, c.self.invariant.low, c.self.invariant.middle)) (omega (arith, c.self.invariant.size, c.self.invariant.high)) in
          rw w.result-is (
            pending,
            (λ none. w.if-self.false (omega (arith, c.self.invariant.low, c.self.invariant.middle, long, ap length (pending ∙ none)))),
            slice_range-none xs e,
          )
    ]
