use Rattle.std.proofs.Common.{◌∙◌, ◌+◌, sym, arith, length-drop, length-append}
use Rattle.std.proofs.lemmas.List.{drop_all, take_rest}
use Rattle.qz_io.proofs.Slices.{read_front}
use Rattle.qz_io.proofs.memory.MemSourceSource.read.Goals as goal

pub returns-clause-bytes : goal.returns-clause-bytes
returns-clause-bytes c =
    let xs = c.self.inside.bytes in
    let at = c.self.inside.at in
    let n = c.min-count.result in
    let rest = c.as_slice.result.now in
    let size = rw (take_rest, length-drop, c.as_slice.ensures) at c.min-count.ensures in (
      sym c.self.view_is ∙ read_front xs rest c.copy_from_slice.new.self _ at n c.as_slice.ensures (omega arith) c.copy_from_slice.ensures.after,
      λ none some. drop_all (at + n) xs (
          omega (arith, simp (length-append, length-drop) at some, c.copy_from_slice.ensures.len)
          ),
    )
