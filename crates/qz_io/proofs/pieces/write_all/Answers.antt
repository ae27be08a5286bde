use Rattle.std.proofs.Common.{arith, length-drop}
use Rattle.std.proofs.lemmas.List.{take_rest}
use Rattle.std.proofs.Math.Seq.{take-add}
use Rattle.std.proofs.KnownBytes.{Appends-trans}
use Rattle.qz_io.proofs.pieces.write_all.Goals as goal

-- what one more write took goes behind what the writes before it took
pub loop-done-preserved : goal.loop-done-preserved
loop-done-preserved g c =
    let bound = rw take_rest at c.in_ok-done.ensures.bound in
    let bytes = rw take_rest at c.in_ok-done.ensures.bytes in
    record {
      later = omega (arith, c.write.ensures.cause.later);
      within = omega (arith, simp length-drop at bound);
      written = rw take-add (Appends-trans _ _ _ _ _ c.loop-done.invariant.written bytes);
    }
