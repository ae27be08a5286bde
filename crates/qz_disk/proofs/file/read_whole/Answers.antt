use Rattle.std.proofs.Common.{◌+◌, List, ℕ, sym, ◌∙◌, subst, arith}
use Rattle.std.specs.Prelude.{Ok}
use Rattle.qz_civil.specs.declared.failures.Failed.{Failed}
use Rattle.qz_disk.specs.Handle.{ReadsPart}
use Rattle.qz_disk.proofs.Transfers.{put_rest, put_rest_length, read_more}
use Rattle.qz_disk.proofs.file.read_whole.Goals as goal

pub loop-done-preserved : goal.loop-done-preserved
loop-done-preserved g c =
    let d = c.loop-done.done in
    let whole = put_rest_length d c.loop-done.into c.read_part.new.into c.read_part.auto.into in
    record {
      within = omega (arith, whole, c.in_ok-done.ensures.bound, c.loop-done.invariant.within);
      fits = omega (arith, c.in_ok-done.ensures.fits);
      later = omega (arith, c.loop-done.invariant.later, c.read_part.ensures.cause.later);
      length = c.read_part.ensures.length ∙ c.loop-done.invariant.length;
      told = λ h. subst (λ (l : List ℕ). ReadsPart {E = Failed} c.args.at (Ok (d + c.in_ok-done.field-0)) l (g.H.FileHandle.state c.args.handle.now) (g.H.FileHandle.state c.read_part.new.handle))
          (sym (put_rest d c.loop-done.into c.read_part.new.into c.loop-done.invariant.within c.read_part.auto.into))
          (read_more d _ _ _ _ _ _ _ c.loop-done.invariant.within (c.loop-done.invariant.told h) (c.in_ok-done.ensures.told h));
    }
