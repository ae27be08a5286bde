use Rattle.std.proofs.Common.{◌+◌, ◌≤◌, List, ℕ, length, subst, arith}
use Rattle.std.specs.Prelude.{Ok, Err}
use Rattle.qz_civil.specs.declared.failures.Failed.{Failed}
use Rattle.qz_disk.specs.Handle.{WritesPart}
use Rattle.qz_disk.proofs.Transfers.{rest_is, write_more, write_done, write_broken}
use Rattle.qz_disk.proofs.file.write_whole.Goals as goal

pub returns-in_err-done-2-clause-told : goal.returns-in_err-done-2-clause-told
returns-in_err-done-2-clause-told g c h =
    let inside : c.args.at ≤ length (g.H.FileHandle.state c.args.handle.now).content = omega (arith, c.requires, g.met.H.FileHandle.whole h c.args.handle.now) in
    let d = c.loop-done.done in
    write_broken _ c.in_err-done-2.field-0.0 d _ _ _ _ _ c.from_residual-in_err-done-2.ensures.0 inside c.loop-done.invariant.within (c.loop-done.invariant.told h)
    (subst (λ (l : List ℕ). WritesPart {E = Failed} (c.args.at + d) l (Err c.in_err-done-2.field-0.0) (g.H.FileHandle.state c.loop-done.handle) (g.H.FileHandle.state c.write_part-in-loop-done.new.handle)) (rest_is d c.args.from.now) (c.in_err-done-2.ensures.told h))

pub loop-done-preserved : goal.loop-done-preserved
loop-done-preserved g c =
    let d = c.loop-done.done in
    let enough : d + c.in_ok-done-2.field-0 ≤ length c.args.from.now = omega (arith, c.in_ok-done-2.ensures.bound, c.loop-done.invariant.within) in
    record {
      within = enough;
      fits = omega (arith, c.in_ok-done-2.ensures.fits);
      later = omega (arith, c.loop-done.invariant.later, c.write_part-in-loop-done.ensures.cause.later);
      length = omega (arith, c.in_ok-done-2.ensures.length, c.loop-done.invariant.length);
      told = λ h.
          let inside : c.args.at ≤ length (g.H.FileHandle.state c.args.handle.now).content = omega (arith, c.requires, g.met.H.FileHandle.whole h c.args.handle.now) in
          write_more d _ _ _ _ _ _ inside enough (c.loop-done.invariant.told h)
          (subst (λ (l : List ℕ). WritesPart {E = Failed} (c.args.at + d) l (Ok c.in_ok-done-2.field-0) (g.H.FileHandle.state c.loop-done.handle) (g.H.FileHandle.state c.write_part-in-loop-done.new.handle)) (rest_is d c.args.from.now) (c.in_ok-done-2.ensures.told h));
    }

pub returns-clause-told : goal.returns-clause-told
returns-clause-told g c h = write_done _ _ _ _ _ _ (omega (arith, c.loop-done.invariant.within, c.loop-done-test.false)) (c.loop-done.invariant.told h)
