use Rattle.std.proofs.Common.{◌≤◌, length, subst, refl, arith, length-take}
use Rattle.std.specs.Prelude.{Ok, Err}
use Rattle.qz_disk.specs.declared.handle.HandleError.{HandleError}
use Rattle.qz_disk.specs.declared.handle.HandleError.TheVariants as handle
use Rattle.qz_disk.specs.Handle.{WritesPart}
use Rattle.qz_disk.proofs.ShortCalls.{write_ok, write_err}
use Rattle.qz_disk.proofs.short.ShortHandleFileHandle.write_at.Goals as goal

pub returns-in-Ok-clause-told : goal.returns-in-Ok-clause-told
returns-in-Ok-clause-told g c h =
    let k = c.min-count.result in
    let within : k ≤ length c.args.from.now = omega (arith, c.min-count.ensures) in
    subst (λ d. WritesPart {E = HandleError} c.args.at c.args.from.now (Ok k) (g.D.Disk.state d) (g.D.Disk.state c.write_at.new.self)) c.begin.ensures.disk
    (write_ok _ k _ _ _ _ _ within refl (c.in-Ok.ensures.told h))

pub returns-in-Err-clause-told : goal.returns-in-Err-clause-told
returns-in-Err-clause-told g c h =
    let k = c.min-count.result in
    subst (λ d. WritesPart {E = HandleError} c.args.at c.args.from.now (Err handle.Failed) (g.D.Disk.state d) (g.D.Disk.state c.write_at.new.self)) c.begin.ensures.disk
    (write_err _ _ _ _ _ _ _ (omega (arith, length-take k c.args.from.now)) (c.in-Err.ensures.told h))
