use Rattle.std.proofs.Common.{◌≡◌, w64, to_z, of_z, IfOk, IfErr, refl, sym, ◌∙◌, subst, arith}
use Rattle.std.proofs.lemmas.Int.{to_z-of_z}
use Rattle.std.proofs.lemmas.Grind.{common_steps}
use Rattle.qz_types.specs.Outcomes.{Outcome, IsErrorOf}
use Rattle.qz_types.specs.Tables.{IsMoment, recorded_moment}
use Rattle.qz_model.specs.Acquiring.{release}
use Rattle.qz_model.specs.Transaction.{transaction}
use Rattle.qz_acquire.specs.Prepared.{committed}
use Rattle.qz_acquire.proofs.Facts.{moment_of}
use Rattle.qz_acquire.proofs.Preparing.{prepared}
use Rattle.qz_acquire.proofs.prepare.Goals as goal

pub prepare_acquire-requires-clause-moment : goal.prepare_acquire-requires-clause-moment
prepare_acquire-requires-clause-moment c =
    let read : to_z w64 (of_z w64 c.recorded_moment-moment.result) ≡ c.recorded_moment-moment.result = grind (arith, common_steps, to_z-of_z) in
    subst (IsMoment c.args.tables.now.tables.horizon) (sym (read ∙ c.recorded_moment-moment.ensures)) (moment_of c.args.tables.now.tables (to_z w64 (of_z w64 c.entry.inside.at)) c.requires.valid)

pub prepare_misfires-requires-clause-moment : goal.prepare_misfires-requires-clause-moment
prepare_misfires-requires-clause-moment c =
    let read : to_z w64 (of_z w64 c.recorded_moment-moment.result) ≡ c.recorded_moment-moment.result = grind (arith, common_steps, to_z-of_z) in
    subst (IsMoment c.args.tables.now.tables.horizon) (sym (read ∙ c.recorded_moment-moment.ensures)) (moment_of c.args.tables.now.tables (to_z w64 (of_z w64 c.entry.inside.at)) c.requires.valid)

pub returns-in-Node-actor-2-clause-ok : goal.returns-in-Node-actor-2-clause-ok
returns-in-Node-actor-2-clause-ok c =
    let T = c.args.tables.now.tables in
    let m = recorded_moment T c.args.entry.now.at in
    let is : transaction T c.args.entry.now ≡ release T m c.in-Node-actor-2.me c.in-Release.number = grind (arith, common_steps) in
    prepared c.args.tables.now c.args.tables.now c.args.entry.now c.prepare_release.result refl
    (subst (λ (o : Outcome). IfOk c.prepare_release.result (λ change. o ≡ committed T m change)) (sym is) (c.prepare_release.ensures.ok m)) c.prepare_release.ensures.possible

pub returns-in-Node-actor-2-clause-cause : goal.returns-in-Node-actor-2-clause-cause
returns-in-Node-actor-2-clause-cause c =
    let T = c.args.tables.now.tables in
    let m = recorded_moment T c.args.entry.now.at in
    let is : transaction T c.args.entry.now ≡ release T m c.in-Node-actor-2.me c.in-Release.number = grind (arith, common_steps) in
    subst (λ (o : Outcome). IfErr c.prepare_release.result (IsErrorOf o)) (sym is) (c.prepare_release.ensures.cause m)
