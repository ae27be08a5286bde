use Rattle.std.proofs.Common.{◌≡◌, IfErr, sym, subst, arith}
use Rattle.std.proofs.lemmas.Grind.{common_steps}
use Rattle.qz_types.specs.Outcomes.{Outcome, IsErrorOf}
use Rattle.qz_types.specs.Tables.{recorded_moment}
use Rattle.qz_model.specs.Completing.{complete}
use Rattle.qz_model.specs.Transaction.{transaction}
use Rattle.qz_complete.proofs.prepare.Goals as goal

pub returns-in-Node-clause-cause : goal.returns-in-Node-clause-cause
returns-in-Node-clause-cause c =
    let T = c.args.tables.now.tables in
    let m = recorded_moment T c.args.entry.now.at in
    let is : transaction T c.args.entry.now ≡ complete T m c.in-Node.me c.in-Complete.number c.in-Complete.code = grind (arith, common_steps) in
    subst (λ (o : Outcome). IfErr c.prepare_complete.result (IsErrorOf o)) (sym is) (c.prepare_complete.ensures.cause m)
