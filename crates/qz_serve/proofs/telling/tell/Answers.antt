use Rattle.std.proofs.Common.{◌∙◌, ap, subst, sym}
use mathlib.Core.List.{IsPrefix}
use Rattle.qz_trigger_store.specs.View.{view as triggers_view}
use Rattle.qz_serve.specs.Boards.{plan_of}
use Rattle.qz_serve.proofs.Boarding.{opened_as, wrote_no_board, wrote_with, wrote_without}
use Rattle.qz_serve.proofs.telling.tell.Goals as goal

pub returns-in-NoMemory-clause-written : goal.returns-in-NoMemory-clause-written
returns-in-NoMemory-clause-written g c looks opened begins planned = wrote_no_board looks opened (triggers_view c.args.triggers.now).history _ _ begins

pub returns-in-Some-clause-written : goal.returns-in-Some-clause-written
returns-in-Some-clause-written g c looks opened begins planned =
    let entries = (triggers_view c.args.triggers.now).history.entries in
    let as_planned = ap (λ o. plan_of o) (sym c.in-Some.is) ∙ planned in
    let shown_first = subst (λ xs. IsPrefix xs entries) (sym (opened_as opened looks c.in-Some.shown as_planned)) begins in
    wrote_with opened (triggers_view c.args.triggers.now).history c.tell_after_board.result _ _ _ looks c.in-Some.shown as_planned (c.tell_after_board.ensures.written shown_first)

pub returns-in-None-clause-written : goal.returns-in-None-clause-written
returns-in-None-clause-written g c looks opened begins planned =
    wrote_without opened (triggers_view c.args.triggers.now).history c.tell_run.result _ _ _ looks (ap (λ o. plan_of o) (sym c.in-None.is) ∙ planned) c.tell_run.ensures.written
