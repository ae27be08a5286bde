use Rattle.std.proofs.Common.{rules, ◌∙◌, ap, sym}
use Rattle.qz_document.specs.Order.{triggers_first}
use Rattle.qz_document.proofs.TextLaws.{names_read, no_names}
use Rattle.qz_document.proofs.order.triggers_come_first.Goals as goal

pub returns-in-Ok : goal.returns-in-Ok
returns-in-Ok c = c.value_comes_first.ensures ∙ ap triggers_first (sym (names_read _ _ c.in-Ok.ensures.ok.0 c.in-Ok.ensures.ok.1))

pub returns-in-Err-Invalid : goal.returns-in-Err-Invalid
returns-in-Err-Invalid c = ap triggers_first (sym (no_names _ (c.in-Err-Invalid.ensures.invalid (search rules))))
