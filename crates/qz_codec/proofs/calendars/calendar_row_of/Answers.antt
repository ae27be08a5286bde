use Rattle.std.proofs.Common.{sym, subst, ◌∙◌, ◌&&◌}
use Rattle.std.proofs.lemmas.Result.{IfOk-at_ok}
use Rattle.std.specs.Prelude.{IsTrue}
use Rattle.qz_civil.specs.Timings.{is_name}
use Rattle.qz_types.specs.Rows.{is_calendar}
use Rattle.qz_values.proofs.Truths.{both_true}
use Rattle.qz_codec.proofs.calendars.calendar_row_of.Goals as goal

pub invariant_of-row : goal.invariant_of-row
invariant_of-row c =
    both_true _ _
    (subst (λ named. IsTrue (is_name named.1.0 && is_calendar named.0 && is_name named.1.1)) (sym c.in_ok-base-3.ensures.ok.0)
    (both_true _ _
    (both_true _ _
    (subst (λ name. IsTrue (is_name name)) (sym (IfOk-at_ok _ c.in_ok-named.ensures.ok.1 c.make_texts.ensures).0) c.in_ok-name.ensures.valid)
    (subst (λ base. IsTrue (is_calendar base)) (sym (c.in_ok-named.ensures.ok.0 ∙ c.in_ok-base-2.ensures.ok.0)) c.in_ok-base.ensures.valid))
    (subst (λ zone. IsTrue (is_name zone)) (sym (IfOk-at_ok _ c.in_ok-named.ensures.ok.1 c.make_texts.ensures).1) (IfOk-at_ok _ c.in_ok-base-2.ensures.ok.1 c.name_of-2.ensures.valid))))
    (IfOk-at_ok _ c.in_ok-base-3.ensures.ok.1 c.calendar_kind_of.ensures.valid)
