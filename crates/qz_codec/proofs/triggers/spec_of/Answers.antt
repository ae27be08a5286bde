use Rattle.std.proofs.Common.{sym, subst, ◌&&◌}
use Rattle.std.proofs.lemmas.Result.{IfOk-at_ok}
use Rattle.std.specs.Prelude.{IsTrue}
use Rattle.qz_types.specs.Rows.{is_key, is_calendar}
use Rattle.qz_values.proofs.Truths.{both_true}
use Rattle.qz_codec.proofs.triggers.spec_of.Goals as goal

pub returns-clause-valid : goal.returns-clause-valid
returns-clause-valid c =
    both_true _ _
    (subst (λ named. IsTrue (is_key named.1.0 && is_key named.1.1 && is_calendar named.0)) (sym c.in_ok-calendar-2.ensures.ok.0)
    (both_true _ _
    (both_true _ _
    (subst (λ key. IsTrue (is_key key)) (sym (IfOk-at_ok _ c.in_ok-named.ensures.ok.1 c.make_keys.ensures.first)) c.in_ok-key.ensures.valid)
    (subst (λ key. IsTrue (is_key key)) (sym (IfOk-at_ok _ c.in_ok-named.ensures.ok.1 c.make_keys.ensures.second)) c.in_ok-job.ensures.valid))
    (subst (λ calendar. IsTrue (is_calendar calendar)) (sym c.in_ok-named.ensures.ok.0) c.in_ok-calendar.ensures.valid)))
    (IfOk-at_ok _ c.in_ok-calendar-2.ensures.ok.1 c.timing_of.ensures.valid)
