use Rattle.std.proofs.Common.{◌≡◌, ◌++◌, ◌∷◌, List, [], true, false, Some, ap, sym, ◌∙◌, arith}
use Rattle.std.proofs.lemmas.Grind.{common_steps}
use Rattle.std.specs.List.{slice_get}
use Rattle.qz_types.specs.Rows.{TriggerData}
use Rattle.qz_model.specs.Recovery.{recovery_trigger}
use Rattle.qz_recover.specs.Recovering.{is_recovered_by}
use Rattle.qz_recover.proofs.RecoveryWalk.{taken_one, passed_one, taken_all, recoveries_passed, execution_span, row_number, recovered_begun}
use Rattle.qz_recover.proofs.recovery_triggers.recoveries.Goals as goal
use Rattle.qz_recover.proofs.recovery_triggers.recoveries.Goals.{then-is_recovered_by+in_ok-trigger+in_ok-push, else-is_recovered_by}

pub recovery_trigger-requires-clause-scheduled : goal.recovery_trigger-requires-clause-scheduled
recovery_trigger-requires-clause-scheduled c =
    let T = c.args.tables.now.tables in
    let f = c.in-Some.row.now in
    let is : slice_get T.fired c.loop-place.place ≡ Some f = grind (arith, common_steps) in
    let passes : is_recovered_by T.jobs c.args.member.now f ≡ true = cc in
    execution_span T c.loop-place.place f c.requires.valid is (recovered_begun T.jobs c.args.member.now f passes)

pub recovery_trigger-requires-clause-number : goal.recovery_trigger-requires-clause-number
recovery_trigger-requires-clause-number c =
    let T = c.args.tables.now.tables in
    let f = c.in-Some.row.now in
    let is : slice_get T.fired c.loop-place.place ≡ Some f = grind (arith, common_steps) in
    row_number T c.loop-place.place f c.requires.valid is

pub loop-place-preserved : goal.loop-place-preserved
loop-place-preserved c =
    let T = c.args.tables.now.tables in
    let f = c.in-Some.row.now in
    let p = is_recovered_by T.jobs c.args.member.now in
    let is : slice_get T.fired c.loop-place.place ≡ Some f = grind (arith, common_steps) in
    elim c.if-is_recovered_by.branch [
      | then-is_recovered_by+in_ok-trigger+in_ok-push w ↦
          let passes : p f ≡ true = cc in
          let grown : c.if-is_recovered_by.triggers.items ≡ c.loop-place.triggers.items ++ recovery_trigger T.paused_groups T.paused_job_groups f ∷ [] = grind (arith, common_steps) in
          grown ∙ ap (λ (ts : List TriggerData). ts ++ recovery_trigger T.paused_groups T.paused_job_groups f ∷ []) c.loop-place.invariant ∙ sym (taken_one p (recovery_trigger T.paused_groups T.paused_job_groups) T.fired c.loop-place.place f is passes)
      | else-is_recovered_by w ↦
          let fails : p f ≡ false = cc in
          let same : c.if-is_recovered_by.triggers.items ≡ c.loop-place.triggers.items = cc in
          same ∙ c.loop-place.invariant ∙ sym (passed_one p (recovery_trigger T.paused_groups T.paused_job_groups) T.fired c.loop-place.place f is fails)
    ]

pub returns : goal.returns
returns c =
    let T = c.args.tables.now.tables in
    c.loop-place.invariant
    ∙ taken_all (is_recovered_by T.jobs c.args.member.now) (recovery_trigger T.paused_groups T.paused_job_groups) T.fired c.loop-place.place (omega (arith, c.loop-place-test.false, c.len_fired-place-end.ensures))
    ∙ recoveries_passed T c.args.member.now
