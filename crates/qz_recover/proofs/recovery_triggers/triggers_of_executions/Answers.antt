use Rattle.std.proofs.Common.{◌≡◌, ◌++◌, ◌∷◌, List, [], true, false, map, Some, ap, sym, ◌∙◌, arith}
use Rattle.std.proofs.lemmas.Grind.{common_steps}
use Rattle.std.specs.List.{slice_get}
use Rattle.qz_types.specs.Rows.{FiredData}
use Rattle.qz_types.specs.declared.keys.Key.{Key}
use Rattle.qz_recover.specs.Recovering.{is_execution_of}
use Rattle.qz_recover.proofs.RecoveryWalk.{taken_one, passed_one, taken_all, executions_passed}
use Rattle.qz_recover.proofs.recovery_triggers.triggers_of_executions.Goals as goal
use Rattle.qz_recover.proofs.recovery_triggers.triggers_of_executions.Goals.{then-is_execution_of+in_ok-key+in_ok-push, else-is_execution_of}

pub loop-place-preserved : goal.loop-place-preserved
loop-place-preserved c =
    let T = c.args.tables.now.tables in
    let f = c.in-Some.row.now in
    let p = is_execution_of c.args.member.now in
    let key = λ (g : FiredData). g.trigger in
    let is : slice_get T.fired c.loop-place.place ≡ Some f = grind (arith, common_steps) in
    elim c.if-is_execution_of.branch [
      | then-is_execution_of+in_ok-key+in_ok-push w ↦
          let passes : p f ≡ true = cc in
          let grown : c.if-is_execution_of.keys.items ≡ c.loop-place.keys.items ++ f.trigger ∷ [] = grind (arith, common_steps) in
          grown ∙ ap (λ (ks : List Key). ks ++ f.trigger ∷ []) c.loop-place.invariant ∙ sym (taken_one p key T.fired c.loop-place.place f is passes)
      | else-is_execution_of w ↦
          let fails : p f ≡ false = cc in
          let same : c.if-is_execution_of.keys.items ≡ c.loop-place.keys.items = cc in
          same ∙ c.loop-place.invariant ∙ sym (passed_one p key T.fired c.loop-place.place f is fails)
    ]

pub returns : goal.returns
returns c =
    let T = c.args.tables.now.tables in
    c.loop-place.invariant
    ∙ taken_all (is_execution_of c.args.member.now) (λ (f : FiredData). f.trigger) T.fired c.loop-place.place (omega (arith, c.loop-place-test.false, c.len_fired-place-end.ensures))
    ∙ ap (map (λ (f : FiredData). f.trigger)) (executions_passed c.args.member.now T.fired)
