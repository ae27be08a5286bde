use Rattle.std.proofs.Common.{◌≡◌, ◌+◌, ◌&&◌, true, false, not, cond, length, filter, take, Some, ap, ◌∙◌, arith}
use Rattle.std.proofs.lemmas.Grind.{common_steps}
use Rattle.std.specs.List.{slice_get}
use Rattle.qz_types.specs.Rows.{FiredData}
use Rattle.qz_types.specs.States.{is_acquired}
use Rattle.qz_model.specs.Tests.{is_of}
use Rattle.qz_recover.proofs.Walk.{count_one_more, counted_all}
use Rattle.qz_recover.proofs.leaving.executions_of.Goals as goal
use Rattle.qz_recover.proofs.leaving.executions_of.Goals.{then-is_execution_of, else-is_execution_of}

pub loop-place-preserved : goal.loop-place-preserved
loop-place-preserved c =
    let p = λ (f : FiredData). not (is_acquired f.state) && is_of c.args.me.now f in
    let is : slice_get c.args.tables.now.tables.fired c.loop-place.place ≡ Some c.in-Some.row.now = grind (arith, common_steps) in
    let more = count_one_more p c.args.tables.now.tables.fired c.loop-place.place c.in-Some.row.now is in
    elim c.if-is_execution_of.branch [
      | then-is_execution_of w ↦
          let passes : p c.in-Some.row.now ≡ true = cc in
          let one = more ∙ ap (λ b. length (filter p (take c.loop-place.place c.args.tables.now.tables.fired)) + cond b 1 0) passes in
          (omega (arith, one, w.count-is, c.loop-place.invariant.0), omega (arith, w.count-is, c.loop-place.invariant.1))
      | else-is_execution_of w ↦
          let fails : p c.in-Some.row.now ≡ false = cc in
          let none = more ∙ ap (λ b. length (filter p (take c.loop-place.place c.args.tables.now.tables.fired)) + cond b 1 0) fails in
          (omega (arith, none, w.count-is, c.loop-place.invariant.0), omega (arith, w.count-is, c.loop-place.invariant.1))
    ]

pub returns : goal.returns
returns c = counted_all c.args.me.now c.args.tables.now.tables.fired c.loop-place.place c.loop-place.count c.loop-place.invariant.0 (omega (arith, c.loop-place-test.false, c.len_fired-place-end.ensures))
