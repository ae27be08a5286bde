use Rattle.std.proofs.Common.{◌≡◌, ◌+◌, true, false, cond, length, filter, take, Some, ap, ◌∙◌, arith}
use Rattle.std.proofs.lemmas.Grind.{common_steps}
use Rattle.std.proofs.lemmas.List.{take_all}
use Rattle.std.specs.List.{slice_get}
use Rattle.qz_recover.specs.Recovering.{is_recovered_by}
use Rattle.qz_recover.proofs.RecoveryWalk.{count_passed}
use Rattle.qz_recover.proofs.Walk.{count_one_more}
use Rattle.qz_recover.proofs.recovery_triggers.count_recoveries.Goals as goal
use Rattle.qz_recover.proofs.recovery_triggers.count_recoveries.Goals.{then-is_recovered_by, else-is_recovered_by}

pub loop-place-preserved : goal.loop-place-preserved
loop-place-preserved c =
    let T = c.args.tables.now.tables in
    let p = is_recovered_by T.jobs c.args.member.now in
    let is : slice_get T.fired c.loop-place.place ≡ Some c.in-Some.row.now = grind (arith, common_steps) in
    let more = count_one_more p T.fired c.loop-place.place c.in-Some.row.now is in
    elim c.if-is_recovered_by.branch [
      | then-is_recovered_by w ↦
          let passes : p c.in-Some.row.now ≡ true = cc in
          let one = more ∙ ap (λ b. length (filter p (take c.loop-place.place T.fired)) + cond b 1 0) passes in
          (omega (arith, one, w.count-is, c.loop-place.invariant.0), omega (arith, w.count-is, c.loop-place.invariant.1))
      | else-is_recovered_by w ↦
          let fails : p c.in-Some.row.now ≡ false = cc in
          let none = more ∙ ap (λ b. length (filter p (take c.loop-place.place T.fired)) + cond b 1 0) fails in
          (omega (arith, none, w.count-is, c.loop-place.invariant.0), omega (arith, w.count-is, c.loop-place.invariant.1))
    ]

pub returns : goal.returns
returns c =
    let T = c.args.tables.now.tables in
    let all : take c.loop-place.place T.fired ≡ T.fired = take_all c.loop-place.place T.fired (omega (arith, c.loop-place-test.false, c.len_fired-place-end.ensures)) in
    c.loop-place.invariant.0 ∙ ap (λ rows. length (filter (is_recovered_by T.jobs c.args.member.now) rows)) all ∙ count_passed T c.args.member.now
