use Rattle.std.proofs.Common.{◌≡◌, ◌∙◌, ◌++◌, ◌∷◌, [], true, false, refl, sym, ap, w64, to_z, of_z, arith}
use Rattle.std.proofs.lemmas.Grind.{common_steps}
use Rattle.std.proofs.lemmas.Int.{to_z-of_z}
use Rattle.std.proofs.Math.Logic.{∥∥₁_map}
use Rattle.qz_disk.proofs.Causes.{on_ok}
use Rattle.qz_cluster.proofs.Told.{still_told}
use Rattle.qz_cluster.proofs.Under.{step_under, cut_under}
use Rattle.qz_top.specs.Seen.{states_of}
use Rattle.qz_top.specs.Trails.{is_fault}
use Rattle.qz_top.proofs.MomentLaws.{Shows-one, Shows-kept, Shows-cut}
use Rattle.qz_top.proofs.TrailLaws.{RanSteps-one}
use Rattle.qz_top.proofs.LossLaws.{fault_step_keeps}
use Rattle.qz_top.proofs.ShownLaws.{shown-push}
use Rattle.qz_top.proofs.line_handler.answer.Goals as goal
use Rattle.qz_top.proofs.line_handler.answer.Goals.{else-run-via-then-run+else-is_fault, else-run-via-else-run}

pub returns-else-run-clause-ok : goal.returns-else-run-clause-ok
returns-else-run-clause-ok g c =
    let no_fault : c.args.run.now.is_own ≡ true → is_fault c.in-Ok.reply ≡ false =
    elim c.else-run.branch [
      | else-run-via-then-run+else-is_fault w ↦ (λ own. sym w.is_fault.ensures ∙ w.if-is_fault.false)
      | else-run-via-else-run w ↦ (λ own. let bad : true ≡ false = sym own ∙ w.if-run.false in absurd cc)
    ] in
    let same : to_z w64 (of_z w64 c.args.at) ≡ c.args.at = grind (arith, common_steps, to_z-of_z) in
    RanSteps-one _ _ _ _ (step_under _ _ c.args.run.now.told _ _ _ _ (rw same at c.in-Ok.ensures.ok)) (shown-push _ _ _ (rw c.of.ensures at (c.push_reserved.ensures.items ∙ ap (λ l. l ++ c.of.result ∷ []) c.reserve.ensures.items))) refl no_fault

pub returns-else-run-clause-shows : goal.returns-else-run-clause-shows
returns-else-run-clause-shows g c =
    Shows-one _ _ _ c.of.result (c.push_reserved.ensures.items ∙ ap (λ l. l ++ c.of.result ∷ []) c.reserve.ensures.items) c.of.ensures refl refl c.in-Ok.ensures.any_moment

pub returns-then-is_err-clause-shows : goal.returns-then-is_err-clause-shows
returns-then-is_err-clause-shows g c = Shows-kept _ _ c.reserve.ensures.items refl refl refl

-- the disks are the call's own, and one failed
pub returns-then-is_fault-clause-err : goal.returns-then-is_fault-clause-err
returns-then-is_fault-clause-err g c =
    let same : to_z w64 (of_z w64 c.args.at) ≡ c.args.at = grind (arith, common_steps, to_z-of_z) in
    record {
      history = fault_step_keeps _ _ _ _ _ (sym c.is_fault.ensures ∙ c.if-is_fault.true) c.in-Ok.ensures.ok;
      trail = ap states_of c.reserve.ensures.items;
      own = refl;
      stays = λ not_own. let bad : true ≡ false = sym c.if-run.true ∙ not_own in absurd cc;
    }

pub returns-then-is_fault-clause-shows : goal.returns-then-is_fault-clause-shows
returns-then-is_fault-clause-shows g c = Shows-cut _ _ c.reserve.ensures.items refl refl c.in-Ok.ensures.any_moment

pub returns-in-Err-clause-err : goal.returns-in-Err-clause-err
returns-in-Err-clause-err g c =
    let same : to_z w64 (of_z w64 c.args.at) ≡ c.args.at = grind (arith, common_steps, to_z-of_z) in
    record { cut = cut_under _ _ c.args.run.now.told _ _ _ _ (rw same at c.in-Err.ensures.err); trail = ap states_of c.reserve.ensures.items; own = refl }

pub returns-in-Err-clause-shows : goal.returns-in-Err-clause-shows
returns-in-Err-clause-shows g c = Shows-cut _ _ c.reserve.ensures.items refl refl c.in-Err.ensures.any_moment

pub push_reserved-requires : goal.push_reserved-requires
push_reserved-requires g c = omega (arith, on_ok _ _ (sym c.if-is_err.ensures.value) c.reserve.ensures.ok)

-- disks that told what they hold still do
pub invariant_of-run-in-Ok : goal.invariant_of-run-in-Ok
invariant_of-run-in-Ok g c = record { told = λ was. ∥∥₁_map (c.args.run.now.told was) (still_told _ _ c.in-Ok.ensures.any_moment) }

pub invariant_of-run-then-is_fault : goal.invariant_of-run-then-is_fault
invariant_of-run-then-is_fault g c = record { told = λ was. ∥∥₁_map (c.args.run.now.told was) (still_told _ _ c.in-Ok.ensures.any_moment) }

pub invariant_of-run-in-Err-1 : goal.invariant_of-run-in-Err-1
invariant_of-run-in-Err-1 g c = record { told = λ was. ∥∥₁_map (c.args.run.now.told was) (still_told _ _ c.in-Err.ensures.any_moment) }
