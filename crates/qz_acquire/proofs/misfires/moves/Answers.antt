use Rattle.std.proofs.Common.{◌≡◌, ℤ, ◌≤ℤ◌, map, w64, to_z, of_z, sym, ap, ◌∙◌, subst, arith}
use Rattle.std.specs.List.{AllByRecursion}
use Rattle.std.proofs.lemmas.Int.{to_z-of_z}
use Rattle.std.proofs.lemmas.Grind.{common_steps}
use Rattle.qz_civil.specs.declared.limits.TheConstants.{LAST}
use Rattle.qz_acquire.specs.Moves.{IsMissed}
use Rattle.qz_acquire.proofs.Missed.{all_missed, up_to_last}
use Rattle.qz_acquire.proofs.Facts.{ordered}
use Rattle.qz_acquire.proofs.Moving.{movable_answer}
use Rattle.qz_acquire.proofs.misfires.moves.Goals as goal

pub returns-clause-movable : goal.returns-clause-movable
returns-clause-movable c =
    movable_answer (λ v. v.items) c.moves_of.result c.args.tables.now.tables (to_z w64 (of_z w64 c.args.moment)) (map (λ r. r.now) c.deref.result.now) (ordered c.args.tables.now.tables c.requires.valid)
    (ap (map (λ r. r.now)) c.deref.ensures.value ∙ c.in_ok-triggers.ensures) c.moves_of.ensures.moves c.moves_of.ensures.fit

pub moves_of-requires-clause-moment : goal.moves_of-requires-clause-moment
moves_of-requires-clause-moment c =
    let moment : to_z w64 (of_z w64 c.args.moment) ≡ c.args.moment = grind (arith, common_steps, to_z-of_z) in
    subst (λ (x : ℤ). x ≤ℤ LAST) (sym moment) (up_to_last c.args.tables.now.tables c.args.moment c.requires.valid c.requires.moment)

pub moves_of-requires-clause-missed : goal.moves_of-requires-clause-missed
moves_of-requires-clause-missed c =
    subst (AllByRecursion (IsMissed (to_z w64 (of_z w64 c.args.moment)))) (sym (ap (map (λ r. r.now)) c.deref.ensures.value ∙ c.in_ok-triggers.ensures)) (all_missed c.args.tables.now.tables (to_z w64 (of_z w64 c.args.moment)) c.requires.valid)
