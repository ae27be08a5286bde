use Rattle.std.proofs.Common.{◌≡◌, [], ◌∙◌, refl, sym, subst, arith}
use Rattle.std.proofs.lemmas.Grind.{common_steps}
use Rattle.std.specs.Vec.Iter.{into_iter_items}
use Rattle.std.specs.List.{AllByRecursion}
use Rattle.qz_top.specs.Clients.{IsOfClient}
use Rattle.qz_top.proofs.GeneratingLaws.{FilledFront-none, FilledFront-more, FilledFront-end, FilledFront-all}
use Rattle.qz_run_stores.proofs.Ways.{triggers_begin}
use Rattle.qz_top.proofs.filling.do_all.Goals as goal

pub returns-clause-filled : goal.returns-clause-filled
returns-clause-filled g c u =
    let none : into_iter_items c.loop-command.command-iterator ≡ [] = grind (arith, common_steps, c.in-None.ensures.steps.0) in
    FilledFront-all _ _ _ _ _ none (c.loop-command.invariant.3 u)

pub returns-in-Err-clause-ended : goal.returns-in-Err-clause-ended
returns-in-Err-clause-ended g c u = FilledFront-end _ _ _ _ _ _ _ _ _ c.in-Some.ensures.steps.0 (c.loop-command.invariant.3 u) (c.in-Err.ensures.ended u)

pub returns-in-Err-clause-found : goal.returns-in-Err-clause-found
returns-in-Err-clause-found g c = c.in-Err.ensures.found ∙ c.loop-command.invariant.5

pub returns-in-Err-clause-keeps : goal.returns-in-Err-clause-keeps
returns-in-Err-clause-keeps g c = c.in-Err.ensures.keeps ∙ c.loop-command.invariant.9

pub returns-in-Err-clause-grows : goal.returns-in-Err-clause-grows
returns-in-Err-clause-grows g c = omega (arith, c.loop-command.invariant.6, c.in-Err.ensures.grows)

pub returns-in-Err-clause-any_moment : goal.returns-in-Err-clause-any_moment
returns-in-Err-clause-any_moment g c = c.in-Err.ensures.any_moment c.args.triggers.now c.loop-command.invariant.6 c.loop-command.invariant.7

pub returns-in-Err-clause-current : goal.returns-in-Err-clause-current
returns-in-Err-clause-current g c current = c.in-Err.ensures.current (c.loop-command.invariant.8 current)

pub loop-command-init : goal.loop-command-init
loop-command-init g c =
    let same = c.into_iter-command-iterator.ensures.into_iter_gives.0 ∙ c.into_vec-command-items.ensures in
    (tt, tt, subst (AllByRecursion IsOfClient) (sym same) c.requires.valid, λ u. FilledFront-none _ _ _ _ (sym same), c.requires.open, refl, omega arith, triggers_begin (λ d honest. g.met.D.Disk.lawful honest d) c.args.triggers.now, λ current. current, refl)

pub loop-command-preserved : goal.loop-command-preserved
loop-command-preserved g c =
    let next = c.in-Some.ensures.steps.0 in
    let before = c.loop-command.invariant in (
      tt,
      tt,
      (subst (AllByRecursion IsOfClient) next before.2).1,
      λ u. FilledFront-more _ _ _ _ _ _ _ _ next (before.3 u) (c.in-Ok.ensures.done u),
      c.in-Ok.ensures.open,
      c.in-Ok.ensures.found ∙ before.5,
      omega (arith, before.6, c.in-Ok.ensures.grows),
      c.in-Ok.ensures.any_moment c.args.triggers.now before.6 before.7,
      λ current. c.in-Ok.ensures.current (before.8 current),
      c.in-Ok.ensures.keeps ∙ before.9,
    )
