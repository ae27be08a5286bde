use Rattle.std.proofs.Common.{◌∙◌, refl, sym, ap, subst, arith}
use Rattle.std.specs.List.{AllByRecursion}
use Rattle.qz_cluster.specs.View.{IsTold}
use Rattle.qz_top.specs.Clients.{IsOfClient}
use Rattle.qz_top.proofs.ClientLaws.{DidFront-none, DidFront-more, DidFront-end}
use Rattle.qz_top.proofs.EndLaws.{rose_later}
use Rattle.qz_top.proofs.MomentLaws.{Shows-none, Shows-more, Shows-less}
use Rattle.qz_top.proofs.loading.do_commands.Goals as goal

pub returns-in-Err-clause-done : goal.returns-in-Err-clause-done
returns-in-Err-clause-done g c =
    DidFront-end _ _ _ _ _ _ _ _ _ _ _ _ _ _ (ap IsTold c.loop-command.invariant.4.begun) c.in-Some.ensures.steps.0 c.loop-command.invariant.3 c.in-Err.ensures.done

pub returns-in-Err-clause-shows : goal.returns-in-Err-clause-shows
returns-in-Err-clause-shows g c = Shows-more _ _ _ _ c.loop-command.invariant.4 c.in-Err.ensures.shows

pub returns-in-Err-clause-later : goal.returns-in-Err-clause-later
returns-in-Err-clause-later g c = omega (arith, c.loop-command.invariant.5, c.in-Err.ensures.later)

pub returns-in-Err-clause-write : goal.returns-in-Err-clause-write
returns-in-Err-clause-write g c is = rose_later _ _ _ c.loop-command.invariant.5 (c.in-Err.ensures.write is)

pub loop-command-init : goal.loop-command-init
loop-command-init g c =
    let same = c.into_iter-command-iterator.ensures.into_iter_gives.0 ∙ c.into_vec-command-items.ensures in
    (tt, tt, subst (AllByRecursion IsOfClient) (sym same) c.requires, DidFront-none _ _ _ _ _ _ (sym same), Shows-none _ _, omega arith)

pub loop-command-preserved : goal.loop-command-preserved
loop-command-preserved g c =
    let next = c.in-Some.ensures.steps.0 in
    let before = c.loop-command.invariant in (
      tt,
      tt,
      (subst (AllByRecursion IsOfClient) next before.2).1,
      DidFront-more _ _ _ _ _ _ _ _ _ _ _ _ next before.3 (rw before.4.begun at c.in-Ok.ensures.done),
      Shows-more _ _ _ _ before.4 (Shows-less _ _ _ _ c.in-Ok.ensures.shows (λ is. refl)),
      omega (arith, before.5, c.in-Ok.ensures.later),
    )
