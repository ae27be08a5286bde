use Rattle.std.proofs.Common.{◌≡◌, [], None, refl, rules, sym, ap, subst}
use Rattle.std.specs.List.{AllByRecursion}
use Rattle.qz_row_lock.specs.Seats.{ids, mine, seen, first_value}
use Rattle.qz_serve.specs.Asking.{IsReady, deeds}
use Rattle.qz_serve.specs.Entries.{IsScheduled}
use Rattle.qz_serve.specs.Ran.{Ran, context_in}
use Rattle.qz_serve.proofs.Finished.{came_under, knows_new}
use Rattle.qz_serve.proofs.Joining.{no_deeds}
use Rattle.qz_serve.proofs.threads.working.work.Goals as goal

pub works-init : goal.works-init
works-init g c =
    let k = g.S.RowStore in
    let s = c.args.seat.now in
    let o = c.requires.of in
    let row = c.args.row.now in
    let none : deeds row s ≡ [] = no_deeds k.kind k.listed k.seat_of (k.state (first_value row).opened.value) (k.listed (k.state (first_value row).store).history) (ids s) o.past (seen s) (mine s) o.seen_is o.mine_is c.requires.new in
    record {
      work = record {
        of = o;
        home = c.requires.home;
        up_to = search rules;
        told = ap context_in (sym none);
        entries = subst (AllByRecursion (IsScheduled _ _ _ _)) (sym c.requires.new) tt;
      };
      ready = subst (λ t. IsReady t None) (sym c.new-turn.ensures) tt;
      knows = knows_new k.kind k.listed (k.state (first_value row).opened.value) _ _ _ _ _ _ (seen s) c.new-turn.ensures;
      same = record { number = refl; more = refl; parts = refl; ids = refl };
      lawful = c.requires.lawful;
      ran = subst (λ d. Ran d (g.J.NodeJobs.meanings c.args.jobs.now) (g.J.NodeJobs.meanings c.args.jobs.now)) (sym none) refl;
    }

pub returns-in-Err-clause-ended : goal.returns-in-Err-clause-ended
returns-in-Err-clause-ended g c none =
    let k = g.S.RowStore in
    came_under k.kind k.listed (k.state (first_value c.args.row.now).opened.value) (g.C.SharedClock.shows c.args.clock.now) _ c.args.until c.args.me.now _ c.step.new.seat.number (seen c.step.new.seat) (search rules) (sym c.step.ensures.same.number) (c.in-Err.ensures.ended none)
