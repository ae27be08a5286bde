use Rattle.std.proofs.Common.{◌<◌, ◌++◌, sym, ap, ◌∙◌, subst, append_assoc}
use Rattle.qz_row_lock.specs.Views.{times, entries_of, AllBear}
use Rattle.qz_row_lock.proofs.Claims.{append_cancel, owned_more}
use Rattle.qz_row_lock.specs.Seats.{seen, mine}
use Rattle.qz_row_lock.proofs.row.RowLock.give.Goals as goal

pub returns-clause-of : goal.returns-clause-of
returns-clause-of g c =
    let v = g.V.Logged in
    let o = c.requires.of in
    let on = c.requires.goes_on in
    let l = c.leave.ensures.after_leave in
    let p = l.2 in
    let s = c.args.seat.now in
    let old = s.token.me.0 in
    let same = append_cancel old.seen on.further l.0 (sym on.log_is ∙ l.1) in
    let bear = subst (AllBear v.number s.number) same on.bear in
    let own = subst (λ n. 0 < times n old.ids) s.counts.0 s.ready.3 in
    record {
      table = c.leave.ensures.of ∙ o.table;
      basis_is = ap (λ m. m.0.basis) p ∙ o.basis_is;
      base_is = ap (λ m. m.0.base) p ∙ o.base_is;
      past = o.past ++ l.0;
      seen_is = ap (λ m. m.0.seen) p ∙ l.1 ∙ ap (λ k. k ++ l.0) o.seen_is ∙ append_assoc _ o.past l.0;
      mine_is = ap (λ m. m.0.mine) p ∙ owned_more v.number s.number old.ids o.past l.0 old.mine o.mine_is bear own ∙ ap (λ m. entries_of v.number m.0.ids (o.past ++ l.0)) (sym p);
    }

pub returns-clause-mine : goal.returns-clause-mine
returns-clause-mine g c further is =
    let l = c.leave.ensures.after_leave in
    ap (λ m. m.0.mine) l.2 ∙ ap (λ f. mine c.args.seat.now ++ f) (append_cancel (seen c.args.seat.now) l.0 further (sym l.1 ∙ is))
