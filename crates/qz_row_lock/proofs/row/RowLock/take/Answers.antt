use Rattle.std.proofs.Common.{◌++◌, sym, ap, ◌∙◌, append_assoc}
use Rattle.qz_row_lock.specs.Views.{entries_of}
use Rattle.qz_row_lock.proofs.Claims.{owned_on}
use Rattle.qz_row_lock.proofs.row.RowLock.take.Goals as goal

pub returns-clause-of : goal.returns-clause-of
returns-clause-of g c =
    let v = g.V.Logged in
    let o = c.requires.of in
    let p = c.enter.ensures.after_enter.1 in
    let s = c.enter.ensures.seen in
    let old = c.args.seat.now.token.me.0 in
    record {
      table = c.enter.ensures.of ∙ o.table;
      basis_is = ap (λ m. m.0.basis) p ∙ o.basis_is;
      base_is = ap (λ m. m.0.base) p ∙ o.base_is;
      past = o.past ++ s.0;
      seen_is = ap (λ m. m.0.seen) p ∙ s.1 ∙ ap (λ l. l ++ s.0) o.seen_is ∙ append_assoc _ o.past s.0;
      mine_is = ap (λ m. m.0.mine) p ∙ o.mine_is ∙ owned_on v.number old.ids o.past s.0 s.2 ∙ ap (λ m. entries_of v.number m.0.ids (o.past ++ s.0)) (sym p);
    }
