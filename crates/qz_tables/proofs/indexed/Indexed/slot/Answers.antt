use Rattle.std.proofs.Common.{None, get_or, refl, sym, ◌∙◌, subst}
use Rattle.std.specs.Prelude.{IsSome}
use Rattle.std.specs.Ordering.{is_eq}
use Rattle.qz_tables.proofs.OnceLemmas.{known, row_whole}
use Rattle.qz_tables.proofs.indexed.Indexed.slot.Goals as goal

pub returns-in-Some-clause-found : goal.returns-in-Some-clause-found
returns-in-Some-clause-found g c =
    let k = known (get_or c.self.inside.rows.slots c.in-Some.slot None) (λ r. is_eq (g.R.Id.Ord.cmp c.args.id.now (g.R.Keyed.id r))) c.in-Some.ensures in
    let w = row_whole g.R.Id.Ord.cmp g.R.Keyed.id g.met.R.Id.Ord.total c.self.inside.rows.slots c.self.inside.order.items c.args.id.now k.0 c.in-Some.slot c.self.invariant.1 c.self.invariant.0 c.self.invariant.2 k.1 k.2 in
    rw (← c.self.view_is) (k.1 ∙ sym w)

pub returns-in-Some-clause-filled : goal.returns-in-Some-clause-filled
returns-in-Some-clause-filled g c =
    let k = known (get_or c.self.inside.rows.slots c.in-Some.slot None) (λ r. is_eq (g.R.Id.Ord.cmp c.args.id.now (g.R.Keyed.id r))) c.in-Some.ensures in
    rw (← c.self.view_is) (subst (λ o. IsSome o) (sym k.1) refl)
