use Rattle.std.proofs.Common.{◌≡◌, get_or, Some, None, sym, ap, ◌∙◌}
use Rattle.qz_tables.specs.Ids.{changed_at}
use Rattle.qz_tables.specs.Slots.{IsFound}
use Rattle.qz_tables.proofs.Filled.{any_default}
use Rattle.qz_tables.proofs.SlotEdits.{set_in_place}
use Rattle.qz_tables.proofs.indexed.Indexed.change.Goals as goal
use Rattle.qz_tables.proofs.OnceLemmas.{once-set}

pub invariant_of-self : goal.invariant_of-self
invariant_of-self g c =
    let f : IsFound g.R.Id.Ord.cmp g.R.Keyed.id c.self.inside.rows.slots c.self.inside.order.items (g.R.Keyed.id c.args.row) c.in-Some.at = rw (c.deref.ensures.value, c.id.ensures) at c.in-Some.ensures.found in
    let s : c.index-slot.result.now ≡ get_or c.self.inside.order.items c.in-Some.at 0 = c.index-slot.ensures ∙ any_default c.self.inside.order.items c.in-Some.at _ 0 f.in_range in
    let was : get_or c.self.inside.rows.slots (get_or c.self.inside.order.items c.in-Some.at 0) None ≡ Some c.in-Some-get_mut.place.now = rw (← s) (sym c.in-Some-get_mut.ensures.value) in
    let i = set_in_place g.R.Id.Ord.cmp g.R.Keyed.id g.met.R.Id.Ord.total c.self.inside.rows.slots c.self.inside.order.items c.in-Some.at (g.R.Keyed.id c.args.row) (λ _. c.args.row) c.in-Some-get_mut.place.now c.self.invariant.1 c.self.invariant.0 (λ x e. e) f was in
    rw (s, c.replace.ensures.after) (i.ascending, i.filled, once-set c.self.inside.rows.slots c.self.inside.order.items (get_or c.self.inside.order.items c.in-Some.at 0) c.in-Some-get_mut.place.now c.args.row was c.self.invariant.2)

pub returns-clause-rows : goal.returns-clause-rows
returns-clause-rows g c =
    let f : IsFound g.R.Id.Ord.cmp g.R.Keyed.id c.self.inside.rows.slots c.self.inside.order.items (g.R.Keyed.id c.args.row) c.in-Some.at = rw (c.deref.ensures.value, c.id.ensures) at c.in-Some.ensures.found in
    let s : c.index-slot.result.now ≡ get_or c.self.inside.order.items c.in-Some.at 0 = c.index-slot.ensures ∙ any_default c.self.inside.order.items c.in-Some.at _ 0 f.in_range in
    let was : get_or c.self.inside.rows.slots (get_or c.self.inside.order.items c.in-Some.at 0) None ≡ Some c.in-Some-get_mut.place.now = rw (← s) (sym c.in-Some-get_mut.ensures.value) in
    let i = set_in_place g.R.Id.Ord.cmp g.R.Keyed.id g.met.R.Id.Ord.total c.self.inside.rows.slots c.self.inside.order.items c.in-Some.at (g.R.Keyed.id c.args.row) (λ _. c.args.row) c.in-Some-get_mut.place.now c.self.invariant.1 c.self.invariant.0 (λ x e. e) f was in
    rw (s, c.replace.ensures.after, i.rows) (ap (λ v. changed_at g.R.Id.Ord.cmp g.R.Keyed.id (g.R.Keyed.id c.args.row) (λ _. c.args.row) v.rows) c.self.view_is)
