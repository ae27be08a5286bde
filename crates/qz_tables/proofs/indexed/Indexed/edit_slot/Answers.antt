use Rattle.std.proofs.Common.{◌≡◌, true, Some, None, get_or, set, sym, ap, subst, ◌∙◌}
use Rattle.std.specs.Ordering.{is_eq}
use Rattle.qz_tables.specs.Ids.{changed_at}
use Rattle.qz_tables.specs.Slots.{rows_at}
use Rattle.qz_tables.proofs.ByIds.{own_id}
use Rattle.qz_tables.proofs.SlotEdits.{Edited, set_in_place}
use Rattle.qz_tables.proofs.OnceLemmas.{found_slot, once-set}
use Rattle.qz_tables.proofs.indexed.Indexed.edit_slot.Goals as goal

pub invariant_of-self : goal.invariant_of-self
invariant_of-self g c =
    let slots = c.self.inside.rows.slots in
    let order = c.self.inside.order.items in
    let row = c.in-Some.row.now in
    let k = g.R.Keyed.id row in
    let slot = c.args.slot in
    let f = g.E.Edit.edited c.args.edit.now in
    let was : get_or slots slot None ≡ Some row = sym c.in-Some.ensures.value in
    let same : is_eq (g.R.Id.Ord.cmp k k) ≡ true = ap is_eq (own_id g.R.Id.Ord.cmp g.R.Keyed.id g.met.R.Id.Ord.total k) in
    let s = found_slot g.R.Id.Ord.cmp g.R.Keyed.id g.met.R.Id.Ord.total slots order k slot row c.self.invariant.1 c.self.invariant.0 c.self.invariant.2 was same in
    let at = set_in_place g.R.Id.Ord.cmp g.R.Keyed.id g.met.R.Id.Ord.total slots order s.0 k f row c.self.invariant.1 c.self.invariant.0
    (λ x e. rw (g.met.E.Edit.keeps_id c.args.edit.now x) (own_id g.R.Id.Ord.cmp g.R.Keyed.id g.met.R.Id.Ord.total (g.R.Keyed.id x))) s.2 (ap (λ t. get_or slots t None) s.1 ∙ was) in
    let i : Edited g.R.Id.Ord.cmp g.R.Keyed.id g.met.R.Id.Ord.total (set slots slot (Some (f row))) order (changed_at g.R.Id.Ord.cmp g.R.Keyed.id k f (rows_at slots order)) = subst (λ t. Edited g.R.Id.Ord.cmp g.R.Keyed.id g.met.R.Id.Ord.total (set slots t (Some (f row))) order (changed_at g.R.Id.Ord.cmp g.R.Keyed.id k f (rows_at slots order))) s.1 at in
    rw c.edit.ensures (i.ascending, i.filled, once-set slots order slot row (f row) was c.self.invariant.2)
