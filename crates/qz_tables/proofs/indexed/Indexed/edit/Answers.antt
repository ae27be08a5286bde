use Rattle.std.proofs.Common.{◌≡◌, Some, None, get_or, set, sym, ap, subst, ◌∙◌}
use Rattle.qz_types.specs.Sorted.{row_of}
use Rattle.qz_tables.specs.Ids.{changed_at}
use Rattle.qz_tables.specs.Slots.{rows_at}
use Rattle.qz_tables.proofs.ByIds.{own_id, found_id, changed_at-absent}
use Rattle.qz_tables.proofs.SlotEdits.{Edited, set_in_place}
use Rattle.qz_tables.proofs.OnceLemmas.{found_slot, once-set}
use Rattle.qz_tables.proofs.indexed.Indexed.edit.Goals as goal

pub returns-in_err-slot-clause-rows : goal.returns-in_err-slot-clause-rows
returns-in_err-slot-clause-rows g c = sym (changed_at-absent g.R.Id.Ord.cmp g.R.Keyed.id c.args.id.now (g.E.Edit.edited c.args.edit.now) c.args.self.now.rows c.in_err-slot.ensures.none)

pub invariant_of-self : goal.invariant_of-self
invariant_of-self g c =
    let slots = c.self.inside.rows.slots in
    let order = c.self.inside.order.items in
    let k = c.args.id.now in
    let row = c.in-Some.row.now in
    let slot = c.in_ok-slot.slot in
    let f = g.E.Edit.edited c.args.edit.now in
    let was : get_or slots slot None ≡ Some row = sym c.in-Some.ensures.value in
    let found : get_or slots slot None ≡ row_of g.R.Id.Ord.cmp g.R.Keyed.id k (rows_at slots order) = subst (λ v. get_or v.slots c.in_ok-slot.slot None ≡ row_of g.R.Id.Ord.cmp g.R.Keyed.id c.args.id.now v.rows) (sym c.self.view_is) c.in_ok-slot.ensures.found in
    let same = found_id g.R.Id.Ord.cmp g.R.Keyed.id k row (rows_at slots order) (sym found ∙ was) in
    let s = found_slot g.R.Id.Ord.cmp g.R.Keyed.id g.met.R.Id.Ord.total slots order k slot row c.self.invariant.1 c.self.invariant.0 c.self.invariant.2 was same in
    let at = set_in_place g.R.Id.Ord.cmp g.R.Keyed.id g.met.R.Id.Ord.total slots order s.0 k f row c.self.invariant.1 c.self.invariant.0
    (λ x e. rw (g.met.E.Edit.keeps_id c.args.edit.now x) (own_id g.R.Id.Ord.cmp g.R.Keyed.id g.met.R.Id.Ord.total (g.R.Keyed.id x))) s.2 (ap (λ t. get_or slots t None) s.1 ∙ was) in
    let i : Edited g.R.Id.Ord.cmp g.R.Keyed.id g.met.R.Id.Ord.total (set slots slot (Some (f row))) order (changed_at g.R.Id.Ord.cmp g.R.Keyed.id k f (rows_at slots order)) = subst (λ t. Edited g.R.Id.Ord.cmp g.R.Keyed.id g.met.R.Id.Ord.total (set slots t (Some (f row))) order (changed_at g.R.Id.Ord.cmp g.R.Keyed.id k f (rows_at slots order))) s.1 at in
    rw c.edit.ensures (i.ascending, i.filled, once-set slots order slot row (f row) was c.self.invariant.2)

pub returns-clause-rows : goal.returns-clause-rows
returns-clause-rows g c =
    let slots = c.self.inside.rows.slots in
    let order = c.self.inside.order.items in
    let k = c.args.id.now in
    let row = c.in-Some.row.now in
    let slot = c.in_ok-slot.slot in
    let f = g.E.Edit.edited c.args.edit.now in
    let was : get_or slots slot None ≡ Some row = sym c.in-Some.ensures.value in
    let found : get_or slots slot None ≡ row_of g.R.Id.Ord.cmp g.R.Keyed.id k (rows_at slots order) = subst (λ v. get_or v.slots c.in_ok-slot.slot None ≡ row_of g.R.Id.Ord.cmp g.R.Keyed.id c.args.id.now v.rows) (sym c.self.view_is) c.in_ok-slot.ensures.found in
    let same = found_id g.R.Id.Ord.cmp g.R.Keyed.id k row (rows_at slots order) (sym found ∙ was) in
    let s = found_slot g.R.Id.Ord.cmp g.R.Keyed.id g.met.R.Id.Ord.total slots order k slot row c.self.invariant.1 c.self.invariant.0 c.self.invariant.2 was same in
    let at = set_in_place g.R.Id.Ord.cmp g.R.Keyed.id g.met.R.Id.Ord.total slots order s.0 k f row c.self.invariant.1 c.self.invariant.0
    (λ x e. rw (g.met.E.Edit.keeps_id c.args.edit.now x) (own_id g.R.Id.Ord.cmp g.R.Keyed.id g.met.R.Id.Ord.total (g.R.Keyed.id x))) s.2 (ap (λ t. get_or slots t None) s.1 ∙ was) in
    let i : Edited g.R.Id.Ord.cmp g.R.Keyed.id g.met.R.Id.Ord.total (set slots slot (Some (f row))) order (changed_at g.R.Id.Ord.cmp g.R.Keyed.id k f (rows_at slots order)) = subst (λ t. Edited g.R.Id.Ord.cmp g.R.Keyed.id g.met.R.Id.Ord.total (set slots t (Some (f row))) order (changed_at g.R.Id.Ord.cmp g.R.Keyed.id k f (rows_at slots order))) s.1 at in
    rw (c.edit.ensures, i.rows) (ap (λ v. changed_at g.R.Id.Ord.cmp g.R.Keyed.id k f v.rows) c.self.view_is)
