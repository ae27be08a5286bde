use Rattle.std.proofs.Common.{◌≡◌, ◌<◌, ◌≤◌, length, get_or, sym, ap, ◌∙◌}
use Rattle.std.specs.List.{slice_get}
use Rattle.qz_tables.proofs.Filled.{nth_row, nth_none}
use Rattle.qz_tables.proofs.indexed.Indexed.nth.Goals as goal

pub returns-in-Some : goal.returns-in-Some
returns-in-Some g c =
    let l = rw c.deref.ensures.value at c.in-Some.ensures.lookup in
    let lt : c.args.place < length c.self.inside.order.items = l.3.0 in
    let e : c.in-Some.slot.now ≡ get_or c.self.inside.order.items c.args.place 0 = l.3.1 0 in
    c.get-in-Some.ensures ∙ sym (nth_row c.self.inside.rows.slots c.self.inside.order.items c.args.place c.in-Some.slot.now c.self.invariant.1 lt e) ∙ ap (λ v. slice_get v.rows c.args.place) c.self.view_is

pub returns-in-None : goal.returns-in-None
returns-in-None g c =
    let l = rw c.deref.ensures.value at c.in-None.ensures.lookup in
    let le : length c.self.inside.order.items ≤ c.args.place = l.3 in
    nth_none c.self.inside.rows.slots c.self.inside.order.items c.args.place c.self.invariant.1 le ∙ ap (λ v. slice_get v.rows c.args.place) c.self.view_is
