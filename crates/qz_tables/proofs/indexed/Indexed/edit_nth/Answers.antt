use Rattle.std.specs.Prelude.{IsSome, None}
use Rattle.std.specs.List.{slice_get}
use Rattle.std.proofs.Common.{Option, ◌≡◌, ◌<◌, length, get_or, Some, sym, ap, ◌∙◌, arith}
use Rattle.qz_tables.specs.Changes.{changed_nth}
use Rattle.qz_tables.proofs.Filled.{filled_at, length-rows, nth_row}
use Rattle.qz_tables.proofs.NthEdits.{changed-slot}
use Rattle.qz_tables.proofs.indexed.Indexed.edit_nth.Goals as goal
use Rattle.qz_tables.proofs.OnceLemmas.{once-set}

none_some : {X : Type 0} (o : Option X) → IsSome o → o ≡ None → ⊥
none_some {X} o f e = let g : IsSome {T = X} None = rw e at f in cc

pub slot_at-slot-requires : goal.slot_at-slot-requires
slot_at-slot-requires g c =
    let length_is = length-rows c.self.inside.rows.slots c.self.inside.order.items c.self.invariant.1 in
    let rows_are = ap (λ v. length v.rows) c.self.view_is in
    let lt : c.args.place < length c.self.inside.order.items = omega (arith, c.requires.present, length_is, rows_are) in
    rw c.deref.ensures.value lt

pub unreachable-requires : goal.unreachable-requires
unreachable-requires g c =
    let length_is = length-rows c.self.inside.rows.slots c.self.inside.order.items c.self.invariant.1 in
    let rows_are = ap (λ v. length v.rows) c.self.view_is in
    let lt : c.args.place < length c.self.inside.order.items = omega (arith, c.requires.present, length_is, rows_are) in
    let s : c.slot_at-slot.result ≡ get_or c.self.inside.order.items c.args.place 0 = rw c.deref.ensures.value at c.slot_at-slot.ensures in
    let v : IsSome (get_or c.self.inside.rows.slots c.slot_at-slot.result None) = rw s (filled_at c.self.inside.rows.slots c.self.inside.order.items c.args.place c.self.invariant.1 lt) in
    none_some _ v (sym (rw c.in_default.is at c.get_mut.ensures.value))

pub edit-requires : goal.edit-requires
edit-requires g c =
    let length_is = length-rows c.self.inside.rows.slots c.self.inside.order.items c.self.invariant.1 in
    let rows_are = ap (λ v. length v.rows) c.self.view_is in
    let lt : c.args.place < length c.self.inside.order.items = omega (arith, c.requires.present, length_is, rows_are) in
    let s : c.slot_at-slot.result ≡ get_or c.self.inside.order.items c.args.place 0 = rw c.deref.ensures.value at c.slot_at-slot.ensures in
    let value : Some c.in-Some.row.now ≡ get_or c.self.inside.rows.slots c.slot_at-slot.result None = c.in-Some.ensures.value in
    c.requires.fit c.in-Some.row.now (ap (λ v. slice_get v.rows c.args.place) (sym c.self.view_is) ∙ nth_row c.self.inside.rows.slots c.self.inside.order.items c.args.place c.slot_at-slot.result c.self.invariant.1 lt s ∙ sym value)

pub invariant_of-self : goal.invariant_of-self
invariant_of-self g c =
    let length_is = length-rows c.self.inside.rows.slots c.self.inside.order.items c.self.invariant.1 in
    let rows_are = ap (λ v. length v.rows) c.self.view_is in
    let lt : c.args.place < length c.self.inside.order.items = omega (arith, c.requires.present, length_is, rows_are) in
    let s : c.slot_at-slot.result ≡ get_or c.self.inside.order.items c.args.place 0 = rw c.deref.ensures.value at c.slot_at-slot.ensures in
    let was : get_or c.self.inside.rows.slots (get_or c.self.inside.order.items c.args.place 0) None ≡ Some c.in-Some.row.now = rw (← s) (sym c.in-Some.ensures.value) in
    let i = changed-slot g.R.Id.Ord.cmp g.R.Keyed.id g.met.R.Id.Ord.total c.self.inside.rows.slots c.self.inside.order.items c.args.place (g.E.Edit.edited c.args.edit.now) c.in-Some.row.now c.self.invariant.1 c.self.invariant.0 (λ x. g.met.E.Edit.keeps_id c.args.edit.now x) lt was in
    rw (s, c.edit.ensures) (i.ascending, i.filled, once-set c.self.inside.rows.slots c.self.inside.order.items (get_or c.self.inside.order.items c.args.place 0) c.in-Some.row.now (g.E.Edit.edited c.args.edit.now c.in-Some.row.now) was c.self.invariant.2)

pub returns-clause-rows : goal.returns-clause-rows
returns-clause-rows g c =
    let length_is = length-rows c.self.inside.rows.slots c.self.inside.order.items c.self.invariant.1 in
    let rows_are = ap (λ v. length v.rows) c.self.view_is in
    let lt : c.args.place < length c.self.inside.order.items = omega (arith, c.requires.present, length_is, rows_are) in
    let s : c.slot_at-slot.result ≡ get_or c.self.inside.order.items c.args.place 0 = rw c.deref.ensures.value at c.slot_at-slot.ensures in
    let was : get_or c.self.inside.rows.slots (get_or c.self.inside.order.items c.args.place 0) None ≡ Some c.in-Some.row.now = rw (← s) (sym c.in-Some.ensures.value) in
    let i = changed-slot g.R.Id.Ord.cmp g.R.Keyed.id g.met.R.Id.Ord.total c.self.inside.rows.slots c.self.inside.order.items c.args.place (g.E.Edit.edited c.args.edit.now) c.in-Some.row.now c.self.invariant.1 c.self.invariant.0 (λ x. g.met.E.Edit.keeps_id c.args.edit.now x) lt was in
    rw (s, c.edit.ensures, i.rows) (ap (λ v. changed_nth (g.E.Edit.edited c.args.edit.now) c.args.place v.rows) c.self.view_is)

pub returns-clause-was : goal.returns-clause-was
returns-clause-was g c =
    let length_is = length-rows c.self.inside.rows.slots c.self.inside.order.items c.self.invariant.1 in
    let rows_are = ap (λ v. length v.rows) c.self.view_is in
    let lt : c.args.place < length c.self.inside.order.items = omega (arith, c.requires.present, length_is, rows_are) in
    let s : c.slot_at-slot.result ≡ get_or c.self.inside.order.items c.args.place 0 = rw c.deref.ensures.value at c.slot_at-slot.ensures in
    rw (← c.self.view_is) (sym (nth_row c.self.inside.rows.slots c.self.inside.order.items c.args.place c.slot_at-slot.result c.self.invariant.1 lt s))
