use Rattle.std.specs.Prelude.{IsSome, None}
use Rattle.std.specs.List.{remove, slice_get}
use Rattle.std.proofs.Common.{Option, ◌≡◌, ◌<◌, length, get_or, sym, ap, ◌∙◌, arith}
use Rattle.qz_tables.proofs.Filled.{filled_at, length-rows, nth_row}
use Rattle.qz_tables.proofs.NthEdits.{removed-slot}
use Rattle.qz_tables.proofs.indexed.Indexed.take_nth.Goals as goal
use Rattle.qz_tables.proofs.OnceLemmas.{once-remove}

none_some : {X : Type 0} (o : Option X) → IsSome o → o ≡ None → ⊥
none_some {X} o f e = let g : IsSome {T = X} None = rw e at f in cc

pub slot_at-slot-requires : goal.slot_at-slot-requires
slot_at-slot-requires g c =
    let length_is = length-rows c.self.inside.rows.slots c.self.inside.order.items c.self.invariant.1 in
    let rows_are = ap (λ v. length v.rows) c.self.view_is in
    let lt : c.args.place < length c.self.inside.order.items = omega (arith, c.requires, length_is, rows_are) in
    rw c.deref.ensures.value lt

pub remove-requires : goal.remove-requires
remove-requires g c =
    let length_is = length-rows c.self.inside.rows.slots c.self.inside.order.items c.self.invariant.1 in
    let rows_are = ap (λ v. length v.rows) c.self.view_is in
    let lt : c.args.place < length c.self.inside.order.items = omega (arith, c.requires, length_is, rows_are) in
    let value = ap length c.deref.ensures.value in
    let vec = c.deref.ensures.len in
    omega (arith, lt, value, vec)

pub unreachable-requires : goal.unreachable-requires
unreachable-requires g c =
    let length_is = length-rows c.self.inside.rows.slots c.self.inside.order.items c.self.invariant.1 in
    let rows_are = ap (λ v. length v.rows) c.self.view_is in
    let lt : c.args.place < length c.self.inside.order.items = omega (arith, c.requires, length_is, rows_are) in
    let s : c.slot_at-slot.result ≡ get_or c.self.inside.order.items c.args.place 0 = rw c.deref.ensures.value at c.slot_at-slot.ensures in
    let v : IsSome (get_or c.self.inside.rows.slots c.slot_at-slot.result None) = rw s (filled_at c.self.inside.rows.slots c.self.inside.order.items c.args.place c.self.invariant.1 lt) in
    none_some _ v (sym c.in-None.ensures.value)

pub invariant_of-self : goal.invariant_of-self
invariant_of-self g c =
    let length_is = length-rows c.self.inside.rows.slots c.self.inside.order.items c.self.invariant.1 in
    let rows_are = ap (λ v. length v.rows) c.self.view_is in
    let lt : c.args.place < length c.self.inside.order.items = omega (arith, c.requires, length_is, rows_are) in
    let s : c.slot_at-slot.result ≡ get_or c.self.inside.order.items c.args.place 0 = rw c.deref.ensures.value at c.slot_at-slot.ensures in
    let i = removed-slot g.R.Id.Ord.cmp g.R.Keyed.id g.met.R.Id.Ord.total c.self.inside.rows.slots c.try_remove.new.self.slots c.self.inside.order.items c.args.place c.self.invariant.1 c.self.invariant.0 lt (λ other differs. c.try_remove.ensures.updates.others other (λ e. differs (e ∙ s))) in
    let filled : IsSome (get_or c.self.inside.rows.slots c.slot_at-slot.result None) = rw s (filled_at c.self.inside.rows.slots c.self.inside.order.items c.args.place c.self.invariant.1 lt) in
    let o = once-remove c.self.inside.rows.slots c.try_remove.new.self.slots c.self.inside.order.items c.slot_at-slot.result c.args.place c.self.invariant.2 lt (sym s) filled c.try_remove.ensures.updates.changed c.try_remove.ensures.updates.others in
    rw c.remove.ensures.items (i.ascending, i.filled, o)

pub returns-clause-row : goal.returns-clause-row
returns-clause-row g c =
    let length_is = length-rows c.self.inside.rows.slots c.self.inside.order.items c.self.invariant.1 in
    let rows_are = ap (λ v. length v.rows) c.self.view_is in
    let lt : c.args.place < length c.self.inside.order.items = omega (arith, c.requires, length_is, rows_are) in
    let s : c.slot_at-slot.result ≡ get_or c.self.inside.order.items c.args.place 0 = rw c.deref.ensures.value at c.slot_at-slot.ensures in
    c.in-Some.ensures.value ∙ sym (nth_row c.self.inside.rows.slots c.self.inside.order.items c.args.place c.slot_at-slot.result c.self.invariant.1 lt s) ∙ ap (λ v. slice_get v.rows c.args.place) c.self.view_is

pub returns-clause-rows : goal.returns-clause-rows
returns-clause-rows g c =
    let length_is = length-rows c.self.inside.rows.slots c.self.inside.order.items c.self.invariant.1 in
    let rows_are = ap (λ v. length v.rows) c.self.view_is in
    let lt : c.args.place < length c.self.inside.order.items = omega (arith, c.requires, length_is, rows_are) in
    let s : c.slot_at-slot.result ≡ get_or c.self.inside.order.items c.args.place 0 = rw c.deref.ensures.value at c.slot_at-slot.ensures in
    let i = removed-slot g.R.Id.Ord.cmp g.R.Keyed.id g.met.R.Id.Ord.total c.self.inside.rows.slots c.try_remove.new.self.slots c.self.inside.order.items c.args.place c.self.invariant.1 c.self.invariant.0 lt (λ other differs. c.try_remove.ensures.updates.others other (λ e. differs (e ∙ s))) in
    rw (c.remove.ensures.items, i.rows) (ap (λ v. remove v.rows c.args.place) c.self.view_is)
