use Rattle.std.proofs.Common.{◌≡◌, ◌<◌, length, get_or, sym, ap, arith}
use Rattle.qz_tables.proofs.Filled.{length-rows, nth_row}
use Rattle.qz_tables.proofs.indexed.Indexed.slot_nth.Goals as goal

pub slot_at-requires : goal.slot_at-requires
slot_at-requires g c =
    let length_is = length-rows c.self.inside.rows.slots c.self.inside.order.items c.self.invariant.1 in
    let rows_are = ap (λ v. length v.rows) c.self.view_is in
    let lt : c.args.place < length c.self.inside.order.items = omega (arith, c.requires, length_is, rows_are) in
    rw c.deref.ensures.value lt

pub returns : goal.returns
returns g c =
    let length_is = length-rows c.self.inside.rows.slots c.self.inside.order.items c.self.invariant.1 in
    let rows_are = ap (λ v. length v.rows) c.self.view_is in
    let lt : c.args.place < length c.self.inside.order.items = omega (arith, c.requires, length_is, rows_are) in
    let s : c.slot_at.result ≡ get_or c.self.inside.order.items c.args.place 0 = rw c.deref.ensures.value at c.slot_at.ensures in
    rw (← c.self.view_is) (sym (nth_row c.self.inside.rows.slots c.self.inside.order.items c.args.place c.slot_at.result c.self.invariant.1 lt s))
