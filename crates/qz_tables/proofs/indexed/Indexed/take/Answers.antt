use Rattle.std.specs.Prelude.{IsSome, None}
use Rattle.std.proofs.Common.{Option, ◌≡◌, get_or, sym, ap, ◌∙◌}
use Rattle.qz_tables.specs.Ids.{without}
use Rattle.qz_tables.specs.Slots.{rows_at, IsFound}
use Rattle.qz_tables.proofs.ByIds.{without-absent}
use Rattle.qz_tables.proofs.Filled.{filled_at, any_default}
use Rattle.qz_tables.proofs.SlotEdits.{removed}
use Rattle.qz_tables.proofs.indexed.Indexed.take.Goals as goal
use Rattle.qz_tables.proofs.OnceLemmas.{once-remove}

pub invariant_of-self : goal.invariant_of-self
invariant_of-self g c =
    let f : IsFound g.R.Id.Ord.cmp g.R.Keyed.id c.self.inside.rows.slots c.self.inside.order.items c.args.id.now c.in-Some.at = rw c.deref.ensures.value at c.in-Some.ensures.found in
    let s : c.remove-slot.result ≡ get_or c.self.inside.order.items c.in-Some.at 0 = c.remove-slot.ensures.value ∙ any_default c.self.inside.order.items c.in-Some.at _ 0 f.in_range in
    let i = removed g.R.Id.Ord.cmp g.R.Keyed.id g.met.R.Id.Ord.total c.self.inside.rows.slots c.try_remove.new.self.slots c.self.inside.order.items c.in-Some.at c.args.id.now c.self.invariant.1 c.self.invariant.0 f (λ other differs. c.try_remove.ensures.updates.others other (λ e. differs (e ∙ s))) in
    let filled : IsSome (get_or c.self.inside.rows.slots c.remove-slot.result None) = rw s (filled_at c.self.inside.rows.slots c.self.inside.order.items c.in-Some.at c.self.invariant.1 f.in_range) in
    let o = once-remove c.self.inside.rows.slots c.try_remove.new.self.slots c.self.inside.order.items c.remove-slot.result c.in-Some.at c.self.invariant.2 f.in_range (sym s) filled c.try_remove.ensures.updates.changed c.try_remove.ensures.updates.others in
    rw c.remove-slot.ensures.items (i.ascending, i.filled, o)

pub returns-in-Some-try_remove-clause-rows : goal.returns-in-Some-try_remove-clause-rows
returns-in-Some-try_remove-clause-rows g c =
    let f : IsFound g.R.Id.Ord.cmp g.R.Keyed.id c.self.inside.rows.slots c.self.inside.order.items c.args.id.now c.in-Some.at = rw c.deref.ensures.value at c.in-Some.ensures.found in
    let s : c.remove-slot.result ≡ get_or c.self.inside.order.items c.in-Some.at 0 = c.remove-slot.ensures.value ∙ any_default c.self.inside.order.items c.in-Some.at _ 0 f.in_range in
    let i = removed g.R.Id.Ord.cmp g.R.Keyed.id g.met.R.Id.Ord.total c.self.inside.rows.slots c.try_remove.new.self.slots c.self.inside.order.items c.in-Some.at c.args.id.now c.self.invariant.1 c.self.invariant.0 f (λ other differs. c.try_remove.ensures.updates.others other (λ e. differs (e ∙ s))) in
    rw (c.remove-slot.ensures.items, i.rows) (ap (λ v. without g.R.Id.Ord.cmp g.R.Keyed.id c.args.id.now v.rows) c.self.view_is)

pub returns-in-None-clause-rows : goal.returns-in-None-clause-rows
returns-in-None-clause-rows g c =
    let n = rw c.deref.ensures.value at c.in-None.ensures.absent.absent in
    let w = without-absent g.R.Id.Ord.cmp g.R.Keyed.id c.args.id.now (rows_at c.self.inside.rows.slots c.self.inside.order.items) n in
    sym (ap (λ v. without g.R.Id.Ord.cmp g.R.Keyed.id c.args.id.now v.rows) (sym c.self.view_is) ∙ w ∙ ap (λ v. v.rows) c.self.view_is)

none_some : {X : Type 0} (o : Option X) → IsSome o → o ≡ None → ⊥
none_some {X} o f e = let g : IsSome {T = X} None = rw e at f in cc

pub unreachable-requires : goal.unreachable-requires
unreachable-requires g c =
    let f : IsFound g.R.Id.Ord.cmp g.R.Keyed.id c.self.inside.rows.slots c.self.inside.order.items c.args.id.now c.in-Some.at = rw c.deref.ensures.value at c.in-Some.ensures.found in
    let s : c.remove-slot.result ≡ get_or c.self.inside.order.items c.in-Some.at 0 = c.remove-slot.ensures.value ∙ any_default c.self.inside.order.items c.in-Some.at _ 0 f.in_range in
    let t = filled_at c.self.inside.rows.slots c.self.inside.order.items c.in-Some.at c.self.invariant.1 f.in_range in
    let v : IsSome (get_or c.self.inside.rows.slots c.remove-slot.result None) = rw s t in
    none_some _ v (sym c.in-None-try_remove.ensures.value)
