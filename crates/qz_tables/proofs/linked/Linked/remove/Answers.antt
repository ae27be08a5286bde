use Rattle.std.proofs.Common.{◌≡◌, Some, length, ap, arith, sym, subst}
use Rattle.std.specs.List.{remove, slice_get}
use Rattle.qz_types.specs.Rows.{TriggerData}
use Rattle.qz_types.specs.Sorted.{row_of, IsAscending}
use Rattle.qz_types.specs.Words.{key_cmp}
use Rattle.qz_tables.specs.Linking.{links_of}
use Rattle.qz_tables.specs.Links.{IsUnlinked}
use Rattle.qz_tables.specs.Slots.{rows_at}
use Rattle.qz_tables.proofs.ByIds.{without-absent}
use Rattle.qz_tables.proofs.LinkLemmas.{once-remove, by_job-remove, links-remove, taken-place, place_within}
use Rattle.qz_tables.proofs.linked.Linked.remove.Goals as goal

pub returns-in_default-clause-rows : goal.returns-in_default-clause-rows
returns-in_default-clause-rows c = rw (← c.self.view_is) (sym (without-absent key_cmp (λ (r : TriggerData). r.spec.key) c.args.key.now c.self.inside.rows.rows (rw c.in_slots-rows.ensures at c.in_default.ensures.none)))

pub returns-in_default-clause-sorted : goal.returns-in_default-clause-sorted
returns-in_default-clause-sorted c = subst (λ v. IsAscending key_cmp (λ (r : TriggerData). r.spec.key) v.rows) c.self.view_is (rw c.in_slots-rows.ensures at c.laws.ensures.sorted)

-- the place of the slot that was taken
at : (c : goal.After-remove) → slice_get c.self.inside.linked.items c.place_in-place.result ≡ Some c.in-Some-take.field-0-0
at c = taken-place c.self.inside.rows.slots c.self.inside.linked.items c.in-Some.slot c.in-Some-take.field-0-0 c.place_in-place.result c.in-Some-take.row (row_of key_cmp (λ (r : TriggerData). r.spec.key) c.args.key.now c.self.inside.rows.rows)
    (rw c.in_slots-rows.ensures at c.laws.ensures.apart) (rw c.in_slots-rows.ensures at c.in-Some.ensures.found) c.in-Some-take.ensures.row c.in-Some-take.ensures.was (rw c.deref.ensures.value at c.place_in-place.ensures)

pub remove-requires : goal.remove-requires
remove-requires c = let l = place_within c.self.inside.linked.items c.place_in-place.result c.in-Some.slot (rw c.deref.ensures.value at c.place_in-place.ensures) in omega (arith, l, ap length c.deref.ensures.value, c.deref.ensures.len)

pub invariant_of-self : goal.invariant_of-self
invariant_of-self c = rw c.remove.ensures.items (
  once-remove c.self.inside.rows.slots c.take.new.self.slots c.self.inside.linked.items c.in-Some-take.field-0-0 c.in-Some-take.row c.self.invariant.0 c.in-Some-take.ensures.was c.in-Some-take.ensures.slot c.place_in-place.result (at c),
  by_job-remove c.self.inside.rows.slots c.take.new.self.slots c.self.inside.linked.items c.in-Some-take.field-0-0 c.in-Some-take.row c.self.invariant.0 c.in-Some-take.ensures.was c.in-Some-take.ensures.slot c.place_in-place.result (at c) c.self.invariant.1,
)

pub returns-clause-links : goal.returns-clause-links
returns-clause-links c =
    let l = links-remove c.self.inside.rows.slots c.take.new.self.slots c.self.inside.linked.items c.in-Some-take.field-0-0 c.in-Some-take.row c.self.invariant.0 c.in-Some-take.ensures.was c.in-Some-take.ensures.slot c.place_in-place.result (at c) in
    rw c.remove.ensures.items (subst (λ v. IsUnlinked c.in-Some-take.row.spec.job c.in-Some-take.row.spec.key v.links (links_of (rows_at c.take.new.self.slots (remove c.self.inside.linked.items c.place_in-place.result)))) c.self.view_is l)
