use Rattle.std.proofs.Common.{◌≡◌, Some, subst}
use Rattle.std.specs.List.{remove, slice_get}
use Rattle.qz_tables.specs.Linking.{links_of}
use Rattle.qz_tables.specs.Links.{IsUnlinked}
use Rattle.qz_tables.specs.Slots.{rows_at}
use Rattle.qz_tables.proofs.LinkLemmas.{once-remove, by_job-remove, links-remove, taken-place}
use Rattle.qz_tables.proofs.linked.Linked.remove_nth.Goals as goal

-- the place of the slot that was taken
at : (c : goal.After-remove) → slice_get c.self.inside.linked.items c.place_in-at.result ≡ Some c.take_nth-row.result.0
at c = taken-place c.self.inside.rows.slots c.self.inside.linked.items c.slot_nth.result c.take_nth-row.result.0 c.place_in-at.result c.take_nth-row.result.1 (slice_get c.self.inside.rows.rows c.args.place)
    (rw c.in_slots-rows.ensures at c.laws.ensures.apart) (rw c.in_slots-rows.ensures at c.slot_nth.ensures) c.take_nth-row.ensures.row c.take_nth-row.ensures.was (rw c.deref.ensures.value at c.place_in-at.ensures)

pub invariant_of-self : goal.invariant_of-self
invariant_of-self c = rw c.remove.ensures.items (
  once-remove c.self.inside.rows.slots c.take_nth-row.new.self.slots c.self.inside.linked.items c.take_nth-row.result.0 c.take_nth-row.result.1 c.self.invariant.0 c.take_nth-row.ensures.was c.take_nth-row.ensures.slot c.place_in-at.result (at c),
  by_job-remove c.self.inside.rows.slots c.take_nth-row.new.self.slots c.self.inside.linked.items c.take_nth-row.result.0 c.take_nth-row.result.1 c.self.invariant.0 c.take_nth-row.ensures.was c.take_nth-row.ensures.slot c.place_in-at.result (at c) c.self.invariant.1,
)

pub returns-clause-links : goal.returns-clause-links
returns-clause-links c =
    let l = links-remove c.self.inside.rows.slots c.take_nth-row.new.self.slots c.self.inside.linked.items c.take_nth-row.result.0 c.take_nth-row.result.1 c.self.invariant.0 c.take_nth-row.ensures.was c.take_nth-row.ensures.slot c.place_in-at.result (at c) in
    rw c.remove.ensures.items (subst (λ v. IsUnlinked c.take_nth-row.result.1.spec.job c.take_nth-row.result.1.spec.key v.links (links_of (rows_at c.take_nth-row.new.self.slots (remove c.self.inside.linked.items c.place_in-at.result)))) c.self.view_is l)
