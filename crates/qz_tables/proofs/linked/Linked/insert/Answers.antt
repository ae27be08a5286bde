use Rattle.std.proofs.Common.{length, ap, subst, arith}
use Rattle.std.specs.List.{insert}
use Rattle.qz_types.specs.Rows.{TriggerData}
use Rattle.qz_types.specs.Sorted.{put}
use Rattle.qz_types.specs.Words.{key_cmp}
use Rattle.qz_tables.specs.ByJob.{IsBoundOf}
use Rattle.qz_tables.specs.Linking.{links_of}
use Rattle.qz_tables.specs.Links.{IsLinked}
use Rattle.qz_tables.specs.Slots.{rows_at}
use Rattle.qz_tables.specs.declared.by_job.Bound.TheVariants.{Upper}
use Rattle.qz_tables.proofs.LinkLemmas.{once-insert, by_job-insert, links-insert}
use Rattle.qz_tables.proofs.Filled.{length-rows}
use Rattle.qz_tables.proofs.OnceLemmas.{filled-once}
use Rattle.qz_tables.proofs.linked.Linked.insert.Goals as goal

-- the place is the upper bound of the job
bound_is : (c : goal.In-Ok) → IsBoundOf (λ (t : TriggerData). t.spec.job) Upper c.args.row.spec.job (rows_at c.self.inside.rows.slots c.self.inside.linked.items) c.bound_of-place.result
bound_is c = rw (c.in_slots.ensures, c.deref.ensures.value, ap (λ (t : TriggerData). t.spec.job) c.row.view_is) at c.bound_of-place.ensures

pub bound_of-place-requires-clause-once : goal.bound_of-place-requires-clause-once
bound_of-place-requires-clause-once c = rw (c.in_slots.ensures, c.deref.ensures.value) c.self.invariant.0

pub bound_of-place-requires-clause-sorted : goal.bound_of-place-requires-clause-sorted
bound_of-place-requires-clause-sorted c = rw (c.in_slots.ensures, c.deref.ensures.value) c.self.invariant.1

pub insert-requires : goal.insert-requires
insert-requires c =
    let w = c.bound_of-place.ensures.within in
    let e = ap (λ v. length (rows_at v.slots c.deref.result.now)) c.in_slots.ensures in
    let f = ap (λ xs. length (rows_at c.self.inside.rows.slots xs)) c.deref.ensures.value in
    omega (arith, w, e, f, length-rows c.self.inside.rows.slots c.self.inside.linked.items (filled-once c.self.inside.rows.slots c.self.inside.linked.items c.self.invariant.0), ap length c.deref.ensures.value, c.deref.ensures.len)

pub invariant_of-self : goal.invariant_of-self
invariant_of-self c = rw c.in-Ok.ensures.items (
  once-insert c.self.inside.rows.slots c.insert-slot.new.self.slots c.self.inside.linked.items c.insert-slot.result c.args.row c.self.invariant.0 c.insert-slot.ensures.vacant c.insert-slot.ensures.slot c.bound_of-place.result (bound_is c),
  by_job-insert c.self.inside.rows.slots c.insert-slot.new.self.slots c.self.inside.linked.items c.insert-slot.result c.args.row c.self.invariant.0 c.insert-slot.ensures.vacant c.insert-slot.ensures.slot c.bound_of-place.result (bound_is c) c.self.invariant.1,
)

pub returns-clause-rows : goal.returns-clause-rows
returns-clause-rows c = rw c.insert-slot.ensures.rows (ap (λ v. put key_cmp (λ (r : TriggerData). r.spec.key) c.args.row v.rows) c.self.view_is)

pub returns-clause-links : goal.returns-clause-links
returns-clause-links c =
    let l = links-insert c.self.inside.rows.slots c.insert-slot.new.self.slots c.self.inside.linked.items c.insert-slot.result c.args.row c.self.invariant.0 c.insert-slot.ensures.vacant c.insert-slot.ensures.slot c.bound_of-place.result (bound_is c) in
    rw c.in-Ok.ensures.items (subst (λ v. IsLinked c.args.row.spec.job c.args.row.spec.key v.links (links_of (rows_at c.insert-slot.new.self.slots (insert c.self.inside.linked.items c.bound_of-place.result c.insert-slot.result)))) c.self.view_is l)
