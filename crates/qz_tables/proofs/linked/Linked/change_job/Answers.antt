use Rattle.std.proofs.Common.{ap, subst, sym, ◌∙◌}
use Rattle.qz_types.specs.Changes.{with_states}
use Rattle.qz_types.specs.Words.{same_key}
use Rattle.qz_tables.specs.Changes.{changed}
use Rattle.qz_tables.specs.Linking.{links_of}
use Rattle.qz_tables.specs.Links.{KeepsLinks}
use Rattle.qz_tables.specs.Slots.{rows_at}
use Rattle.qz_tables.specs.declared.edits.TriggerEdit.TheVariants.{State}
use Rattle.qz_tables.proofs.JobRanges.{filled-here, apart-here, is-one, job-changed, alike-in}
use Rattle.qz_tables.proofs.LinkLemmas.{AreAlike, once-alike, by_job-alike, links-alike}
use Rattle.qz_tables.proofs.linked.Linked.change_job.Goals as goal

pub change_slots-requires-clause-filled : goal.change_slots-requires-clause-filled
change_slots-requires-clause-filled c = filled-here c.args.job.now c.self.inside.rows.slots c.self.inside.linked.items c.slots_of-slots.result.now c.self.invariant.0 (rw (c.in_slots-2.ensures, c.deref.ensures.value) at c.slots_of-slots.ensures)

pub change_slots-requires-clause-apart : goal.change_slots-requires-clause-apart
change_slots-requires-clause-apart c = apart-here c.args.job.now c.self.inside.rows.slots c.self.inside.linked.items c.slots_of-slots.result.now c.self.invariant.0 (rw (c.in_slots-2.ensures, c.deref.ensures.value) at c.slots_of-slots.ensures)

alike : (c : goal.After-laws-2) → AreAlike c.self.inside.rows.slots c.change_slots.new.rows.slots
alike c = alike-in (State c.args.change) c.slots_of-slots.result.now c.self.inside.rows.slots c.change_slots.new.rows.slots c.change_slots.ensures.each

pub invariant_of-self : goal.invariant_of-self
invariant_of-self c = (once-alike c.self.inside.rows.slots c.change_slots.new.rows.slots c.self.inside.linked.items (alike c) c.self.invariant.0, by_job-alike c.self.inside.rows.slots c.change_slots.new.rows.slots c.self.inside.linked.items (alike c) c.self.invariant.1)

pub returns-clause-rows : goal.returns-clause-rows
returns-clause-rows c =
    let before = rw c.in_slots.ensures at c.laws.ensures.placed in
    let after = rw c.in_slots-3.ensures at c.laws-2.ensures.placed in
    let changed_is = job-changed (changed c.args.change) c.args.job.now c.self.inside.rows.slots c.change_slots.new.rows.slots c.slots_of-slots.result.now c.change_slots.ensures.each
    (λ s t is. is-one c.args.job.now c.self.inside.rows.slots c.self.inside.linked.items c.slots_of-slots.result.now c.self.invariant.0 (rw (c.in_slots-2.ensures, c.deref.ensures.value) at c.slots_of-slots.ensures) s t is) in
    after ∙ ap (rows_at c.change_slots.new.rows.slots) c.change_slots.ensures.order ∙ changed_is c.self.inside.rows.order
    ∙ ap (with_states (changed c.args.change) (λ t. same_key c.args.job.now t.spec.job)) (sym before) ∙ ap (λ v. with_states (changed c.args.change) (λ t. same_key c.args.job.now t.spec.job) v.rows) c.self.view_is

pub returns-clause-links : goal.returns-clause-links
returns-clause-links c =
    let l = links-alike c.self.inside.rows.slots c.change_slots.new.rows.slots c.self.inside.linked.items (alike c) in
    subst (λ v. KeepsLinks v.links (links_of (rows_at c.change_slots.new.rows.slots c.self.inside.linked.items))) c.self.view_is l
