use Rattle.std.proofs.Common.{◌≡◌, Some, None, ◌∷◌, true, not, get_or, ap, sym, ◌∙◌}
use Rattle.std.specs.List.{slice_get}
use Rattle.qz_types.specs.Words.{same_key}
use Rattle.qz_tables.specs.Slots.{AreFilled}
use Rattle.qz_tables.proofs.JobRanges.{none-first, some-first, filled-here, first-here, none-here, filter-removed, one-fewer, same_job_is}
use Rattle.qz_tables.proofs.linked.Linked.remove_first.Goals as goal

pub returns-in_default-clause-none : goal.returns-in_default-clause-none
returns-in_default-clause-none c =
    let placed = rw c.in_slots-rows.ensures at c.laws.ensures.placed in
    rw (← c.self.view_is, placed) (none-here c.args.job.now c.self.inside.rows.slots c.self.inside.linked.items c.slots_of.result.now c.self.invariant.0 (rw (c.in_slots-rows.ensures, c.deref.ensures.value) at c.slots_of.ensures) (none-first c.slots_of.result.now c.in_default.ensures.value) c.self.inside.rows.order)

pub place_at-place-requires : goal.place_at-place-requires
place_at-place-requires c =
    let f = filled-here c.args.job.now c.self.inside.rows.slots c.self.inside.linked.items c.slots_of.result.now c.self.invariant.0 (rw (c.in_slots-rows.ensures, c.deref.ensures.value) at c.slots_of.ensures) in
    let r = some-first c.slots_of.result.now c.in-Some.slot.now c.in-Some.ensures.value in
    let first : AreFilled c.self.inside.rows.slots (c.in-Some.slot.now ∷ r.0) = rw r.1 at f in
    rw c.in_slots-rows.ensures first.0

-- the trigger that is taken out is of the job, and stood at the place
of_it : (c : goal.After-remove_nth) → same_key c.args.job.now c.remove_nth.result.spec.job ≡ true
of_it c =
    let r = some-first c.slots_of.result.now c.in-Some.slot.now c.in-Some.ensures.value in
    let row : slice_get c.self.inside.rows.rows c.place_at-place.result ≡ get_or c.self.inside.rows.slots c.in-Some.slot.now None = rw c.in_slots-rows.ensures at c.place_at-place.ensures.row in
    let told : Some c.remove_nth.result ≡ slice_get c.self.inside.rows.rows c.place_at-place.result = rw (← c.self.view_is) at c.remove_nth.ensures.row in
    first-here c.args.job.now c.self.inside.rows.slots c.self.inside.linked.items c.slots_of.result.now c.self.invariant.0 (rw (c.in_slots-rows.ensures, c.deref.ensures.value) at c.slots_of.ensures) c.in-Some.slot.now r.0 c.remove_nth.result r.1 (sym (told ∙ row))

pub returns-clause-rows : goal.returns-clause-rows
returns-clause-rows c = rw c.remove_nth.ensures.rows (filter-removed (λ t. not (same_key c.args.job.now t.spec.job)) c.args.self.now.rows c.place_at-place.result c.remove_nth.result (sym c.remove_nth.ensures.row) (ap not (of_it c)))

pub returns-clause-fewer : goal.returns-clause-fewer
returns-clause-fewer c = rw c.remove_nth.ensures.rows (one-fewer c.args.self.now.rows c.place_at-place.result c.remove_nth.result (sym c.remove_nth.ensures.row))

pub returns-clause-links : goal.returns-clause-links
returns-clause-links c = λ other differs. c.remove_nth.ensures.links.others other (λ e. differs (e ∙ same_job_is c.args.job.now c.remove_nth.result.spec.job (of_it c)))
