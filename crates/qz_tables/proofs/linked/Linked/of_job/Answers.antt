use Rattle.std.proofs.Common.{ap, ◌∙◌}
use Rattle.qz_tables.specs.Links.{linked}
use Rattle.qz_tables.proofs.JobRanges.{filled-here, keys-here, permuted-here}
use Rattle.qz_tables.proofs.linked.Linked.of_job.Goals as goal

pub new-requires : goal.new-requires
new-requires c = rw c.in_slots-rows.ensures (filled-here c.args.job.now c.self.inside.rows.slots c.self.inside.linked.items c.slots_of.result.now c.self.invariant.0 (rw (c.in_slots-rows.ensures, c.deref.ensures.value) at c.slots_of.ensures))

pub returns-clause-links : goal.returns-clause-links
returns-clause-links c =
    rw (c.new.ensures, c.in_slots-rows.ensures) (keys-here c.args.job.now c.self.inside.rows.slots c.self.inside.linked.items c.slots_of.result.now c.self.invariant.0 (rw (c.in_slots-rows.ensures, c.deref.ensures.value) at c.slots_of.ensures) ∙ ap (λ v. linked c.args.job.now v.links) c.self.view_is)

pub returns-clause-rows : goal.returns-clause-rows
returns-clause-rows c =
    let placed = rw c.in_slots-rows.ensures at c.laws.ensures.placed in
    let once = rw c.in_slots-rows.ensures at c.laws.ensures.once in
    let p = permuted-here c.args.job.now c.self.inside.rows.slots c.self.inside.linked.items c.slots_of.result.now c.self.invariant.0 (rw (c.in_slots-rows.ensures, c.deref.ensures.value) at c.slots_of.ensures) c.self.inside.rows.order once in
    rw (c.new.ensures, c.in_slots-rows.ensures, ← c.self.view_is, placed) p
