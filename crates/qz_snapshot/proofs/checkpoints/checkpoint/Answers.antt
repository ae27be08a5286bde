use Rattle.std.proofs.Common.{refl}
use Rattle.qz_snapshot.proofs.Midway.{partly_none, after_part}
use Rattle.qz_snapshot.proofs.Written.{group_names, job_group_names}
use Rattle.qz_snapshot.proofs.checkpoints.checkpoint.Goals as goal

pub payloads_of-requires-clause-groups : goal.payloads_of-requires-clause-groups
payloads_of-requires-clause-groups g c = group_names c.args.tables.now.tables c.requires.valid

pub payloads_of-requires-clause-job_groups : goal.payloads_of-requires-clause-job_groups
payloads_of-requires-clause-job_groups g c = job_group_names c.args.tables.now.tables c.requires.valid

pub returns-in_err-payloads-clause-any_moment : goal.returns-in_err-payloads-clause-any_moment
returns-in_err-payloads-clause-any_moment g c h ready all holds gate_is =
    let j = c.args.journal.now in
    let s = g.D.Disk.state j.disk in
    after_part _ _ j.gate j.slots s.content all _ (record { a = j.slot_a h ready; b = j.slot_b h ready }) gate_is s s
    (partly_none _ _ s.content all _ s (g.met.D.Disk.lawful h j.disk) (j.durable h ready) refl holds)

pub returns-in_err-group-clause-any_moment : goal.returns-in_err-group-clause-any_moment
returns-in_err-group-clause-any_moment g c h ready all holds gate_is =
    let j = c.args.journal.now in
    let s = g.D.Disk.state j.disk in
    after_part _ _ j.gate j.slots s.content all _ (record { a = j.slot_a h ready; b = j.slot_b h ready }) gate_is s s
    (partly_none _ _ s.content all _ s (g.met.D.Disk.lawful h j.disk) (j.durable h ready) refl holds)

pub returns-in_default-2-clause-any_moment : goal.returns-in_default-2-clause-any_moment
returns-in_default-2-clause-any_moment g c h ready all holds gate_is =
    let j = c.args.journal.now in
    let s = g.D.Disk.state j.disk in
    after_part _ _ j.gate j.slots s.content all _ (record { a = j.slot_a h ready; b = j.slot_b h ready }) gate_is s s
    (partly_none _ _ s.content all _ s (g.met.D.Disk.lawful h j.disk) (j.durable h ready) refl holds)
