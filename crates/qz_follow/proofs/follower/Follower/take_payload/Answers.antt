use Rattle.qz_follow.proofs.Feeding.{keeps_taken}
use Rattle.qz_follow.specs.View.{view}
use Rattle.qz_follow.proofs.follower.Follower.take_payload.Goals as goal

pub returns-in-Ok-clause-kept : goal.returns-in-Ok-clause-kept
returns-in-Ok-clause-kept c =
    let s = c.args.self.now in
    keeps_taken (view s) (view (record { stream = s.stream; taken = c.add.new.self; fault = s.fault })) s.taken.tables.tables c.slots-slots.result c.payload.result.now c.gate-gate.result c.in-Ok.ensures.ok
