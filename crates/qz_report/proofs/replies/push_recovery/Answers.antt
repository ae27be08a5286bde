use Rattle.std.proofs.Common.{append_assoc}
use Rattle.qz_report.proofs.replies.push_recovery.Goals as goal

pub returns : goal.returns
returns c = rw append_assoc c.write.ensures.bytes
