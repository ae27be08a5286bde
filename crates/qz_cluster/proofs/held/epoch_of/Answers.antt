use Rattle.std.proofs.Common.{ap}
use Rattle.qz_types.specs.Rows.{MemberData}
use Rattle.qz_types.specs.Words.{member_of}
use Rattle.qz_cluster.proofs.FoundRows.{row_is}
use Rattle.qz_cluster.proofs.held.epoch_of.Goals as goal

pub returns-in-Some : goal.returns-in-Some
unfolding member_of
returns-in-Some c = row_is c.args.node.now c.args.held.now c.in-Some.row.now c.row.inside.epoch (ap (λ (r : MemberData). r.epoch) c.row.view_is) c.in-Some.ensures
