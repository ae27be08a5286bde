use Rattle.std.proofs.Common.{◌&&◌, refl}
use Rattle.std.proofs.lemmas.Bool.{and_parts}
use Rattle.qz_types.specs.Rows.{is_node}
use Rattle.qz_types.specs.Entries.{is_command, is_of_node}
use Rattle.qz_cluster.proofs.StepCases.{steps_of, cuts_of, all_stand}
use Rattle.qz_cluster.specs.View.{IsTold}
use Rattle.qz_cluster.proofs.clusters.Cluster.step.Goals as goal

pub node-requires-clause-valid : goal.node-requires-clause-valid
node-requires-clause-valid g c =
    let parts = and_parts (is_node c.in-Node.node && is_command c.in-Node.command) (is_of_node c.in-Node.command) (rw c.in-Node.is at c.requires) in
    (and_parts (is_node c.in-Node.node) (is_command c.in-Node.command) parts.0).1

pub node-requires-clause-node : goal.node-requires-clause-node
node-requires-clause-node g c =
    (and_parts (is_node c.in-Node.node && is_command c.in-Node.command) (is_of_node c.in-Node.command) (rw c.in-Node.is at c.requires)).1

pub returns-in-Restart-clause-ok : goal.returns-in-Restart-clause-ok
returns-in-Restart-clause-ok g c = rw c.in-Restart.is (steps_of (IsTold c.args.self.now) _ c.restart.result _ _ refl (c.restart.ensures.ok c.args.at) c.restart.ensures.standing)

pub returns-in-Restart-clause-err : goal.returns-in-Restart-clause-err
returns-in-Restart-clause-err g c = rw c.in-Restart.is (cuts_of (IsTold c.args.self.now) _ c.restart.result _ _ refl (c.restart.ensures.err c.args.at))

pub returns-in-Resume-clause-ok : goal.returns-in-Resume-clause-ok
returns-in-Resume-clause-ok g c =
    rw c.in-Resume.is (steps_of (IsTold c.args.self.now) _ c.resume.result _ _ (rw c.in-Resume.is at c.requires) (c.resume.ensures.ok c.args.at) (all_stand c.resume.result c.resume.ensures.standing))

pub returns-in-Resume-clause-err : goal.returns-in-Resume-clause-err
returns-in-Resume-clause-err g c =
    rw c.in-Resume.is (cuts_of (IsTold c.args.self.now) _ c.resume.result _ _ (rw c.in-Resume.is at c.requires) (c.resume.ensures.err c.args.at))

pub returns-in-Show-clause-ok : goal.returns-in-Show-clause-ok
returns-in-Show-clause-ok g c =
    rw c.in-Show.is (steps_of (IsTold c.args.self.now) _ c.show.result _ _ (rw c.in-Show.is at c.requires) (c.show.ensures.ok c.args.at) (all_stand c.show.result refl))

pub returns-in-Show-clause-err : goal.returns-in-Show-clause-err
returns-in-Show-clause-err g c =
    rw c.in-Show.is (cuts_of (IsTold c.args.self.now) _ c.show.result _ _ (rw c.in-Show.is at c.requires) (c.show.ensures.err c.args.at))

pub returns-in-Checkpoint-clause-ok : goal.returns-in-Checkpoint-clause-ok
returns-in-Checkpoint-clause-ok g c =
    rw c.in-Checkpoint.is (steps_of (IsTold c.args.self.now) _ c.make_checkpoint.result _ _ refl (c.make_checkpoint.ensures.ok c.args.at) (all_stand c.make_checkpoint.result c.make_checkpoint.ensures.standing))

pub returns-in-Checkpoint-clause-err : goal.returns-in-Checkpoint-clause-err
returns-in-Checkpoint-clause-err g c =
    rw c.in-Checkpoint.is (cuts_of (IsTold c.args.self.now) _ c.make_checkpoint.result _ _ refl (c.make_checkpoint.ensures.err c.args.at))
