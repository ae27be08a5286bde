use Rattle.std.proofs.Common.{◌∙◌, refl, arith}
use Rattle.qz_trigger_store.specs.View.{view}
use Rattle.qz_cluster.specs.Steps.{ClusterState}
use Rattle.qz_top.specs.NodeRuns.{both}
use Rattle.qz_top.proofs.GeneratingLaws.{both_open, told_whole}
use Rattle.qz_top.proofs.NodeRestLaws.{rests_may, rests_write, rests_read, rested_kept, rested_disk_rose}
use Rattle.qz_top.proofs.gen_on_disk.work_and_sum.Goals as goal

pub tell_summary-told-requires-clause-keeps : goal.tell_summary-told-requires-clause-keeps
tell_summary-told-requires-clause-keeps g c = c.work_on-status.ensures.triggers.keeps ∙ c.requires.keeps

pub returns-clause-worked : goal.returns-clause-worked
returns-clause-worked g c =
    let left = c.work_on-status.result in
    let tell = c.tell_summary-told.ensures in
    record {
      work = left.status;
      worked_to = both left.triggers left.states;
      worked = rw c.plan_of-plan.ensures.value at c.work_on-status.ensures.worked;
      told_as = c.tell_summary-told.result;
      told = tell.status;
      written = λ none. told_whole left.triggers _ _ _ (c.work_on-status.ensures.triggers.found ∙ none) tell.written;
      rests = c.rest_nodes-status.ensures.rests;
      states_stay = refl;
    }

pub returns-clause-kept : goal.returns-clause-kept
returns-clause-kept g c =
    let work = c.work_on-status.ensures in
    let left = c.work_on-status.result in
    let rest = c.rest_nodes-status.ensures in
    (rested_kept c.args.triggers left.triggers c.rest_nodes-status.new.triggers (rests_may _ _ _ _ rest.rests) rest.any_moment work.triggers.kept, work.states.kept)

pub returns-clause-behind : goal.returns-clause-behind
returns-clause-behind g c = c.rest_nodes-status.ensures.few

pub returns-clause-disk : goal.returns-clause-disk
returns-clause-disk g c are_open status =
    let work = c.work_on-status.ensures in
    let left = c.work_on-status.result in
    let begun : ClusterState = both c.args.triggers c.args.states in
    let opened = both_open begun.triggers.is_open begun.states.is_open are_open in
    let rested = view c.rest_nodes-status.new.triggers in
    rested_disk_rose _ _ _ _ _ _ begun (both left.triggers left.states) rested begun.triggers.faults begun.states.faults c.tell_summary-told.ensures.status c.rest_nodes-status.ensures.rests status work.worked opened.0
    opened.1 work.triggers.went work.states.went (omega arith) (omega arith)

pub returns-clause-read : goal.returns-clause-read
returns-clause-read g c is = rests_read _ _ _ _ _ c.work_on-status.ensures.called c.tell_summary-told.ensures.status c.rest_nodes-status.ensures.rests is

pub returns-clause-write : goal.returns-clause-write
returns-clause-write g c is = c.tell_summary-told.ensures.write (rests_write _ _ _ _ c.rest_nodes-status.ensures.rests is)
