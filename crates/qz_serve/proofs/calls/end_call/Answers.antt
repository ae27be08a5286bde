use Rattle.std.proofs.Common.{Some}
use Rattle.qz_top.proofs.NodeRestLaws.{rests_read, rests_write}
use Rattle.qz_serve.proofs.calls.end_call.Goals as goal

pub returns-clause-ended : goal.returns-clause-ended
returns-clause-ended g c looks opened begins planned = record {
  told_as = c.tell-told.result;
  told = c.tell-told.ensures.status;
  written = c.tell-told.ensures.written looks opened begins planned;
  rested = c.rest_nodes-status.new.triggers;
  rests = c.rest_nodes-status.ensures.rests;
  any_moment = c.rest_nodes-status.ensures.any_moment;
  disks = λ i. Some (c.give_back.ensures.disk i, c.into_disk.ensures i);
  next = λ is still honest w on. c.give_back.ensures.short honest still w on (c.rest_nodes-status.ensures.few is still);
}

pub returns-clause-read : goal.returns-clause-read
returns-clause-read g c is = rests_read _ _ _ _ _ c.requires.status c.tell-told.ensures.status c.rest_nodes-status.ensures.rests is

pub returns-clause-write : goal.returns-clause-write
returns-clause-write g c is = c.tell-told.ensures.write (rests_write _ _ _ _ c.rest_nodes-status.ensures.rests is)
