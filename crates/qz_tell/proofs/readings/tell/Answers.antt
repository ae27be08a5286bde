use Rattle.qz_tell.proofs.Flushes.{ends_by, hands_after, reads_by, tells_by, wrote_by}
use Rattle.qz_tell.proofs.readings.tell.Goals as goal

pub returns-clause-told : goal.returns-clause-told
returns-clause-told g c opened stands =
    let read = c.read-told in
    let flush = c.hand_on-status in
    tells_by g.D.Disk.honest c.args.from opened (g.K.Sink.held c.args.out.now) (g.K.Sink.held read.new.out) (g.K.Sink.held flush.new.out) flush.result.0 flush.result.1 read.result.0
    (read.ensures.all opened stands) (read.ensures.part opened stands) flush.ensures.kept flush.ensures.ok flush.ensures.none

pub returns-clause-ends : goal.returns-clause-ends
returns-clause-ends g c opened stands = ends_by g.D.Disk.honest c.hand_on-status.result.0 c.read-told.result.0 (c.read-told.ensures.ends opened stands) c.hand_on-status.ensures.err

pub returns-clause-reads : goal.returns-clause-reads
returns-clause-reads g c p = reads_by c.hand_on-status.result.0 c.read-told.result.0 _ _ c.hand_on-status.ensures.same (c.read-told.ensures.reads p)

pub returns-clause-write : goal.returns-clause-write
returns-clause-write g c is =
    wrote_by c.read-told.result.0 _ _ _ c.read-told.ensures.later_out c.hand_on-status.ensures.later c.read-told.ensures.write (c.hand_on-status.ensures.write is)

pub returns-clause-handed : goal.returns-clause-handed
returns-clause-handed g c = hands_after g.K.Sink c.args.out.now c.read-told.new.out c.hand_on-status.new.out c.read-told.ensures.later_out c.hand_on-status.ensures.handed
