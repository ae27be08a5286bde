use Rattle.qz_board.proofs.Keeping.{admits, tells, takes}
use Rattle.qz_board.proofs.board.steps.admit.Goals as goal

pub reader-requires : goal.reader-requires
reader-requires g c = admits g.K.Subject.glance_of

pub tell-requires : goal.tell-requires
tell-requires g c = tells g.K.Subject.glance_of _ _

pub learn-requires-clause-rule : goal.learn-requires-clause-rule
learn-requires-clause-rule g c = takes g.K.Subject.glance_of _ _ _ _
