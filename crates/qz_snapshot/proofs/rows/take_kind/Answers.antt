use Rattle.qz_pieces.proofs.FirstBad.{none_is}
use Rattle.qz_snapshot.proofs.RowLists.{begin_not}
use Rattle.qz_snapshot.proofs.rows.take_kind.Goals as goal

pub returns-in-None-clause-none : goal.returns-in-None-clause-none
returns-in-None-clause-none g c =
    begin_not g.R.Recorded.fields g.R.Recorded.has_record c.args.kind c.args.rows.now c.split_kind.result.0.now c.split_kind.result.1.now c.split_kind.ensures.parts c.split_kind.ensures.first c.split_kind.ensures.rest
    (none_is _ _ c.in-None.is c.in_ok-found.ensures.none)
