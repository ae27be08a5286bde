use Rattle.std.proofs.Common.{◌∙◌, List, map, sym, subst}
use Rattle.qz_pieces.proofs.FirstBad.{none_is, some_is}
use Rattle.qz_pieces.specs.Pieces.{RowBytes}
use Rattle.qz_snapshot.specs.Snapshots.{AreRowsOf}
use Rattle.qz_snapshot.proofs.Unique.{rows_once}
use Rattle.qz_snapshot.proofs.parts.read_parts.Goals as goal

pub returns-in_default-clause-none : goal.returns-in_default-clause-none
returns-in_default-clause-none c T before entries more b = none_is _ _ c.in_default.is c.in_ok-head.ensures.none b.head b.rows more b.begins

pub returns-clause-none : goal.returns-clause-none
returns-clause-none c T before entries more b =
    let read = some_is c.in_ok-head.field-0 (c.in-Some.head, c.in-Some.rows) _ c.in-Some.is c.in_ok-head.ensures.found in
    let same = rows_once (map (λ p. p.now) c.args.payloads.now) b.head c.in-Some.head b.rows c.in-Some.rows.items more read.0 b.begins read.1 in
    none_is _ _ c.in-None.is c.in_ok-parts.ensures.none T (subst (λ (l : List RowBytes). AreRowsOf l T) (same ∙ sym c.deref.ensures.value) b.rows_are)
