use Rattle.std.proofs.Common.{map, subst, arith}
use Rattle.qz_model.specs.Invariant.{TablesValid}
use Rattle.qz_pieces.proofs.FirstBad.{none_is, some_is}
use Rattle.qz_snapshot.proofs.Unique.{snapshot_once}
use Rattle.qz_snapshot.proofs.bases.read_slices.Goals as goal

pub returns-in_default-clause-none : goal.returns-in_default-clause-none
returns-in_default-clause-none c T entries b = none_is _ _ c.in_default.is c.in_ok-head.ensures.none T b.before entries b.more b.begin

pub returns-then-head-clause-none : goal.returns-then-head-clause-none
returns-then-head-clause-none c T entries b =
    let read = some_is c.in_ok-head.field-0 (c.in-Some.head, c.in-Some.parts) _ c.in-Some.is c.in_ok-head.ensures.found in
    let same = snapshot_once (map (λ p. p.now) c.args.payloads.now) b.more read.0 T c.in-Some.parts b.before c.in-Some.head.payloads entries c.in-Some.head.entries b.begin read.1 in
    omega (arith, c.if-head.true, b.counted, same.1, same.2)

pub returns-in-None-clause-none : goal.returns-in-None-clause-none
returns-in-None-clause-none c T entries b =
    let read = some_is c.in_ok-head.field-0 (c.in-Some.head, c.in-Some.parts) _ c.in-Some.is c.in_ok-head.ensures.found in
    let same = snapshot_once (map (λ p. p.now) c.args.payloads.now) b.more read.0 T c.in-Some.parts b.before c.in-Some.head.payloads entries c.in-Some.head.entries b.begin read.1 in
    none_is _ _ c.in-None.is c.in_ok-tables.ensures.none (subst TablesValid same.0 b.valid)
