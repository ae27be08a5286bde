use Rattle.std.proofs.Common.{◌∙◌, map, sym, ap, arith}
use Rattle.std.proofs.lemmas.List.{map-append, take-map, length-map}
use Rattle.qz_snapshot.proofs.Begins.{too_few, not_cut, begins}
use Rattle.qz_snapshot.proofs.snapshots.read_snapshot.Goals as goal

pub returns-then-rest-count-clause-none : goal.returns-then-rest-count-clause-none
returns-then-rest-count-clause-none c =
    too_few (map (λ p. p.now) c.args.payloads.now) c.in-Some.first.now.now (map (λ p. p.now) c.in-Some.rest.now) c.in-Some-read_head.head (ap (λ l. map (λ p. p.now) l) c.in-Some.ensures.cases.0)
    c.in-Some-read_head.ensures.some.0 c.in-Some-read_head.ensures.some.1 (omega (arith, length-map c.in-Some.rest.now (λ p. p.now), c.if-rest-count.true))

pub returns-in-Ok-clause-found : goal.returns-in-Ok-clause-found
returns-in-Ok-clause-found c =
    let front = c.split_at.result.0.now in
    let back = c.split_at.result.1.now in
    begins (map (λ p. p.now) c.args.payloads.now) c.in-Some.first.now.now (map (λ p. p.now) c.in-Some.rest.now) (map (λ p. p.now) front) (map (λ p. p.now) back) c.in-Some-read_head.head c.in-Ok.rows.items
    (ap (λ l. map (λ p. p.now) l) c.in-Some.ensures.cases.0) c.in-Some-read_head.ensures.some.0 c.in-Some-read_head.ensures.some.1
    (ap (λ l. map (λ p. p.now) l) c.split_at.ensures.by_index.0 ∙ map-append (λ p. p.now) front back)
    (omega (arith, length-map front (λ p. p.now), c.split_at.ensures.front_len)) c.in-Ok.ensures.rows

pub returns-in-Err-Damaged-clause-none : goal.returns-in-Err-Damaged-clause-none
returns-in-Err-Damaged-clause-none c =
    let front = c.split_at.result.0.now in
    not_cut (map (λ p. p.now) c.args.payloads.now) c.in-Some.first.now.now (map (λ p. p.now) c.in-Some.rest.now) (map (λ p. p.now) front) c.in-Some-read_head.head
    (ap (λ l. map (λ p. p.now) l) c.in-Some.ensures.cases.0) c.in-Some-read_head.ensures.some.0 c.in-Some-read_head.ensures.some.1
    (ap (λ l. map (λ p. p.now) l) c.split_at.ensures.front ∙ sym (take-map (λ p. p.now) c.in-Some-read_head.head.pieces c.in-Some.rest.now))
    (rw c.in-Err-Damaged.field-0-is at c.in-Err-Damaged.ensures.refused)
