use Rattle.std.proofs.Common.{◌≡◌, ℕ, List, [], ◌∷◌, ◌++◌, ap, ◌∙◌, arith}
use Rattle.std.proofs.lemmas.Grind.{common_steps}
use Rattle.qz_pieces.specs.Pieces.{RowBytes}
use Rattle.qz_pieces.proofs.Rows.{row_with, stuck, row_more, ReadSo}
use Rattle.qz_pieces.proofs.reading.read_piece.Goals as goal

pub returns-in_default-clause-none : goal.returns-in_default-clause-none
returns-in_default-clause-none c = λ rs short whole. stuck rs c.loop-rest.rows.items c.loop-rest.rest.now c.args.piece.now c.loop-rest.invariant.reads short whole
    (let t = c.loop-rest-test.true in let e = c.is_empty-in-loop-rest.ensures in grind (arith, common_steps)) c.in_default.ensures.none

pub loop-rest-preserved : goal.loop-rest-preserved
loop-rest-preserved c =
    let r : RowBytes = record { kind = c.in-Some.kind; bytes = c.in-Some.bytes.now } in
    let some = c.in-Some.ensures.some in
    let f : c.in_ok-from_slice.field-0.items ≡ c.in-Some.bytes.now = c.in_ok-from_slice.ensures.items in
    let p : c.push.new.self.items ≡ c.loop-rest.rows.items ++ row_with c.in-Some.kind c.in-Some.bytes.now ∷ [] = c.in_ok-push.ensures.items ∙ ap (λ (xs : List ℕ). c.loop-rest.rows.items ++ row_with c.in-Some.kind xs ∷ []) f in
    let m : ReadSo c.args.piece.now c.push.new.self.items c.in-Some.after.now = row_more c.args.piece.now c.loop-rest.rows.items c.push.new.self.items r c.loop-rest.rest.now c.in-Some.after.now c.loop-rest.invariant.reads c.loop-rest.invariant.short some.0 some.1 p in
    record { reads = m.reads; short = m.short }
