use Rattle.std.proofs.Common.{◌≡◌, ◌∙◌, ◌+◌, ◌∷◌, ◌++◌, [], ℕ, List, map, take, sym, ap, subst, arith}
use Rattle.std.proofs.Math.ListN.{get_or-map}
use Rattle.std.proofs.lemmas.Grind.{common_steps}
use Rattle.std.proofs.lemmas.List.{length-map}
use Rattle.qz_codec.specs.Records.{IsRecord}
use Rattle.qz_snapshot.proofs.Faults.{not_both}
use Rattle.qz_snapshot.proofs.RowLists.{taken, zip_on, zip_at}
use Rattle.qz_snapshot.proofs.rows.get_rows.Goals as goal

pub returns-in-Err-BadRecord-clause-none : goal.returns-in-Err-BadRecord-clause-none
returns-in-Err-BadRecord-clause-none g c found all =
    let rows = c.args.rows.now in
    let place = c.loop-place.place in
    let x = c.index-rows-place.result in
    let R = IsRecord g.R.Recorded.fields g.R.Recorded.has_record in
    let same : c.deref.result.now ≡ x.bytes = grind (arith, common_steps) in
    let there = zip_at R (map (λ r. r.bytes) rows) found place x.bytes (omega (arith, length-map rows (λ r. r.bytes), c.loop-place-test.true)) all in
    let record_of = subst (λ (b : List ℕ). R b there.0) (get_or-map (λ r. r.bytes) rows place x ∙ ap (λ r. r.bytes) (sym c.index-rows-place.is) ∙ sym same) there.1 in
    not_both c.in-Err-BadRecord.field-0 c.in-Err-BadRecord.field-0-0 there.0 c.in-Err-BadRecord.field-0-is (c.in-Err-BadRecord.ensures.only there.0 record_of)

pub loop-place-preserved : goal.loop-place-preserved
loop-place-preserved g c =
    let rows = c.args.rows.now in
    let place = c.loop-place.place in
    let x = c.index-rows-place.result in
    let R = IsRecord g.R.Recorded.fields g.R.Recorded.has_record in
    let same : c.deref.result.now ≡ x.bytes = grind (arith, common_steps) in
    let more = taken (λ r. r.bytes) rows place x c.loop-place-test.true ∙ ap (λ (b : List ℕ). take place (map (λ r. r.bytes) rows) ++ b ∷ []) (ap (λ r. r.bytes) (sym c.index-rows-place.is) ∙ sym same) in
    zip_on R (take place (map (λ r. r.bytes) rows)) (take (place + 1) (map (λ r. r.bytes) rows)) c.loop-place.found.items c.push.new.self.items c.deref.result.now c.in-Ok.row more c.in_ok-push-in-Ok.ensures.items c.loop-place.invariant c.in-Ok.ensures.found
