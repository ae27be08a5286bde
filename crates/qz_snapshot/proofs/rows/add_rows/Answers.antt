use Rattle.std.proofs.Common.{◌∙◌, ◌+◌, ◌∷◌, ◌++◌, [], map, take, sym, ap, subst, arith}
use Rattle.std.proofs.Math.ListN.{get_or-map}
use Rattle.std.proofs.lemmas.List.{length-map}
use Rattle.qz_values.specs.declared.versions.Version.TheVariants.{Two}
use Rattle.qz_snapshot.proofs.RowLists.{taken, cut_on, all_on, short_on}
use Rattle.qz_snapshot.proofs.rows.add_rows.Goals as goal

pub add_row-requires-clause-valid : goal.add_row-requires-clause-valid
add_row-requires-clause-valid g c =
    let rows = c.args.rows.now in
    let x = c.index-rows-place.result in
    subst g.R.Recorded.can_put (get_or-map (λ r. r.now) rows c.loop-place.place x ∙ ap (λ r. r.now) (sym c.index-rows-place.is))
    (c.requires.valid c.loop-place.place x.now (omega (arith, length-map rows (λ r. r.now), c.loop-place-test.true)))

pub loop-place-preserved : goal.loop-place-preserved
loop-place-preserved g c =
    let rows = c.args.rows.now in
    let place = c.loop-place.place in
    let x = c.index-rows-place.result in
    let more = taken (λ r. r.now) rows place x c.loop-place-test.true ∙ ap (λ y. take place (map (λ r. r.now) rows) ++ y.now ∷ []) (sym c.index-rows-place.is) in
    record {
      cut = cut_on c.args.kind g.R.Recorded.fields c.args.pieces.now c.loop-place.pieces c.add_row.new.pieces (take place (map (λ r. r.now) rows)) (take (place + 1) (map (λ r. r.now) rows)) x.now more c.loop-place.invariant.cut c.in_ok-add_row.ensures.row;
      recorded = all_on (g.R.Recorded.has_record Two) (take place (map (λ r. r.now) rows)) (take (place + 1) (map (λ r. r.now) rows)) x.now more c.loop-place.invariant.recorded c.in_ok-add_row.ensures.recorded;
      short = short_on c.args.kind g.R.Recorded.fields (take place (map (λ r. r.now) rows)) (take (place + 1) (map (λ r. r.now) rows)) x.now more c.loop-place.invariant.short c.in_ok-add_row.ensures.short;
    }
