use Rattle.std.proofs.Common.{◌≡◌, ◌+◌, [], ◌∷◌, ◌++◌, map, take, sym, ap, subst, ◌∙◌, arith}
use Rattle.std.proofs.Math.ListN.{get_or-map}
use Rattle.std.proofs.lemmas.List.{length-map}
use Rattle.qz_journal.specs.Layout.{IsPayload}
use Rattle.qz_snapshot.proofs.Rooms.{one_more}
use Rattle.qz_snapshot.proofs.RowLists.{taken}
use Rattle.qz_snapshot.proofs.payloads.bytes_of.Goals as goal

pub overflow_add-bytes-in-loop-place : goal.overflow_add-bytes-in-loop-place
overflow_add-bytes-in-loop-place c =
    let ps = c.args.payloads.now in
    let x = c.index-payloads-place.result in
    let size = subst IsPayload (get_or-map (λ p. p.items) ps c.loop-place.place x ∙ ap (λ p. p.items) (sym c.index-payloads-place.is))
    (c.requires.sizes c.loop-place.place x.items (omega (arith, length-map ps (λ p. p.items), c.loop-place-test.true))) in
    omega (arith, c.len.ensures, size.1, c.loop-place.invariant.most, c.loop-place-test.true, c.requires.few)

pub loop-place-preserved : goal.loop-place-preserved
loop-place-preserved c =
    let ps = c.args.payloads.now in
    let place = c.loop-place.place in
    let x = c.index-payloads-place.result in
    let size = subst IsPayload (get_or-map (λ p. p.items) ps c.loop-place.place x ∙ ap (λ p. p.items) (sym c.index-payloads-place.is))
    (c.requires.sizes c.loop-place.place x.items (omega (arith, length-map ps (λ p. p.items), c.loop-place-test.true))) in
    let next : take (place + 1) (map (λ p. p.items) ps) ≡ take place (map (λ p. p.items) ps) ++ x.items ∷ [] =
    taken (λ p. p.items) ps place x c.loop-place-test.true ∙ ap (λ y. take place (map (λ p. p.items) ps) ++ y.items ∷ []) (sym c.index-payloads-place.is) in
    record {
      bytes = omega (arith, c.loop-place.invariant.bytes, c.len.ensures, one_more _ _ _ next);
      most = omega (arith, c.len.ensures, size.1, c.loop-place.invariant.most);
    }
