use Rattle.std.proofs.Common.{◌≡◌, ◌<◌, length, map, rules, arith}
use Rattle.std.proofs.lemmas.List.{length-map}
use Rattle.qz_pieces.proofs.FirstBad.{reads_none, read_more, next_at, first_bad, none_at_all, none_is, some_is}
use Rattle.qz_pieces.proofs.payloads.read_pieces.Goals as goal

pub loop-place-init : goal.loop-place-init
loop-place-init c = record { read = reads_none (map (λ p. p.now) c.args.payloads.now) c.new-rows.result.items c.new-rows.ensures.items; within = search rules }

pub loop-place-preserved : goal.loop-place-preserved
loop-place-preserved c =
    let found = some_is _ _ _ c.in-Some.is c.in_ok-more.ensures.found in
    record {
      read = read_more (map (λ p. p.now) c.args.payloads.now) c.loop-place.place c.loop-place.before c.loop-place.kind _ c.loop-place.rows.items _ _ _ c.loop-place.invariant.read
          (next_at (λ p. p.now) c.args.payloads.now c.loop-place.place _ c.loop-place-test.true) found.0 found.1 c.in_ok-append.ensures.items;
      within = found.0.within;
    }

pub returns-in_default-clause-damaged : goal.returns-in_default-clause-damaged
returns-in_default-clause-damaged c =
    let there : c.loop-place.place < length (map (λ p. p.now) c.args.payloads.now) = let t = c.loop-place-test.true in omega (arith, length-map c.args.payloads.now (λ p. p.now)) in
    first_bad (map (λ p. p.now) c.args.payloads.now) c.loop-place.place c.loop-place.before c.loop-place.kind c.loop-place.rows.items _ there c.loop-place.invariant.read
    (next_at (λ p. p.now) c.args.payloads.now c.loop-place.place _ c.loop-place-test.true) (none_is _ _ c.in_default.is c.in_ok-more.ensures.none)

pub returns-in_default-clause-refused : goal.returns-in_default-clause-refused
returns-in_default-clause-refused c = none_at_all (map (λ p. p.now) c.args.payloads.now) c.loop-place.place (returns-in_default-clause-damaged c)
