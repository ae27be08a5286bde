use Rattle.std.proofs.Common.{◌+◌, ◌<◌, length, take, sym, subst, ◌∙◌, arith}
use Rattle.std.proofs.lemmas.Bool.{not-true, not-false}
use Rattle.qz_valid.specs.Keys.{has}
use Rattle.qz_valid.proofs.Sets.{Counts, counted_new, counted_none, counted_twice, none_counted}
use Rattle.qz_valid.proofs.Walks.{is_there}
use Rattle.qz_valid.proofs.keys.counted_keys.Goals as goal
use Rattle.qz_valid.proofs.keys.counted_keys.Goals.{in-Some-counted_key+in_ok-add+else-not-branch, in_default-counted_key}

pub loop-place-init : goal.loop-place-init
loop-place-init c = none_counted c.args.of c.args.tables.now.tables.fired c.new-keys.result c.new-keys.ensures

pub unreachable-requires : goal.unreachable-requires
unreachable-requires c =
    let before : c.loop-place.place < length c.args.tables.now.tables.fired = omega (arith, c.len_fired-place-end.ensures) in
    is_there c.args.tables.now.tables.fired c.loop-place.place before c.in_default.ensures

pub returns-then-not-branch-clause-twice : goal.returns-then-not-branch-clause-twice
returns-then-not-branch-clause-twice c =
    counted_twice c.args.of c.args.tables.now.tables.fired c.loop-place.place c.in-Some.row.now (sym c.in-Some.ensures) c.in-Some-counted_key.key.now c.loop-place.keys c.in-Some-counted_key.ensures.some
    (not-false (has c.in-Some-counted_key.key.now c.loop-place.keys) (sym c.in_ok-add.ensures.added ∙ c.if-not-branch.true)) c.loop-place.invariant

pub loop-place-preserved : goal.loop-place-preserved
loop-place-preserved c = elim c.match-counted_key.branch [
  | in-Some-counted_key+in_ok-add+else-not-branch w ↦ subst (λ ks. Counts c.args.of (take (c.loop-place.place + 1) c.args.tables.now.tables.fired) ks) (sym w.keys-is)
      (counted_new c.args.of c.args.tables.now.tables.fired c.loop-place.place c.in-Some.row.now (sym c.in-Some.ensures) w.in-Some-counted_key.key.now c.loop-place.keys w.add.new.self w.in-Some-counted_key.ensures.some
      (not-true (has w.in-Some-counted_key.key.now c.loop-place.keys) (sym w.in_ok-add.ensures.added ∙ w.if-not-branch.false)) w.in_ok-add.ensures.keys c.loop-place.invariant)
  | in_default-counted_key w ↦ subst (λ ks. Counts c.args.of (take (c.loop-place.place + 1) c.args.tables.now.tables.fired) ks) (sym w.keys-is)
      (counted_none c.args.of c.args.tables.now.tables.fired c.loop-place.place c.in-Some.row.now (sym c.in-Some.ensures) c.loop-place.keys w.in_default-counted_key.ensures.none c.loop-place.invariant)
]
