use Rattle.std.proofs.Common.{◌+◌, ◌≤◌, length, take, refl, sym, ap, subst, ◌∙◌, arith}
use Rattle.std.specs.List.{list_any}
use Rattle.std.specs.Ordering.{nat_cmp}
use Rattle.std.specs.BTreeMap.{is_at}
use Rattle.std.proofs.lemmas.Bool.{not-true, not-false}
use Rattle.qz_valid.proofs.Apart.{Numbers, numbers_new, numbers_none, named_twice, apart_at_end}
use Rattle.qz_valid.proofs.names.are_apart.Goals as goal
use Rattle.qz_valid.proofs.names.are_apart.Goals.{in-Some-added_number+in_ok-insert+else-not-branch, in_default-added_number}

pub returns-then-not-branch : goal.returns-then-not-branch
returns-then-not-branch c = (
  λ e. absurd (cc),
  λ apart. absurd (named_twice c.args.tables.now.tables.triggers c.loop-place.place c.in-Some.row.now (sym c.in-Some.ensures) c.in-Some-added_number.number c.loop-place.numbers.keys
      (sym c.added_number.ensures ∙ c.in-Some-added_number.is)
      (not-false (list_any (is_at (nat_cmp c.in-Some-added_number.number)) c.loop-place.numbers.keys) (sym c.in_ok-insert.ensures.added ∙ c.if-not-branch.true)) c.loop-place.invariant apart),
)

pub loop-place-preserved : goal.loop-place-preserved
loop-place-preserved c = elim c.match-added_number.branch [
  | in-Some-added_number+in_ok-insert+else-not-branch w ↦ subst (λ ks. Numbers (take (c.loop-place.place + 1) c.args.tables.now.tables.triggers) ks) (sym (ap (λ s. s.keys) w.numbers-is))
      (numbers_new c.args.tables.now.tables.triggers c.loop-place.place c.in-Some.row.now (sym c.in-Some.ensures) w.in-Some-added_number.number c.loop-place.numbers.keys w.insert.new.self.keys
      (sym c.added_number.ensures ∙ w.in-Some-added_number.is)
      (not-true (list_any (is_at (nat_cmp w.in-Some-added_number.number)) c.loop-place.numbers.keys) (sym w.in_ok-insert.ensures.added ∙ w.if-not-branch.false))
      (λ q. w.in_ok-insert.ensures.updates.0 q) c.loop-place.invariant)
  | in_default-added_number w ↦ subst (λ ks. Numbers (take (c.loop-place.place + 1) c.args.tables.now.tables.triggers) ks) (sym (ap (λ s. s.keys) w.numbers-is))
      (numbers_none c.args.tables.now.tables.triggers c.loop-place.place c.in-Some.row.now (sym c.in-Some.ensures) c.loop-place.numbers.keys (sym c.added_number.ensures ∙ w.in_default-added_number.is) c.loop-place.invariant)
]

pub returns : goal.returns
returns c =
    let done : length c.args.tables.now.tables.triggers ≤ c.loop-place.place = omega (arith, c.len_triggers-place-end.ensures) in
    (λ e. apart_at_end c.args.tables.now.tables.triggers c.loop-place.place c.loop-place.numbers.keys done c.loop-place.invariant, λ apart. refl)
