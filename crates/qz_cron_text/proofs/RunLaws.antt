-- Values and runs: reading them agrees with the grammar.
use Rattle.std.proofs.Common.{◌≡◌, ◌∙◌, ap, sym, refl, subst, ℕ, ◌+◌, ◌≤◌, Bool, true, false, arith, cond, List, [], ◌∷◌, ◌++◌, length}
use Rattle.std.specs.Prelude.{Option, Some, None, ◌==◌, ◌||◌, nat_eq}
use Rattle.std.specs.Option.{option_map, option_and_then}
use Rattle.qz_civil.specs.declared.fields.Field.{Field}
use Rattle.qz_civil.specs.Fields.{greatest}
use Rattle.qz_cron_text.specs.declared.runs.Run.{Run}
use Rattle.qz_cron_text.specs.Cuts.{cut_at}
use Rattle.qz_cron_text.specs.Values.{number_of, name_of, value_of, value_or_name, names}
use Rattle.qz_cron_text.specs.Runs.{is_star, all_by, two_values, values_by, closed_run, open_run, run_with, run_of}
use Rattle.qz_cron_text.specs.Grammar.{IsNumeral, IsValue, numeral, named, IsRun, every, every_by, every_by_slash, single, onward, between, between_by}
use Rattle.qz_cron_text.proofs.Free.{IsFree, is_mark, free-append, uncut, cut_marked, IsCut, cut_is, IsPlain, is_plain, plain_free}
use Rattle.qz_cron_text.proofs.Numerals.{numeral_read, number_is, numeral_plain, numeral_some}
use Rattle.qz_cron_text.proofs.Names.{IsNamed, name_read, name_is, name_plain, name_some, name_no_numeral}

pub some_is : {A : Type 0} {x y : A} → Some x ≡ Some y → x ≡ y
some_is e = cc

pub none_is : {A : Type 0} {x : A} → None ≡ Some x → ⊥
none_is e = cc

pub value_read : (field : Field) (text : List ℕ) (v : ℕ) → IsValue field text v → value_of field text ≡ Some v
unfolding value_of
value_read field text v (numeral is) = rw (numeral_read text v is) refl
value_read field text v (named name i is) = rw (name_no_numeral field name i is, name_read field name i is) refl

pub value_is : (field : Field) (text : List ℕ) (v : ℕ) → value_of field text ≡ Some v → IsValue field text v
unfolding value_of
value_is field text v is = by_number (number_of text) refl is
  where
    by_name : (w : ℕ) → IsNamed 1 w (names field) text → IsValue field text w
    by_name w (i, at, name) = let same : i + 1 ≡ w = omega (arith, at) in subst (λ (n : ℕ). IsValue field text n) same (named text i name)

    by_number : (o : Option ℕ) → number_of text ≡ o → value_or_name o (name_of field text) ≡ Some v → IsValue field text v
    by_number (Some n) read e = subst (λ (m : ℕ). IsValue field text m) (some_is e) (numeral (number_is text n read))
    by_number None read e = by_name v (name_is field text v e)

pub value_plain : (field : Field) (text : List ℕ) (v : ℕ) → IsValue field text v → IsPlain text
value_plain field text v (numeral is) = numeral_plain text v is
value_plain field text v (named name i is) = name_plain field name i is

pub value_some : (field : Field) (text : List ℕ) (v : ℕ) → IsValue field text v → 1 ≤ length text
value_some field text v (numeral is) = numeral_some text v is
value_some field text v (named name i is) = name_some field name i is

not_plain : (mark : ℕ) → is_plain mark ≡ false → (b : ℕ) → is_plain b ≡ true → (b == mark) ≡ false
not_plain mark other b plain = by_test (b == mark) refl
  where
    by_test : (t : Bool) → (b == mark) ≡ t → t ≡ false
    by_test false is = refl
    by_test true is =
        let same : b ≡ mark = grind (arith, is) in
        let clash : true ≡ false = sym plain ∙ ap (λ (n : ℕ). is_plain n) same ∙ other in
        clash

-- a text of digits and letters has no mark
pub plain_no_mark : (mark : ℕ) → is_plain mark ≡ false → (text : List ℕ) → IsPlain text → IsFree (is_mark mark) text
plain_no_mark mark other text plain = plain_free (is_mark mark) (not_plain mark other) text plain

pub plain_no_star : (text : List ℕ) → IsPlain text → is_star text ≡ false
plain_no_star [] plain = refl
plain_no_star (b ∷ []) plain = not_plain 42 refl b plain.0
plain_no_star (b ∷ c ∷ bs) plain = refl

-- a value has no mark, and isn't `*`
record IsWhole (text : List ℕ) : Type 0 where
  slash : IsFree (is_mark 47) text
  dash : IsFree (is_mark 45) text
  star : is_star text ≡ false
  some : nat_eq (length text) 0 ≡ false

whole : (field : Field) (text : List ℕ) (v : ℕ) → IsValue field text v → IsWhole text
whole field text v is =
    let plain : IsPlain text = value_plain field text v is in
    let long : 1 ≤ length text = value_some field text v is in
    record { slash = plain_no_mark 47 refl text plain; dash = plain_no_mark 45 refl text plain; star = plain_no_star text plain; some = grind (arith, long) }

no_star_mark : (a b : List ℕ) (mark : ℕ) → nat_eq (length a) 0 ≡ false → is_star (a ++ mark ∷ b) ≡ false
no_star_mark [] b mark some = absurd (clash some)
  where
    clash : true ≡ false → ⊥
    clash e = cc
no_star_mark (x ∷ []) b mark some = refl
no_star_mark (x ∷ y ∷ a) b mark some = refl

some_mark : (a b : List ℕ) (mark : ℕ) → nat_eq (length (a ++ mark ∷ b)) 0 ≡ false
some_mark [] b mark = grind arith
some_mark (x ∷ a) b mark = grind arith

free_range : (a b : List ℕ) → IsFree (is_mark 47) a → IsFree (is_mark 47) b → IsFree (is_mark 47) (a ++ 45 ∷ b)
free_range a b x y = free-append (is_mark 47) a (45 ∷ b) x (refl, y)

pub run_read : (field : Field) (text : List ℕ) (run : Run) → IsRun field text run → run_of field text ≡ Some run
unfolding run_of closed_run open_run
run_read field text run every = rw (uncut 47 (42 ∷ []) (refl, tt)) refl
run_read field text run (every_by {k} {n} is) = rw (cut_marked 47 (42 ∷ []) k (refl, tt), numeral_read k n is) refl
run_read field text run (every_by_slash {k} {n} is) = rw (cut_marked 47 [] k tt, numeral_read k n is) refl
run_read field text run (single {a} {v} is) =
    let w : IsWhole a = whole field a v is in
    rw (uncut 47 a w.slash, w.star, uncut 45 a w.dash, value_read field a v is) refl
run_read field text run (onward {a} {k} {v} {n} is by) =
    let w : IsWhole a = whole field a v is in
    rw (cut_marked 47 a k w.slash, numeral_read k n by, w.some, w.star, uncut 45 a w.dash, value_read field a v is) refl
run_read field text run (between {a} {b} {v} {w} is last) =
    let wa : IsWhole a = whole field a v is in
    let wb : IsWhole b = whole field b w last in
    rw (uncut 47 (a ++ 45 ∷ b) (free_range a b wa.slash wb.slash), no_star_mark a b 45 wa.some, cut_marked 45 a b wa.dash, value_read field a v is, value_read field b w last) refl
run_read field text run (between_by {a} {b} {k} {v} {w} {n} is last by) =
    let wa : IsWhole a = whole field a v is in
    let wb : IsWhole b = whole field b w last in
    rw (
      cut_marked 47 (a ++ 45 ∷ b) k (free_range a b wa.slash wb.slash),
      numeral_read k n by,
      some_mark a b 45,
      no_star_mark a b 45 wa.some,
      cut_marked 45 a b wa.dash,
      value_read field a v is,
      value_read field b w last,
    ) refl

star_is : (text : List ℕ) → is_star text ≡ true → text ≡ 42 ∷ []
star_is [] is = absurd (clash is)
  where
    clash : false ≡ true → ⊥
    clash e = cc
star_is (b ∷ []) is = let same : b ≡ 42 = grind (arith, is) in cc
star_is (b ∷ c ∷ bs) is = absurd (clash is)
  where
    clash : false ≡ true → ⊥
    clash e = cc

empty_is : (text : List ℕ) → nat_eq (length text) 0 ≡ true → text ≡ []
empty_is [] is = refl
empty_is (b ∷ bs) is = absurd (omega (arith, more))
  where
    more : length (b ∷ bs) ≡ 0
    more = grind (arith, is)

-- what two values say, with or without the second
data TwoValues (field : Field) (last : ℕ → ℕ) (step : ℕ) : List ℕ → Option (List ℕ) → Run → Type 0 where
  first_alone : {a : List ℕ} {v : ℕ} → IsValue field a v → TwoValues field last step a None (record { first = v; last = last v; step = step })
  with_second : {a b : List ℕ} {v w : ℕ} → IsValue field a v → IsValue field b w
      → TwoValues field last step a (Some b) (record { first = v; last = w; step = step })

two_values_is : (field : Field) (last : ℕ → ℕ) (step : ℕ) (a : List ℕ) (b : Option (List ℕ)) (run : Run)
    → two_values field last step a b ≡ Some run → TwoValues field last step a b run
two_values_is field last step a None run is = by_first (value_of field a) refl is
  where
    by_first : (o : Option ℕ) → value_of field a ≡ o → option_map (λ first. record { first = first; last = last first; step = step }) o ≡ Some run
        → TwoValues field last step a None run
    by_first None read e = absurd (none_is e)
    by_first (Some v) read e = subst (λ (r : Run). TwoValues field last step a None r) (some_is e) (first_alone (value_is field a v read))
two_values_is field last step a (Some b) run is = by_first (value_of field a) refl is
  where
    by_second : (v : ℕ) → value_of field a ≡ Some v → (o : Option ℕ) → value_of field b ≡ o
        → option_map (λ last. record { first = v; last = last; step = step }) o ≡ Some run → TwoValues field last step a (Some b) run
    by_second v first None read e = absurd (none_is e)
    by_second v first (Some w) read e = subst (λ (r : Run). TwoValues field last step a (Some b) r) (some_is e) (with_second (value_is field a v first) (value_is field b w read))

    by_first : (o : Option ℕ) → value_of field a ≡ o
        → option_and_then (λ first. option_map (λ last. record { first = first; last = last; step = step }) (value_of field b)) o ≡ Some run
        → TwoValues field last step a (Some b) run
    by_first None read e = absurd (none_is e)
    by_first (Some v) read e = by_second v read (value_of field b) refl e

closed_by : (field : Field) (text front : List ℕ) (behind : Option (List ℕ)) (run : Run) → IsCut 45 text front behind
    → TwoValues field (λ a. a) 1 front behind run → IsRun field text run
closed_by field text front behind run at (first_alone {a} is) = subst (λ (t : List ℕ). IsRun field t run) (sym at) (single is)
closed_by field text front behind run at (with_second {a} {b} is last) = subst (λ (t : List ℕ). IsRun field t run) (sym at) (between is last)

open_by : (field : Field) (k text front : List ℕ) (behind : Option (List ℕ)) (step : ℕ) (run : Run) → IsNumeral k step → IsCut 45 text front behind
    → TwoValues field (λ _. greatest field) step front behind run → IsRun field (text ++ 47 ∷ k) run
open_by field k text front behind step run by at (first_alone {a} is) = subst (λ (t : List ℕ). IsRun field (t ++ 47 ∷ k) run) (sym at) (onward is by)
open_by field k text front behind step run by at (with_second {a} {b} is last) = subst (λ (t : List ℕ). IsRun field (t ++ 47 ∷ k) run) (sym at) (between_by is last by)

closed_is : (field : Field) (text : List ℕ) (run : Run) → closed_run field text ≡ Some run → IsRun field text run
unfolding closed_run
closed_is field text run is = by_star (is_star text) refl is
  where
    by_star : (b : Bool) → is_star text ≡ b → cond b (Some (all_by field 1)) (values_by field (λ a. a) 1 (cut_at 45 text)) ≡ Some run → IsRun field text run
    by_star true star e =
        subst (λ (t : List ℕ). IsRun field t run) (sym (star_is text star)) (subst (λ (r : Run). IsRun field (42 ∷ []) r) (some_is e) every)
    by_star false other e =
        closed_by field text (cut_at 45 text).front (cut_at 45 text).rest run (cut_is 45 text)
        (two_values_is field (λ a. a) 1 (cut_at 45 text).front (cut_at 45 text).rest run e)

open_is : (field : Field) (k text : List ℕ) (step : ℕ) (run : Run) → IsNumeral k step → open_run field text step ≡ Some run → IsRun field (text ++ 47 ∷ k) run
unfolding open_run
open_is field k text step run by is = by_empty (nat_eq (length text) 0) refl is
  where
    by_star : (b : Bool) → is_star text ≡ b → cond b (Some (all_by field step)) (values_by field (λ _. greatest field) step (cut_at 45 text)) ≡ Some run
        → IsRun field (text ++ 47 ∷ k) run
    by_star true star e =
        subst (λ (t : List ℕ). IsRun field (t ++ 47 ∷ k) run) (sym (star_is text star)) (subst (λ (r : Run). IsRun field (42 ∷ 47 ∷ k) r) (some_is e) (every_by by))
    by_star false other e =
        open_by field k text (cut_at 45 text).front (cut_at 45 text).rest step run by (cut_is 45 text)
        (two_values_is field (λ _. greatest field) step (cut_at 45 text).front (cut_at 45 text).rest run e)

    by_empty : (b : Bool) → nat_eq (length text) 0 ≡ b
        → cond (b || is_star text) (Some (all_by field step)) (values_by field (λ _. greatest field) step (cut_at 45 text)) ≡ Some run
        → IsRun field (text ++ 47 ∷ k) run
    by_empty true none e =
        subst (λ (t : List ℕ). IsRun field (t ++ 47 ∷ k) run) (sym (empty_is text none)) (subst (λ (r : Run). IsRun field (47 ∷ k) r) (some_is e) (every_by_slash by))
    by_empty false some e = by_star (is_star text) refl e

run_with_is : (field : Field) (text front : List ℕ) (behind : Option (List ℕ)) (run : Run) → IsCut 47 text front behind
    → run_with field front behind ≡ Some run → IsRun field text run
run_with_is field text front None run at is = subst (λ (t : List ℕ). IsRun field t run) (sym at) (closed_is field front run is)
run_with_is field text front (Some k) run at is = by_step (number_of k) refl is
  where
    by_step : (o : Option ℕ) → number_of k ≡ o → option_and_then (λ n. open_run field front n) o ≡ Some run → IsRun field text run
    by_step None read e = absurd (none_is e)
    by_step (Some n) read e = subst (λ (t : List ℕ). IsRun field t run) (sym at) (open_is field k front n run (number_is k n read) e)

pub run_is : (field : Field) (text : List ℕ) (run : Run) → run_of field text ≡ Some run → IsRun field text run
unfolding run_of
run_is field text run is = run_with_is field text (cut_at 47 text).front (cut_at 47 text).rest run (cut_is 47 text) is
