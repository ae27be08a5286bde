-- The values of a run: the test agrees with the grammar, and words have them as bits.
use Rattle.std.proofs.Common.{◌≡◌, ◌∙◌, ap, sym, refl, subst, ℕ, ◌+◌, ◌-◌, ◌*◌, ◌/◌, ◌%◌, ◌^◌, ◌<◌, ◌≤◌, Bool, true, false, arith, zero, suc, cond, lit<}
use Rattle.std.specs.Prelude.{◌==◌, ◌&&◌, nat_lt, nat_le}
use Rattle.std.specs.Int.{bit_at}
use Rattle.std.proofs.lemmas.Nat.Bits.{bit_at-zero, bit_at_cat_low, bit_at_cat_high, bit_at_above}
use Rattle.std.proofs.Math.Nat.{mod-eq_of_lt, add-mod_right, mul-mod_left, mod-add-div'}
use Rattle.qz_civil.specs.declared.fields.Field.{Field}
use Rattle.qz_civil.specs.Fields.{least, greatest, size}
use Rattle.qz_cron_text.specs.declared.runs.Run.{Run}
use Rattle.qz_cron_text.specs.Runs.{ahead, has_value}
use Rattle.qz_cron_text.specs.Sets.{set_of, word_of}
use Rattle.qz_cron_text.specs.Grammar.{RunInRange, span, HasValue}
use Rattle.qz_cron_text.proofs.FieldLemmas.{size_some}
use Rattle.qz_cron_text.proofs.SetLemmas.{set_of-lt}

mod_small : (n m : ℕ) → n < m → n % m ≡ n
mod_small n m less = mod-eq_of_lt less

mod_once : (n m : ℕ) → n < m → (n + m) % m ≡ n
mod_once n m less = add-mod_right n m ∙ mod_small n m less

-- going d on from a, and looking back from a
ahead_on : (n a d : ℕ) → a < n → d < n → ahead n a ((a + d) % n) ≡ d
ahead_on n a d first less = by_wrap (nat_lt (a + d) n) refl
  where
    by_wrap : (b : Bool) → nat_lt (a + d) n ≡ b → ahead n a ((a + d) % n) ≡ d
    by_wrap true low =
        let e : (a + d) % n ≡ a + d = mod_small (a + d) n (grind (arith, low)) in
        rw e (grind arith)
    by_wrap false high =
        let over : n ≤ a + d = grind (arith, high) in
        let regroup : a + d ≡ (a + d - n) + n = omega arith in
        let e : (a + d) % n ≡ a + d - n = ap (λ (m : ℕ). m % n) regroup ∙ mod_once (a + d - n) n (omega arith) in
        rw e (grind (arith, over))

on_ahead : (n a i : ℕ) → a < n → i < n → (a + ahead n a i) % n ≡ i
on_ahead n a i first less = by_order (nat_le a i) refl
  where
    by_order : (b : Bool) → nat_le a i ≡ b → (a + cond b (i - a) (i + n - a)) % n ≡ i
    by_order true low =
        let order : a ≤ i = grind (arith, low) in
        let e : a + (i - a) ≡ i = omega arith in
        rw e (mod_small i n less)
    by_order false high =
        let order : i < a = grind (arith, high) in
        let e : a + (i + n - a) ≡ i + n = omega arith in
        rw e (mod_once i n less)

ahead_less : (n a i : ℕ) → a < n → i < n → ahead n a i < n
ahead_less n a i first less = grind arith

-- the span of a run, counted either way
span_is : (n a l : ℕ) → a < n → l < n → (l + n - a) % n ≡ ahead n a l
span_is n a l first last = by_order (nat_le a l) refl
  where
    by_order : (b : Bool) → nat_le a l ≡ b → (l + n - a) % n ≡ cond b (l - a) (l + n - a)
    by_order true low =
        let order : a ≤ l = grind (arith, low) in
        let e : l + n - a ≡ (l - a) + n = omega arith in
        rw e (mod_once (l - a) n (omega arith))
    by_order false high =
        let order : l < a = grind (arith, high) in
        mod_small (l + n - a) n (omega arith)

-- the numbers of a run's first and last value
record AreNumbers (field : Field) (run : Run) : Type 0 where
  first : run.first - least field < size field
  last : run.last - least field < size field
  first_is : least field + (run.first - least field) ≡ run.first
  last_is : least field + (run.last - least field) ≡ run.last

numbers : (field : Field) (run : Run) → RunInRange field run → AreNumbers field run
unfolding greatest
numbers field run right =
    let some : 1 ≤ size field = size_some field in
    let low : least field ≤ run.first = right.first.0 in
    let high : run.first ≤ least field + size field - 1 = right.first.1 in
    let low' : least field ≤ run.last = right.last.0 in
    let high' : run.last ≤ least field + size field - 1 = right.last.1 in
    record { first = omega arith; last = omega arith; first_is = omega arith; last_is = omega arith }

span_ahead : (field : Field) (run : Run) → RunInRange field run → span field run ≡ ahead (size field) (run.first - least field) (run.last - least field)
span_ahead field run right =
    let are : AreNumbers field run = numbers field run right in
    let e : run.last + size field - run.first ≡ (run.last - least field) + size field - (run.first - least field) = omega (arith, are.first_is, are.last_is) in
    ap (λ (n : ℕ). n % size field) e ∙ span_is (size field) (run.first - least field) (run.last - least field) are.first are.last

pub has_value_is : (field : Field) (run : Run) (i : ℕ) → RunInRange field run → has_value field run i ≡ true → HasValue field run (least field + i)
unfolding has_value
has_value_is field run i right has =
    let are : AreNumbers field run = numbers field run right in
    let n : ℕ = size field in
    let a : ℕ = run.first - least field in
    let d : ℕ = ahead (size field) (run.first - least field) i in
    let less : i < size field = grind (arith, has) in
    let within : ahead (size field) (run.first - least field) i ≤ ahead (size field) (run.first - least field) (run.last - least field) = grind (arith, has) in
    let whole : ahead (size field) (run.first - least field) i % run.step ≡ 0 = grind (arith, has) in
    let times : ahead (size field) (run.first - least field) i / run.step * run.step ≡ ahead (size field) (run.first - least field) i =
    steps (ahead (size field) (run.first - least field) i) run.step whole in (
      ahead (size field) (run.first - least field) i / run.step,
      rw (times, span_ahead field run right) within,
      rw (times, on_ahead (size field) (run.first - least field) i are.first less) refl,
    )
  where
    steps : (m s : ℕ) → m % s ≡ 0 → m / s * s ≡ m
    steps m s none = let e : m % s + m / s * s ≡ m = mod-add-div' m s in omega (arith, e, none)

pub has_value_read : (field : Field) (run : Run) (i : ℕ) → RunInRange field run → HasValue field run (least field + i) → has_value field run i ≡ true
unfolding has_value
has_value_read field run i right (k, within, at) =
    let are : AreNumbers field run = numbers field run right in
    let span_less : ahead (size field) (run.first - least field) (run.last - least field) < size field = ahead_less (size field) (run.first - least field) (run.last - least field) are.first are.last in
    let reach : k * run.step ≤ ahead (size field) (run.first - least field) (run.last - least field) = subst (λ (m : ℕ). k * run.step ≤ m) (span_ahead field run right) within in
    let is : i ≡ (run.first - least field + k * run.step) % size field = same_offset (least field) i ((run.first - least field + k * run.step) % size field) at in
    let d : ahead (size field) (run.first - least field) ((run.first - least field + k * run.step) % size field) ≡ k * run.step =
    ahead_on (size field) (run.first - least field) (k * run.step) are.first (omega arith) in
    let less : (run.first - least field + k * run.step) % size field < size field = mod_less (run.first - least field + k * run.step) (size field) are.first in
    let whole : k * run.step % run.step ≡ 0 = mul-mod_left k run.step in
    subst (λ (j : ℕ). (nat_lt j (size field) && nat_le (ahead (size field) (run.first - least field) j) (ahead (size field) (run.first - least field) (run.last - least field)) && (ahead (size field) (run.first - least field) j % run.step == 0)) ≡ true) (sym is)
    (rw d (grind (arith, less, reach, whole)))
  where
    same_offset : (o x y : ℕ) → o + x ≡ o + y → x ≡ y
    same_offset o x y e = omega arith

    mod_less : (x n : ℕ) {a : ℕ} → a < n → x % n < n
    mod_less x n some = omega arith

abbrev pub bit_of : Bool → ℕ
bit_of true = 1
bit_of false = 0

-- bit i with number n added
with_top : (s n i : ℕ) (b : Bool) → s < 2 ^ n → bit_at s i ≡ bit_of (nat_lt i n && b) → (i ≡ n → b ≡ true) → bit_at (s + 2 ^ n) i ≡ bit_of (nat_lt i (suc n) && b)
with_top s n i b small before here = by_place (nat_lt i n) (nat_lt n i) refl refl
  where
    regroup : s + 2 ^ n ≡ 1 * 2 ^ n + s
    regroup = omega arith

    by_place : (x y : Bool) → nat_lt i n ≡ x → nat_lt n i ≡ y → bit_at (s + 2 ^ n) i ≡ bit_of (nat_lt i (suc n) && b)
    by_place true y low high = rw (regroup, bit_at_cat_low 1 n s i (grind (arith, low)), before) (grind (arith, low))
    by_place false true low high = rw (regroup, bit_at_cat_high 1 n s i small (grind (arith, low))) (bit_at_above 1 1 (i - n) (lit< tt) (grind (arith, high)) ∙ grind (arith, high))
    by_place false false low high =
        let same : i ≡ n = grind (arith, low, high) in
        let none : i - n ≡ 0 = omega arith in
        let passes : b ≡ true = here same in
        rw (regroup, bit_at_cat_high 1 n s i small (omega arith), none) (grind (arith, passes, same))

without_top : (n i : ℕ) (b : Bool) → (i ≡ n → b ≡ false) → bit_of (nat_lt i n && b) ≡ bit_of (nat_lt i (suc n) && b)
without_top n i b gone = by_place (nat_lt i n) (nat_lt n i) refl refl
  where
    by_place : (x y : Bool) → nat_lt i n ≡ x → nat_lt n i ≡ y → bit_of (nat_lt i n && b) ≡ bit_of (nat_lt i (suc n) && b)
    by_place true y low high = grind (arith, low)
    by_place false true low high = grind (arith, low, high)
    by_place false false low high = let same : i ≡ n = grind (arith, low, high) in grind (arith, gone same, same)

-- bit i of the set of the numbers below n that pass
pub set_of-bit : (test : ℕ → Bool) (n i : ℕ) → bit_at (set_of test n) i ≡ bit_of (nat_lt i n && test i)
unfolding set_of
set_of-bit test zero i = bit_at-zero i ∙ grind arith
set_of-bit test (suc n) i = step (set_of-bit test n i) (test n) refl
  where
    step : bit_at (set_of test n) i ≡ bit_of (nat_lt i n && test i) → (b : Bool) → test n ≡ b → bit_at (cond b (set_of test n + 2 ^ n) (set_of test n)) i ≡ bit_of (nat_lt i (suc n) && test i)
    step before true is = with_top (set_of test n) n i (test i) (set_of-lt test n) before (λ same. subst (λ (k : ℕ). test k ≡ true) (sym same) is)
    step before false is = before ∙ without_top n i (test i) (λ same. subst (λ (k : ℕ). test k ≡ false) (sym same) is)

-- a word has the values of its run
pub word_bit : (field : Field) (run : Run) (from i : ℕ) → RunInRange field run → bit_at (word_of field run from) i ≡ 1 → (i < 64) × HasValue field run (least field + from + i)
unfolding word_of
word_bit field run from i right one =
    let bit : bit_of (nat_lt i 64 && has_value field run (from + i)) ≡ 1 = sym (set_of-bit (λ j. has_value field run (from + j)) 64 i) ∙ one in
    let both : (nat_lt i 64 && has_value field run (from + i)) ≡ true = is_true (nat_lt i 64 && has_value field run (from + i)) bit in
    let low : i < 64 = grind (arith, both) in
    let has : has_value field run (from + i) ≡ true = second (nat_lt i 64) (has_value field run (from + i)) both in
    let at : least field + (from + i) ≡ least field + from + i = omega arith in
    (low, subst (λ (v : ℕ). HasValue field run v) at (has_value_is field run (from + i) right has))
  where
    is_true : (b : Bool) → bit_of b ≡ 1 → b ≡ true
    is_true true e = refl
    is_true false e = absurd (omega arith)

    second : (a b : Bool) → (a && b) ≡ true → b ≡ true
    second true b e = e
    second false b e = absurd (clash e)
      where
        clash : false ≡ true → ⊥
        clash x = cc

pub bit_word : (field : Field) (run : Run) (from i : ℕ) → RunInRange field run → i < 64 → HasValue field run (least field + from + i) → bit_at (word_of field run from) i ≡ 1
unfolding word_of
bit_word field run from i right low has =
    let at : least field + from + i ≡ least field + (from + i) = omega arith in
    let passes : has_value field run (from + i) ≡ true = has_value_read field run (from + i) right (subst (λ (v : ℕ). HasValue field run v) at has) in
    let less : nat_lt i 64 ≡ true = grind (arith, low) in
    set_of-bit (λ j. has_value field run (from + j)) 64 i ∙ rw (less, passes) refl
