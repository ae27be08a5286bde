-- Numbers that are put into an ascending list.
use Rattle.std.proofs.Common.{◌≡◌, ◌∙◌, refl, sym, ap, ℕ, zero, suc, ◌+◌, ◌^◌, ◌<◌, ◌≤◌, List, [], ◌∷◌, ◌++◌, length, take, drop, get_or, drop-cons, add-one, Bool, true, false, Option, Some, None, arith, nat_lt, append_assoc}
use Rattle.std.specs.Prelude.{◌&&◌, ◌==◌, nat_le, option_map, if◌then◌else◌}
use Rattle.std.specs.List.{insert}
use Rattle.std.proofs.Math.Seq.{take-suc}
use Rattle.std.proofs.lemmas.Bool.{and_parts}
use Rattle.std.proofs.lemmas.Bool.Decides.{nat_tests}
use Rattle.std.proofs.lemmas.Grind.{common_steps}
use Rattle.std.proofs.lemmas.List.{take-append-drop}
use Rattle.qz_civil.specs.Calendars.{are_above, is_above, is_annual_day, is_list_of}
use Rattle.qz_job_json.specs.Calendars.{put, with_all}
use Rattle.qz_job_json.specs.Members.{kept}

-- at the head of a list

put_over : (n m : ℕ) (ms : List ℕ) → m < n → put n (m ∷ ms) ≡ m ∷ put n ms
put_over n m ms lt = let over : nat_lt m n ≡ true = grind (arith, nat_tests) in rw over refl

put_same : (n m : ℕ) (ms : List ℕ) → m ≡ n → put n (m ∷ ms) ≡ m ∷ ms
put_same n m ms same =
    let over : nat_lt m n ≡ false = grind (arith, nat_tests) in
    let is : (m == n) ≡ true = grind arith in
    rw (over, is) refl

put_under : (n m : ℕ) (ms : List ℕ) → n < m → put n (m ∷ ms) ≡ n ∷ m ∷ ms
put_under n m ms lt =
    let over : nat_lt m n ≡ false = grind (arith, nat_tests) in
    let is : (m == n) ≡ false = grind arith in
    rw (over, is) refl

-- The first i numbers are below the one that is put in.
abbrev pub IsPast : ℕ → List ℕ → ℕ → Type 0
IsPast n ms i = put n ms ≡ take i ms ++ put n (drop i ms)

pub past_more : (n : ℕ) (ms : List ℕ) (i : ℕ) → i < length ms → get_or ms i 0 < n → IsPast n ms i → IsPast n ms (i + 1)
past_more n ms i within lt past =
    let at = drop-cons ms i 0 within in
    let over = put_over n (get_or ms i 0) (drop (suc i) ms) lt in
    past ∙ ap (λ rest. take i ms ++ put n rest) at ∙ ap (λ rest. take i ms ++ rest) over
    ∙ sym (append_assoc (take i ms) (get_or ms i 0 ∷ []) (put n (drop (suc i) ms)))
    ∙ ap (λ front. front ++ put n (drop (suc i) ms)) (sym (take-suc ms i 0 within))
    ∙ ap (λ k. take k ms ++ put n (drop k ms)) (sym (add-one i))

pub past_there : (n : ℕ) (ms : List ℕ) (i : ℕ) → i < length ms → get_or ms i 0 ≡ n → IsPast n ms i → put n ms ≡ ms
past_there n ms i within same past =
    let at = drop-cons ms i 0 within in
    let is = put_same n (get_or ms i 0) (drop (suc i) ms) same in
    past ∙ ap (λ rest. take i ms ++ put n rest) at ∙ ap (λ rest. take i ms ++ rest) (is ∙ sym at) ∙ take-append-drop i ms

pub past_new : (n : ℕ) (ms : List ℕ) (i : ℕ) → i < length ms → n < get_or ms i 0 → IsPast n ms i → put n ms ≡ insert ms i n
past_new n ms i within lt past =
    let at = drop-cons ms i 0 within in
    let under = put_under n (get_or ms i 0) (drop (suc i) ms) lt in
    past ∙ ap (λ rest. take i ms ++ put n rest) at ∙ ap (λ rest. take i ms ++ rest) (under ∙ ap (λ rest. n ∷ rest) (sym at))

pub past_all : (n : ℕ) (ms : List ℕ) (i : ℕ) → length ms ≤ i → IsPast n ms i → put n ms ≡ insert ms i n
past_all n ms i end past =
    let none : drop i ms ≡ [] = grind (arith, common_steps) in
    past ∙ ap (λ rest. take i ms ++ put n rest) none ∙ ap (λ rest. take i ms ++ n ∷ rest) (sym none)

-- A list grows by what is put in, and stays ascending.

grows_by : (a b : Bool) (n m : ℕ) (ms more : List ℕ) → length ms ≤ length more → length (m ∷ ms) ≤ length (if a then m ∷ more else (if b then m ∷ ms else n ∷ m ∷ ms))
grows_by true b n m ms more le = omega (arith, le)
grows_by false true n m ms more le = omega arith
grows_by false false n m ms more le = omega arith

put_grows : (n : ℕ) (ms : List ℕ) → length ms ≤ length (put n ms)
put_grows n [] = omega arith
put_grows n (m ∷ ms) = grows_by (nat_lt m n) (m == n) n m ms (put n ms) (put_grows n ms)

pub with_all_grows : (ms ns : List ℕ) → length ms ≤ length (with_all ms ns)
with_all_grows ms [] = omega arith
with_all_grows ms (n ∷ ns) = omega (arith, put_grows n ms, with_all_grows (put n ms) ns)

both_true : (a b : Bool) → a ≡ true → b ≡ true → (a && b) ≡ true
both_true a b p q = rw (p, q) refl

under : (n m : ℕ) → nat_lt m n ≡ false → (m == n) ≡ false → nat_lt n m ≡ true
under n m lt is = grind (arith, nat_tests)

above_by : (passes : ℕ → Bool) (before : Option ℕ) (n m : ℕ) (ms : List ℕ) (a b : Bool) → nat_lt m n ≡ a → (m == n) ≡ b → passes n ≡ true → is_above before n ≡ true → are_above passes before (m ∷ ms) ≡ true
    → (nat_lt m n ≡ true → are_above passes (Some m) (put n ms) ≡ true)
    → are_above passes before (if a then m ∷ put n ms else (if b then m ∷ ms else n ∷ m ∷ ms)) ≡ true
above_by passes before n m ms true b lt is passed over above more =
    let parts = and_parts (passes m && is_above before m) (are_above passes (Some m) ms) above in
    both_true _ _ parts.0 (more lt)
above_by passes before n m ms false true lt is passed over above more = above
above_by passes before n m ms false false lt is passed over above more =
    let parts = and_parts (passes m && is_above before m) (are_above passes (Some m) ms) above in
    let one = and_parts (passes m) (is_above before m) parts.0 in
    both_true _ _ (both_true _ _ passed over) (both_true _ _ (both_true _ _ one.0 (under n m lt is)) parts.1)

pub put_above : (passes : ℕ → Bool) (before : Option ℕ) (n : ℕ) (ms : List ℕ) → passes n ≡ true → is_above before n ≡ true → are_above passes before ms ≡ true → are_above passes before (put n ms) ≡ true
put_above passes before n [] passed over above = both_true _ _ (both_true _ _ passed over) refl
put_above passes before n (m ∷ ms) passed over above =
    let rest = (and_parts (passes m && is_above before m) (are_above passes (Some m) ms) above).1 in
    above_by passes before n m ms (nat_lt m n) (m == n) refl refl passed over above (λ lt. put_above passes (Some m) n ms passed lt rest)

-- What a list of days is.

pub all_kept : (passes : ℕ → Bool) (limit : ℕ) (ms : List ℕ) → length ms ≤ limit → are_above passes None ms ≡ true → kept (is_list_of passes limit) (Some ms) ≡ Some ms
all_kept passes limit ms within above =
    let short : nat_le (length ms) limit ≡ true = grind (arith, nat_tests) in
    let valid : is_list_of passes limit ms ≡ true = both_true _ _ short above in
    rw valid refl

none_kept : (passes : ℕ → Bool) (limit : ℕ) (ms : List ℕ) → limit < length ms → kept (is_list_of passes limit) (Some ms) ≡ None
none_kept passes limit ms past =
    let long : nat_le (length ms) limit ≡ false = grind (arith, nat_tests) in
    let bad : is_list_of passes limit ms ≡ false = rw long refl in
    rw bad refl

pub too_many : (passes : ℕ → Bool) (limit : ℕ) (ms : List ℕ) (rest : Option (List ℕ)) → limit < length ms → kept (is_list_of passes limit) (option_map (with_all ms) rest) ≡ None
too_many passes limit ms None past = refl
too_many passes limit ms (Some ns) past = none_kept passes limit (with_all ms ns) (omega (arith, with_all_grows ms ns, past))

pub with_first : (ms : List ℕ) (n : ℕ) (rest : Option (List ℕ)) → option_map (with_all ms) (option_map (λ ns. n ∷ ns) rest) ≡ option_map (with_all (put n ms)) rest
with_first ms n None = refl
with_first ms n (Some ns) = refl

-- days of the year fit 16 bits

day_fits : (n : ℕ) → is_annual_day n ≡ true → n < 2 ^ 16
day_fits n valid = grind (arith, nat_tests)

pub days_fit : (before : Option ℕ) (ms : List ℕ) (i : ℕ) → are_above is_annual_day before ms ≡ true → i < length ms → get_or ms i 0 < 2 ^ 16
days_fit before [] i above within = absurd (omega arith)
days_fit before (m ∷ ms) zero above within =
    day_fits m (and_parts (is_annual_day m) (is_above before m) (and_parts (is_annual_day m && is_above before m) (are_above is_annual_day (Some m) ms) above).0).0
days_fit before (m ∷ ms) (suc i) above within =
    days_fit (Some m) ms i (and_parts (is_annual_day m && is_above before m) (are_above is_annual_day (Some m) ms) above).1 (omega arith)
