-- Lines that go on: their steps, readings and the first bad one.
use Rattle.std.proofs.Common.{◌≡◌, ◌≤◌, ◌<◌, ℕ, suc, ◌+◌, ℤ, List, [], ◌∷◌, ◌++◌, length, true, false, nat_lt, Option, Some, None, refl, ap, ◌∙◌, arith}
use Rattle.std.specs.Prelude.{Ok, Err}
use Rattle.std.specs.List.{AllByRecursion}
use Rattle.std.proofs.lemmas.Bool.Decides.{nat_tests}
use Rattle.qz_steps.specs.declared.steps.Step.{Step}
use Rattle.qz_cluster.specs.Script.{TimedStep}
use Rattle.qz_job_json.specs.declared.faults.LineFault.{LineFault}
use Rattle.qz_io.specs.declared.limits.TheConstants.{LINE_COUNT_LIMIT}
use Rattle.qz_top.specs.declared.statuses.Status.{Status}
use Rattle.qz_top.specs.declared.statuses.Status.TheVariants.{BadLine}
use Rattle.qz_top.specs.declared.statuses.BadKind.TheVariants as bad
use Rattle.qz_top.specs.Lines.{Meaning, line_meaning, kind_of, IsGoodMeaning, IsGood, readings_of_at, readings_of_meaning, readings_of, timed, steps_by_meaning, steps_of, bad_by_meaning, first_bad_from}

-- the first reading goes to a line that takes one, and the others to the rest
timed_goes_on : (at : Option ℤ) (step : Step) (rs qs : List ℤ) (n : ℕ) (rest : List ℤ → List TimedStep) (more : List TimedStep)
    → length rs ≡ readings_of_at at + n
    → (whole : List ℤ → List TimedStep)
    → ((ps : List ℤ) → length ps ≡ n → whole (ps ++ qs) ≡ rest ps ++ more)
    → timed at step (rs ++ qs) whole ≡ timed at step rs rest ++ more
timed_goes_on (Some at) step rs qs n rest more len whole go = ap (λ ts. record { step = step; at = at } ∷ ts) (go rs (omega arith))
timed_goes_on None step [] qs n rest more len whole go = absurd (omega arith)
timed_goes_on None step (r ∷ rs) qs n rest more len whole go = ap (λ ts. record { step = step; at = r } ∷ ts) (go rs (omega arith))

meaning_goes_on : (m : Meaning) (rs qs : List ℤ) (n : ℕ) (rest : List ℤ → List TimedStep) (more : List TimedStep)
    → IsGoodMeaning m → length rs ≡ readings_of_meaning m + n
    → (whole : List ℤ → List TimedStep)
    → ((ps : List ℤ) → length ps ≡ n → whole (ps ++ qs) ≡ rest ps ++ more)
    → steps_by_meaning m (rs ++ qs) whole ≡ steps_by_meaning m rs rest ++ more
meaning_goes_on (Err fault) rs qs n rest more good len whole go = absurd good
meaning_goes_on (Ok None) rs qs n rest more good len whole go = go rs (omega arith)
meaning_goes_on (Ok (Some given)) rs qs n rest more good len whole go = timed_goes_on given.at given.step rs qs n rest more len whole go

-- the steps of lines and of those after them
pub steps_of-append : (xs ys : List (List ℕ)) (rs qs : List ℤ) → AllByRecursion IsGood xs → length rs ≡ readings_of xs
    → steps_of (xs ++ ys) (rs ++ qs) ≡ steps_of xs rs ++ steps_of ys qs
steps_of-append [] ys [] qs good len = refl
steps_of-append [] ys (r ∷ rs) qs good len = absurd (omega arith)
steps_of-append (x ∷ xs) ys rs qs good len =
    meaning_goes_on (line_meaning x) rs qs (readings_of xs) (steps_of xs) (steps_of ys qs) good.0 len (steps_of (xs ++ ys))
    (λ ps here. steps_of-append xs ys ps qs good.1 here)

pub readings_of-append : (xs ys : List (List ℕ)) → readings_of (xs ++ ys) ≡ readings_of xs + readings_of ys
readings_of-append [] ys = omega arith
readings_of-append (x ∷ xs) ys = omega (arith, readings_of-append xs ys)

bad_after : (m : Meaning) (number : ℕ) (rest rest' : Option Status) → IsGoodMeaning m → rest ≡ rest' → bad_by_meaning m number rest ≡ rest'
bad_after (Ok given) number rest rest' good same = same
bad_after (Err fault) number rest rest' good same = absurd good

not_past : (number : ℕ) → number ≤ LINE_COUNT_LIMIT → nat_lt LINE_COUNT_LIMIT number ≡ false
not_past number low = grind (arith, nat_tests)

-- the first bad line stands after the good ones
pub first_bad_from-append : (number : ℕ) (xs ys : List (List ℕ)) → AllByRecursion IsGood xs → number + length xs ≤ LINE_COUNT_LIMIT + 1
    → first_bad_from number (xs ++ ys) ≡ first_bad_from (number + length xs) ys
first_bad_from-append number [] ys good low = ap (λ n. first_bad_from n ys) (omega arith)
first_bad_from-append number (x ∷ xs) ys good low =
    let here : nat_lt LINE_COUNT_LIMIT number ≡ false = not_past number (omega arith) in
    let low' : number + 1 + length xs ≤ LINE_COUNT_LIMIT + 1 = omega arith in
    let same : number + 1 + length xs ≡ number + suc (length xs) = omega arith in
    rw here (bad_after (line_meaning x) number (first_bad_from (number + 1) (xs ++ ys)) _ good.0
    (first_bad_from-append (number + 1) xs ys good.1 low' ∙ ap (λ n. first_bad_from n ys) same))

bad_here : (m : Meaning) (fault : LineFault) (number : ℕ) (rest : Option Status) → m ≡ Err fault → bad_by_meaning m number rest ≡ Some (BadLine number (kind_of fault))
bad_here m fault number rest e = rw e refl

-- a bad line is the first bad one, where it isn't one too many
pub first_bad_from-bad : (number : ℕ) (line : List ℕ) (lines : List (List ℕ)) (fault : LineFault) → number ≤ LINE_COUNT_LIMIT → line_meaning line ≡ Err fault
    → first_bad_from number (line ∷ lines) ≡ Some (BadLine number (kind_of fault))
first_bad_from-bad number line lines fault low e = rw (not_past number low) (bad_here (line_meaning line) fault number _ e)

-- one line too many is the first bad one
pub first_bad_from-many : (number : ℕ) (line : List ℕ) (lines : List (List ℕ)) → LINE_COUNT_LIMIT < number
    → first_bad_from number (line ∷ lines) ≡ Some (BadLine number bad.TooManyLines)
first_bad_from-many number line lines high =
    let past : nat_lt LINE_COUNT_LIMIT number ≡ true = grind (arith, nat_tests) in
    rw past refl
