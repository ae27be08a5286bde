-- Lines that were taken from a source one by one, and what is known of all its bytes where it tells them.
use Rattle.std.proofs.Common.{◌≡◌, ℕ, List, [], ◌∷◌, ◌++◌, Option, Some, None, refl, sym, ap, ◌∙◌, subst, append_assoc}
use Rattle.std.specs.List.{AllByRecursion}
use Rattle.std.specs.Io.KnownBytes.{Consumes, IsAtEnd}
use Rattle.std.proofs.KnownBytes.{Consumes-trans}
use Rattle.std.proofs.lemmas.List.{append-nil}
use Rattle.std.proofs.lemmas.List.Elements.{All-from_recursion}
use Rattle.std.proofs.lemmas.Grind.{flat_map-append}
use Rattle.qz_io.specs.Ahead.{Ahead, BeginsWith, BeginWith, Told}
use Rattle.qz_io.specs.Lines.{IsOneLine, lines_of, with_feed, with_feeds}
use Rattle.qz_io.proofs.AheadLaws.{at_end}
use Rattle.qz_io.proofs.Cut.{lines_of-append}

pub AllByRecursion-append : {A : Type 0} (P : A → Type 0) (xs ys : List A) → AllByRecursion P xs → AllByRecursion P ys → AllByRecursion P (xs ++ ys)
AllByRecursion-append P [] ys p q = q
AllByRecursion-append P (x ∷ xs) ys p q = (p.0, AllByRecursion-append P xs ys p.1 q)

after_feeds : (lines : List (List ℕ)) (pending got : List ℕ) → with_feeds lines ++ (pending ++ got) ≡ (with_feeds lines ++ pending) ++ got
after_feeds lines pending got = sym (append_assoc (with_feeds lines) pending got)

pub taken_more : (a b c : Option (List ℕ)) (lines : List (List ℕ)) (pending got out pending' : List ℕ)
    → Consumes a b (with_feeds lines ++ pending) → Consumes b c got → pending ++ got ≡ out ++ pending'
    → Consumes a c (with_feeds lines ++ (out ++ pending'))
taken_more a b c lines pending got out pending' p q kept =
    subst (Consumes a c) (sym (after_feeds lines pending got) ∙ ap (λ bytes. with_feeds lines ++ bytes) kept) (Consumes-trans a b c _ _ p q)

pub feeds_more : (lines : List (List ℕ)) (line pending' : List ℕ) → with_feeds lines ++ (with_feed line ++ pending') ≡ with_feeds (lines ++ line ∷ []) ++ pending'
feeds_more lines line pending' =
    let one : with_feeds (line ∷ []) ≡ with_feed line = append-nil (with_feed line) in
    sym (ap (λ bytes. bytes ++ pending') (flat_map-append with_feed lines (line ∷ []) ∙ ap (λ bytes. with_feeds lines ++ bytes) one) ∙ append_assoc (with_feeds lines) (with_feed line) pending')

-- the lines of a source that tells its bytes: those taken, and those ahead
pub whole : (bytes : List ℕ) (j k : Option (List ℕ)) (lines : List (List ℕ)) (pending got rest : List ℕ) → AllByRecursion IsOneLine lines
    → Consumes (Some bytes) j (with_feeds lines ++ pending) → Consumes j k got → k ≡ Some rest → lines_of bytes ≡ lines ++ lines_of ((pending ++ got) ++ rest)
whole bytes j k lines pending got rest one taken more told =
    let both : Consumes (Some bytes) k ((with_feeds lines ++ pending) ++ got) = Consumes-trans (Some bytes) j k _ _ taken more in
    let here : Consumes (Some bytes) (Some rest) ((with_feeds lines ++ pending) ++ got) = subst (λ l. Consumes (Some bytes) l ((with_feeds lines ++ pending) ++ got)) told both in
    ap lines_of (here ∙ ap (λ b. b ++ rest) (append_assoc (with_feeds lines) pending got) ∙ append_assoc (with_feeds lines) (pending ++ got) rest)
    ∙ lines_of-append lines ((pending ++ got) ++ rest) (All-from_recursion IsOneLine lines one)

-- a source that told its bytes tells what is left
pub told_rest : (bytes : List ℕ) (j k : Option (List ℕ)) (xs ys : List ℕ) → Consumes (Some bytes) j xs → Consumes j k ys → (rest : List ℕ) × (k ≡ Some rest)
told_rest bytes None k xs ys p q = absurd p
told_rest bytes (Some l) None xs ys p q = absurd q
told_rest bytes (Some l) (Some r) xs ys p q = (r, refl)

pub told_ahead : (bytes : List ℕ) (j k : Option (List ℕ)) (lines : List (List ℕ)) (pending : List ℕ) (P : List ℕ → Type 0)
    → AllByRecursion IsOneLine lines → Consumes (Some bytes) j (with_feeds lines ++ pending) → Ahead j k pending P → Told bytes lines P
told_ahead bytes j k lines pending P one taken ahead =
    let rest = told_rest bytes j k _ _ taken ahead.taken in
    record {
      ahead = (pending ++ ahead.got) ++ rest.0;
      all = whole bytes j k lines pending ahead.got rest.0 one taken ahead.taken rest.1;
      is = ahead.ahead rest.0 rest.1;
    }

-- the next line stands behind those taken
pub begins_part : (bytes : List ℕ) (j k : Option (List ℕ)) (lines : List (List ℕ)) (pending line : List ℕ) → AllByRecursion IsOneLine lines → Consumes (Some bytes) j (with_feeds lines ++ pending)
    → Ahead j k pending (BeginsWith line) → BeginWith (lines ++ line ∷ []) (lines_of bytes)
begins_part bytes j k lines pending line one taken ahead =
    let told = told_ahead bytes j k lines pending (BeginsWith line) one taken ahead in
    record { rest = told.is.more; all = told.all ∙ ap (λ l. lines ++ l) told.is.lines ∙ sym (append_assoc lines (line ∷ []) told.is.more) }

pub begins_some : (bytes : List ℕ) (j k : Option (List ℕ)) (lines : List (List ℕ)) (pending got : List ℕ) → AllByRecursion IsOneLine lines → Consumes (Some bytes) j (with_feeds lines ++ pending) → Consumes j k got
    → BeginWith lines (lines_of bytes)
begins_some bytes j k lines pending got one taken more =
    let rest = told_rest bytes j k _ _ taken more in
    record { rest = lines_of ((pending ++ got) ++ rest.0); all = whole bytes j k lines pending got rest.0 one taken more rest.1 }

-- where nothing is left behind the bytes that were got, their lines are the last
pub whole_end : (bytes : List ℕ) (j k : Option (List ℕ)) (lines more : List (List ℕ)) (pending got : List ℕ) → AllByRecursion IsOneLine lines
    → Consumes (Some bytes) j (with_feeds lines ++ pending) → Consumes j k got → IsAtEnd k → lines_of (pending ++ got) ≡ more → lines_of bytes ≡ lines ++ more
whole_end bytes j k lines more pending got one taken consumed ended all =
    let rest = told_rest bytes j k _ _ taken consumed in
    whole bytes j k lines pending got rest.0 one taken consumed rest.1
    ∙ ap (λ r. lines ++ lines_of ((pending ++ got) ++ r)) (at_end k rest.0 ended rest.1)
    ∙ ap (λ b. lines ++ lines_of b) (append-nil (pending ++ got))
    ∙ ap (λ l. lines ++ l) all
