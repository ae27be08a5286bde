-- The lines of an input, one at a time.
use Rattle.std.proofs.Common.{◌≡◌, ◌≢◌, ◌∙◌, ℕ, List, [], ◌∷◌, ◌++◌, arith, refl, ap, append_assoc}
use Rattle.std.specs.List.{All}
use Rattle.std.proofs.lemmas.List.Elements.{All-head, All-tail}
use Rattle.std.proofs.lemmas.Bool.Decides.{nat_tests}
use Rattle.qz_io.specs.Lines.{IsOneLine, lines_of, with_feed, with_feeds}

-- a line and its line feed are the first line
pub lines_of-line : (line rest : List ℕ) → IsOneLine line → lines_of (line ++ 10 ∷ rest) ≡ line ∷ lines_of rest
lines_of-line [] rest one = refl
lines_of-line (b ∷ bs) rest one =
    let other = All-head (λ c. c ≢ 10) b bs one in
    let more = lines_of-line bs rest (All-tail (λ c. c ≢ 10) b bs one) in
    grind (arith, nat_tests)

-- some bytes without a line feed are one line
pub lines_of-rest : (rest : List ℕ) → rest ≢ [] → IsOneLine rest → lines_of rest ≡ rest ∷ []
lines_of-rest [] some one = absurd (some refl)
lines_of-rest (b ∷ []) some one = let other = All-head (λ c. c ≢ 10) b [] one in grind (arith, nat_tests)
lines_of-rest (b ∷ c ∷ cs) some one =
    let other = All-head (λ d. d ≢ 10) b (c ∷ cs) one in
    let more = lines_of-rest (c ∷ cs) (λ none. cc) (All-tail (λ d. d ≢ 10) b (c ∷ cs) one) in
    grind (arith, nat_tests)

-- lines with their line feeds come first, and then the lines of what follows
pub lines_of-append : (lines : List (List ℕ)) (rest : List ℕ) → All IsOneLine lines
    → lines_of (with_feeds lines ++ rest) ≡ lines ++ lines_of rest
lines_of-append [] rest one = refl
lines_of-append (line ∷ lines) rest one =
    let more = lines_of-append lines rest (All-tail IsOneLine line lines one) in
    let joined : with_feeds (line ∷ lines) ++ rest ≡ line ++ 10 ∷ (with_feeds lines ++ rest) =
    append_assoc (with_feed line) (with_feeds lines) rest ∙ append_assoc line (10 ∷ []) (with_feeds lines ++ rest) in
    ap lines_of joined ∙ lines_of-line line (with_feeds lines ++ rest) (All-head IsOneLine line lines one) ∙ ap (λ ls. line ∷ ls) more
