-- The writer's step keeps the rule, and adds what was asked for.
use Rattle.std.proofs.Common.{◌≡◌, ℕ, ◌+◌, ◌<◌, ◌==◌, Bool, true, false, List, [], ◌∷◌, ◌++◌, length, drop, refl, ap, sym, ◌∙◌, subst, arith, inl, Some, None, IsSome, length-append, length-drop, append_assoc}
use Rattle.std.proofs.lemmas.List.{append-nil}
use Rattle.std.proofs.lemmas.Bool.Decides.{nat_tests}
use mathlib.Core.List.{IsPrefix}
use prog.Atomic.{either}
use Rattle.logbook.specs.Pages.{Cell, cell, keeps, no_nib, step, Moves, Goes}
use Rattle.qz_board.specs.declared.posts.Post.{Post}
use Rattle.qz_board.specs.Posts.{post, entries_of, basis_of, later_of, first_count, IsKept, Grows}
use Rattle.qz_board.proofs.Beginnings.{prefix_whole, prefix_length, prefix_drop}

module _ {E G : Type 0} where
  pub entries_of-append : (xs ys : List (Post E G)) → entries_of (xs ++ ys) ≡ entries_of xs ++ entries_of ys
  entries_of-append [] ys = refl
  entries_of-append (p ∷ ps) ys = ap (λ l. p.entries ++ l) (entries_of-append ps ys) ∙ sym (append_assoc p.entries (entries_of ps) (entries_of ys))

  -- The entries of a beginning of the posts are a beginning of all entries.
  pub entries_prefix : (xs ys : List (Post E G)) → IsPrefix xs ys → IsPrefix (entries_of xs) (entries_of ys)
  entries_prefix xs ys p = (entries_of p.0, sym (entries_of-append xs p.0) ∙ ap entries_of p.1)

  -- A beginning of the posts has the basis of the first.
  pub basis_prefix : (xs ys : List (Post E G)) → IsPrefix xs ys → IsSome (basis_of xs) → basis_of ys ≡ basis_of xs
  basis_prefix [] ys p begun = absurd (cc begun)
  basis_prefix (x ∷ xs) ys p begun = sym (ap basis_of p.1)

  pub count_prefix : (before : G → ℕ) (xs ys : List (Post E G)) → IsPrefix xs ys → IsSome (basis_of xs) → first_count before ys ≡ first_count before xs
  count_prefix before [] ys p begun = absurd (cc begun)
  count_prefix before (x ∷ xs) ys p begun = sym (ap (first_count before) p.1)

  -- All entries are those of the first post and the later ones.
  pub whole_count : (before : G → ℕ) (log : List (Post E G)) (b : G) → basis_of log ≡ Some b → before b + length (entries_of log) ≡ first_count before log + length (later_of log)
  whole_count before [] b is = absurd (cc is)
  whole_count before (p ∷ ps) b is =
      let same : p.basis ≡ b = cc is in
      let sum = length-append p.entries (entries_of ps) in
      rw same (omega (arith, sum))

  whole_length : (log : List (Post E G)) → length (entries_of log) ≡ first_count (λ _. 0) log + length (later_of log)
  whole_length [] = refl
  whole_length (p ∷ ps) = let sum = length-append p.entries (entries_of ps) in omega (arith, sum)

  later-append : (log more : List (Post E G)) → IsSome (basis_of log) → later_of (log ++ more) ≡ later_of log ++ entries_of more
  later-append [] more begun = absurd (cc begun)
  later-append (p ∷ ps) more begun = entries_of-append ps more

  begun-append : (log more : List (Post E G)) → IsSome (basis_of log) → IsSome (basis_of (log ++ more))
  begun-append [] more begun = absurd (cc begun)
  begun-append (p ∷ ps) more begun = begun

  abbrev pub shown : List (Post E G) → List (Post E G)
  shown log = []

  abbrev pub moved : List (Post E G) → List (Post E G) → ℕ → Type 0
  moved xs ys n = Unit {0}

  -- The posts that are asked for, after those that there are.
  abbrev further : List (Post E G) → Post E G → List (Post E G)
  further v ask = post ask.basis (drop (length (entries_of v)) ask.entries) ∷ []

  -- As long a list of posts as was seen has the same entries.
  unchanged : (v log : List (Post E G)) → IsSome (basis_of v) → IsPrefix v log → length (later_of log) ≡ length (later_of v) → entries_of v ≡ entries_of log
  unchanged v log begun pre same =
      let first = count_prefix (λ _. 0) v log pre begun in
      let a = whole_length v in
      let b = whole_length log in
      prefix_whole (entries_of v) (entries_of log) (entries_prefix v log pre) (omega (arith, first, a, b, same))

  asked : (v log : List (Post E G)) (ask : Post E G) → entries_of v ≡ entries_of log → IsPrefix (entries_of v) ask.entries → entries_of (log ++ further v ask) ≡ ask.entries
  asked v log ask same pre = entries_of-append log (further v ask)
      ∙ (ap (λ l. l ++ entries_of (further v ask)) (sym same)
      ∙ (ap (λ l. entries_of v ++ l) (append-nil (drop (length (entries_of v)) ask.entries)) ∙ prefix_drop (entries_of v) ask.entries pre))

  grow_goes : (v log : List (Post E G)) (ask : Post E G) (old new : ℕ) → IsSome (basis_of v) → IsSome (basis_of log) → IsPrefix v log → old ≡ length (later_of v)
      → IsPrefix (entries_of v) ask.entries → new + length (entries_of v) ≡ old + length ask.entries
      → (b : Bool) → (length (later_of log) == old) ≡ b
      → Goes IsKept shown moved 0 (v, (no_nib, None)) (λ n. either (n == old) new n) (Grows (step 0 old new ask) (v, (no_nib, None))) ((length (later_of log), true) ∷ []) log
  grow_goes v log ask old new begun full pre old_is on sum true is =
      let here : length (later_of log) ≡ old = grind (arith, nat_tests) in
      let same : entries_of v ≡ entries_of log = unchanged v log begun pre (here ∙ old_is) in
      let rest : List (Post E G) = further v ask in
      let later = later-append log rest full in
      let parts = length-append (later_of log) (entries_of rest) in
      let none : length (entries_of rest) ≡ length (drop (length (entries_of v)) ask.entries) = ap length (append-nil (drop (length (entries_of v)) ask.entries)) in
      let cut = length-drop (length (entries_of v)) ask.entries in
      let fits = prefix_length (entries_of v) ask.entries on in
      let n : either (length (later_of log) == old) new (length (later_of log)) ≡ length (later_of (log ++ rest)) = rw is (omega (arith, ap length later, parts, none, cut, fits, sum, here)) in (
        keeps,
        rest,
        None,
        tt,
        record { begun = begun-append log rest full; cells_are = ap (λ (k : ℕ). (k, true) ∷ []) n },
        inl (refl, refl),
        rw is (asked v log ask same on),
      )
  grow_goes v log ask old new begun full pre old_is on sum false is =
      let all : log ++ [] ≡ log = append-nil log in
      let n : either (length (later_of log) == old) new (length (later_of log)) ≡ length (later_of (log ++ [])) = rw is (ap (λ l. length (later_of l)) (sym all)) in (
        keeps,
        [],
        None,
        tt,
        record { begun = begun-append log [] full; cells_are = ap (λ (k : ℕ). (k, true) ∷ []) n },
        inl (refl, refl),
        rw is tt,
      )

  -- Whatever was posted, the step adds what was asked for, or finds that there was more than was seen.
  pub grow_moves : (v : List (Post E G)) (ask : Post E G) (old new : ℕ) → IsSome (basis_of v) → old ≡ length (later_of v) → IsPrefix (entries_of v) ask.entries
      → new + length (entries_of v) ≡ old + length ask.entries
      → Moves IsKept shown moved 0 (v, (no_nib, None)) (λ n. either (n == old) new n) (Grows (step 0 old new ask) (v, (no_nib, None)))
  grow_moves v ask old new begun old_is on sum cs log kept pre away =
      let P : List Cell → Type 0 = λ c. (0 < length c) × ((cell c 0).1 ≡ true) × Goes IsKept shown moved 0 (v, (no_nib, None)) (λ n. either (n == old) new n) (Grows (step 0 old new ask) (v, (no_nib, None))) c log in
      subst P (sym kept.cells_are) (omega arith, refl, grow_goes v log ask old new begun kept.begun pre old_is on sum (length (later_of log) == old) refl)
