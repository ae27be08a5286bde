-- What holds of each entry of a list, as the list grows or is put together of two.
use Rattle.std.proofs.Common.{◌≡◌, ℕ, List, [], ◌∷◌, ◌++◌, Bool, true, false, cond, ◌||◌, refl, sym, ap, ◌∙◌, subst, append_assoc, append-nil}
use Rattle.std.specs.Prelude.{filter}
use Rattle.std.specs.List.{AllByRecursion}
use mathlib.Core.List.{IsPrefix}
use Rattle.qz_row_lock.specs.Views.{has, entries_of}
use Rattle.qz_row_lock.proofs.Claims.{has-append, owned_first, owned_second}

module _ {E : Type 0} where
  pub prefix_refl : (xs : List E) → IsPrefix xs xs
  prefix_refl xs = ([], append-nil xs)

  pub prefix_trans : (xs ys zs : List E) → IsPrefix xs ys → IsPrefix ys zs → IsPrefix xs zs
  prefix_trans xs ys zs p q = (p.0 ++ q.0, sym (append_assoc xs p.0 q.0) ∙ ap (λ l. l ++ q.0) p.1 ∙ q.1)

  pub all_map : (P Q : E → Type 0) → ((x : E) → P x → Q x) → (xs : List E) → AllByRecursion P xs → AllByRecursion Q xs
  all_map P Q f [] all = tt
  all_map P Q f (x ∷ xs) all = (f x all.0, all_map P Q f xs all.1)

  module _ (P : E → Type 0) where
    pub all_more : (xs : List E) (x : E) → AllByRecursion P xs → P x → AllByRecursion P (xs ++ x ∷ [])
    all_more [] x all is = (is, tt)
    all_more (y ∷ xs) x all is = (all.0, all_more xs x all.1 is)

    module _ (test : E → Bool) where
      taken : (x : E) (xs : List E) → test x ≡ true → AllByRecursion P (filter test (x ∷ xs)) → P x × AllByRecursion P (filter test xs)
      taken x xs is all = subst (λ b. AllByRecursion P (cond b (x ∷ filter test xs) (filter test xs))) is all

      passed : (x : E) (xs : List E) → test x ≡ false → AllByRecursion P (filter test (x ∷ xs)) → AllByRecursion P (filter test xs)
      passed x xs is all = subst (λ b. AllByRecursion P (cond b (x ∷ filter test xs) (filter test xs))) is all

      take : (x : E) (xs : List E) → test x ≡ true → P x → AllByRecursion P (filter test xs) → AllByRecursion P (filter test (x ∷ xs))
      take x xs is p all = subst (λ b. AllByRecursion P (cond b (x ∷ filter test xs) (filter test xs))) (sym is) (p, all)

      pass : (x : E) (xs : List E) → test x ≡ false → AllByRecursion P (filter test xs) → AllByRecursion P (filter test (x ∷ xs))
      pass x xs is all = subst (λ b. AllByRecursion P (cond b (x ∷ filter test xs) (filter test xs))) (sym is) all

    module _ (num : E → ℕ) (a b : List ℕ) where
      abbrev first : E → Bool
      first e = has a (num e)

      abbrev second : E → Bool
      second e = has b (num e)

      abbrev either : E → Bool
      either e = has (a ++ b) (num e)

      step : (x : E) (xs : List E) → (AllByRecursion P (filter first xs) → AllByRecursion P (filter second xs) → AllByRecursion P (filter either xs))
          → (s t : Bool) → first x ≡ s → second x ≡ t → AllByRecursion P (filter first (x ∷ xs)) → AllByRecursion P (filter second (x ∷ xs)) → AllByRecursion P (filter either (x ∷ xs))
      step x xs rest true true p q h k = let l = taken first x xs p h in let r = taken second x xs q k in
          take either x xs (has-append (num x) a b ∙ ap (λ u. u || second x) p) l.0 (rest l.1 r.1)
      step x xs rest true false p q h k = let l = taken first x xs p h in
          take either x xs (has-append (num x) a b ∙ ap (λ u. u || second x) p) l.0 (rest l.1 (passed second x xs q k))
      step x xs rest false true p q h k = let r = taken second x xs q k in
          take either x xs (has-append (num x) a b ∙ ap (λ u. u || second x) p ∙ q) r.0 (rest (passed first x xs p h) r.1)
      step x xs rest false false p q h k =
          pass either x xs (has-append (num x) a b ∙ ap (λ u. u || second x) p ∙ q) (rest (passed first x xs p h) (passed second x xs q k))

      both : (xs : List E) → AllByRecursion P (filter first xs) → AllByRecursion P (filter second xs) → AllByRecursion P (filter either xs)
      both [] h k = tt
      both (x ∷ xs) h k = step x xs (both xs) (first x) (second x) refl refl h k

      -- A seat was joined into another. Its entries are those of both, and what holds of each of those holds of them.
      pub all_joined : (ids : List ℕ) (past mine one two : List E) → mine ≡ entries_of num ids past → ids ≡ a ++ b
          → entries_of num a mine ≡ one → entries_of num b mine ≡ two → AllByRecursion P one → AllByRecursion P two → AllByRecursion P mine
      all_joined ids past mine one two is split left right h k =
          let whole : mine ≡ entries_of num (a ++ b) past = is ∙ ap (λ l. entries_of num l past) split in
          let l : entries_of num a past ≡ one = sym (owned_first num a b past) ∙ ap (entries_of num a) (sym whole) ∙ left in
          let r : entries_of num b past ≡ two = sym (owned_second num a b past) ∙ ap (entries_of num b) (sym whole) ∙ right in
          subst (AllByRecursion P) (sym whole) (both past (subst (AllByRecursion P) (sym l) h) (subst (AllByRecursion P) (sym r) k))
