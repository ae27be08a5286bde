-- Histories that begin others.
use Rattle.std.proofs.Common.{◌≡◌, List, ◌++◌, length, drop, sym, ap, ◌∙◌, subst}
use Rattle.std.proofs.Math.Seq.{drop-append_seam}
use Rattle.std.specs.Prelude.{Result, Ok, Err, OnOk, OnErr}
use mathlib.Core.List.{IsPrefix}
use Rattle.qz_rounds.proofs.Lists.{prefix_refl}

module _ {E : Type 0} where
  -- what is left of a list after one that begins it
  pub rest_of : (xs ys : List E) → IsPrefix xs ys → xs ++ drop (length xs) ys ≡ ys
  rest_of xs ys p = ap (λ w. xs ++ drop (length xs) w) (sym p.1) ∙ ap (λ w. xs ++ w) (drop-append_seam xs p.0) ∙ p.1

  pub begins_by_rest : (xs ys : List E) → xs ++ drop (length xs) ys ≡ ys → IsPrefix xs ys
  begins_by_rest xs ys is = (drop (length xs) ys, is)

  -- After a post the board shows the whole history, and without memory what it showed.
  pub post_begins : {A B : Type 0} (r : Result A B) (new old whole : List E) → OnOk r (new ≡ whole) → OnErr r (new ≡ old) → IsPrefix old whole → new ++ drop (length new) whole ≡ whole
  post_begins (Ok a) new old whole ok err begins = rest_of new whole (subst (λ xs. IsPrefix xs whole) (sym ok) (prefix_refl whole))
  post_begins (Err b) new old whole ok err begins = rest_of new whole (subst (λ xs. IsPrefix xs whole) (sym err) begins)
