-- What glances say of the posts that they show.
use Rattle.std.proofs.Common.{◌≡◌, ℕ, ◌+◌, ◌≤◌, List, [], ◌∷◌, length, refl, ap, sym, ◌∙◌, arith, Some, IsSome}
use mathlib.Core.List.{IsPrefix}
use Rattle.qz_board.specs.declared.glance.Glance.{Glance}
use Rattle.qz_board.specs.declared.posts.Post.{Post}
use Rattle.qz_board.specs.Posts.{entries_of, basis_of, later_of, first_count, Shows}
use Rattle.qz_board.proofs.Beginnings.{prefix_shorter}
use Rattle.qz_board.proofs.Growing.{entries_prefix, basis_prefix, whole_count}

module _ {E G : Type 0} (before : G → ℕ) (glance_of : G → List E → Glance) (counted : (b : G) (es : List E) → (glance_of b es).entries ≡ before b + length es) where
  -- A glance counts all entries of its posts, and those before.
  pub shown_count : (log : List (Post E G)) (b : G) (glance : Glance) → basis_of log ≡ Some b → Shows glance_of (basis_of log) (entries_of log) glance → glance.entries ≡ before b + length (entries_of log)
  shown_count [] b glance is shows = absurd (cc is)
  shown_count (p ∷ ps) b glance is shows =
      let same : p.basis ≡ b = cc is in
      ap (λ (s : Glance). s.entries) shows ∙ (counted p.basis (entries_of (p ∷ ps)) ∙ ap (λ k. before k + length (entries_of (p ∷ ps))) same)

  -- It counts those of the first post, and the later ones.
  pub parts_count : (log : List (Post E G)) (glance : Glance) → IsSome (basis_of log) → Shows glance_of (basis_of log) (entries_of log) glance → glance.entries ≡ first_count before log + length (later_of log)
  parts_count [] glance begun shows = absurd (cc begun)
  parts_count (p ∷ ps) glance begun shows = shown_count (p ∷ ps) p.basis glance refl shows ∙ whole_count before (p ∷ ps) p.basis refl

  -- Of two glances of one board, the one with no more entries shows a beginning of what the other shows.
  pub shown_shorter : (xs ys all : List (Post E G)) (p q : Glance) → IsSome (basis_of xs) → IsSome (basis_of ys)
      → Shows glance_of (basis_of xs) (entries_of xs) p → Shows glance_of (basis_of ys) (entries_of ys) q
      → IsPrefix xs all → IsPrefix ys all → p.entries ≤ q.entries → IsPrefix (entries_of xs) (entries_of ys)
  shown_shorter [] ys all p q begun ybegun xshows yshows x y le = absurd (cc begun)
  shown_shorter (x ∷ xs) ys all p q begun ybegun xshows yshows xin yin le =
      let same : basis_of ys ≡ Some x.basis = sym (basis_prefix ys all yin ybegun) ∙ basis_prefix (x ∷ xs) all xin begun in
      let a = shown_count (x ∷ xs) x.basis p refl xshows in
      let b = shown_count ys x.basis q same yshows in
      prefix_shorter (entries_of (x ∷ xs)) (entries_of ys) (entries_of all) (entries_prefix (x ∷ xs) all xin) (entries_prefix ys all yin) (omega (arith, a, b, le))
