-- The fired rows of one node, where rows are added, changed and removed.
use Rattle.std.proofs.Common.{◌≡◌, Bool, true, false, List, [], ◌∷◌, ℕ, filter, map, cond, refl, sym, ap, ◌∙◌}
use Rattle.std.specs.List.{AllByRecursion}
use Rattle.qz_types.specs.Rows.{FiredData}
use Rattle.qz_types.specs.Words.{same_text, put_fired}
use Rattle.qz_model.proofs.RowPoints.{All-weaker, All-filter, All-map}
use Rattle.qz_model.proofs.RowLaws.{All-put_fired}
use Rattle.qz_run.specs.Stores.{Row}
use Rattle.qz_seen.specs.Seen.{row_seen, rows_of}

-- a node's row, with what else holds of it
pub record Picked (n : List ℕ) (row : Row) (P : FiredData → Type 0) : Type 0 where
  pub picked : FiredData
  pub own : same_text n picked.node ≡ true
  pub shown : row_seen picked ≡ row
  pub holds : P picked

module _ (n : List ℕ) where
  -- the row is another node's
  abbrev pub IsOthers : FiredData → Type 0
  IsOthers f = same_text n f.node ≡ false

  -- where the row is the node's, it is seen so
  abbrev pub IsSeenAs : Row → FiredData → Type 0
  IsSeenAs row f = same_text n f.node ≡ true → row_seen f ≡ row

  pub rows-none : (fs : List FiredData) → AllByRecursion IsOthers fs → rows_of n fs ≡ []
  unfolding rows_of
  rows-none [] all = refl
  rows-none (f ∷ fs) all = rw all.0 (rows-none fs all.1)

  pub others-of : (fs : List FiredData) → rows_of n fs ≡ [] → AllByRecursion IsOthers fs
  unfolding rows_of
  others-of [] none = tt
  others-of (f ∷ fs) none = elim (same_text n f.node) as (λ b. map row_seen (cond b (f ∷ filter (λ g. same_text n g.node) fs) (filter (λ g. same_text n g.node) fs)) ≡ [] → (b ≡ false) × AllByRecursion IsOthers fs) [
    | true ↦ λ e. absurd (cc)
    | false ↦ λ e. (refl, others-of fs e)
  ] none

  -- no row comes from nothing
  pub none-filter : (q : FiredData → Bool) (fs : List FiredData) → rows_of n fs ≡ [] → rows_of n (filter q fs) ≡ []
  none-filter q fs none = rows-none (filter q fs) (All-filter IsOthers q fs (All-weaker IsOthers (λ f. q f ≡ true → IsOthers f) fs (λ f other stays. other) (others-of fs none)))

  pub none-map : (c : FiredData → FiredData) (fs : List FiredData) → ((f : FiredData) → (c f).node ≡ f.node) → rows_of n fs ≡ [] → rows_of n (map c fs) ≡ []
  none-map c fs keeps none = rows-none (map c fs) (All-map IsOthers c fs (All-weaker IsOthers (λ f. IsOthers (c f)) fs (λ f other. rw (keeps f) other) (others-of fs none)))

  pub none-put : (r : FiredData) (fs : List FiredData) → IsOthers r → rows_of n fs ≡ [] → rows_of n (put_fired r fs) ≡ []
  none-put r fs other none = rows-none (put_fired r fs) (All-put_fired IsOthers r fs other (others-of fs none))

  -- one row
  pub each-row : (row : Row) (fs : List FiredData) → rows_of n fs ≡ row ∷ [] → AllByRecursion (IsSeenAs row) fs
  unfolding rows_of
  each-row row [] one = absurd (cc)
  each-row row (f ∷ fs) one = elim (same_text n f.node) as (λ b. same_text n f.node ≡ b → map row_seen (cond b (f ∷ filter (λ g. same_text n g.node) fs) (filter (λ g. same_text n g.node) fs)) ≡ row ∷ [] → IsSeenAs row f × AllByRecursion (IsSeenAs row) fs) [
    | true ↦ λ is e.
        let rest : map row_seen (filter (λ g. same_text n g.node) fs) ≡ [] = cc in
        ((λ same. cc), All-weaker IsOthers (IsSeenAs row) fs (λ g other same. absurd (cc)) (others-of fs rest))
    | false ↦ λ is e. ((λ same. absurd (cc)), each-row row fs e)
  ] refl one

  pub pick : (row : Row) (P : FiredData → Type 0) (fs : List FiredData) → rows_of n fs ≡ row ∷ [] → AllByRecursion P fs → Picked n row P
  unfolding rows_of
  pick row P [] one all = absurd (cc)
  pick row P (f ∷ fs) one all = elim (same_text n f.node) as (λ b. same_text n f.node ≡ b → map row_seen (cond b (f ∷ filter (λ g. same_text n g.node) fs) (filter (λ g. same_text n g.node) fs)) ≡ row ∷ [] → Picked n row P) [
    | true ↦ λ is e. record { picked = f; own = is; shown = cc; holds = all.0 }
    | false ↦ λ is e. pick row P fs e all.1
  ] refl one

  -- the node's rows stay
  pub rows-filter : (q : FiredData → Bool) (fs : List FiredData) → AllByRecursion (λ f. same_text n f.node ≡ true → q f ≡ true) fs → rows_of n (filter q fs) ≡ rows_of n fs
  unfolding rows_of
  rows-filter q [] all = refl
  rows-filter q (f ∷ fs) all = elim (same_text n f.node) as (λ b. same_text n f.node ≡ b → rows_of n (filter q (f ∷ fs)) ≡ map row_seen (cond b (f ∷ filter (λ g. same_text n g.node) fs) (filter (λ g. same_text n g.node) fs))) [
    | true ↦ λ is. rw (all.0 is, is) (ap (λ rows. row_seen f ∷ rows) (rows-filter q fs all.1))
    | false ↦ λ is. elim (q f) as (λ c. rows_of n (cond c (f ∷ filter q fs) (filter q fs)) ≡ rows_of n fs) [
      | true ↦ rw is (rows-filter q fs all.1)
      | false ↦ rows-filter q fs all.1
    ]
  ] refl

  -- all become this one
  pub rows-map : (c : FiredData → FiredData) (row : Row) (fs : List FiredData) → ((f : FiredData) → (c f).node ≡ f.node) → AllByRecursion (λ f. same_text n f.node ≡ true → row_seen (c f) ≡ row) fs
      → rows_of n (map c fs) ≡ map (λ r. row) (rows_of n fs)
  unfolding rows_of
  rows-map c row [] keeps all = refl
  rows-map c row (f ∷ fs) keeps all =
      let at : same_text n (c f).node ≡ same_text n f.node = ap (same_text n) (keeps f) in
      elim (same_text n (c f).node) as (λ b. same_text n (c f).node ≡ b
      → map row_seen (cond b (c f ∷ filter (λ g. same_text n g.node) (map c fs)) (filter (λ g. same_text n g.node) (map c fs))) ≡ map (λ r. row) (map row_seen (cond (same_text n f.node) (f ∷ filter (λ g. same_text n g.node) fs) (filter (λ g. same_text n g.node) fs)))) [
        | true ↦ λ is.
            let own : same_text n f.node ≡ true = sym at ∙ is in
            let first : row_seen (c f) ≡ row = all.0 own in
            let rest : map row_seen (filter (λ g. same_text n g.node) (map c fs)) ≡ map (λ r. row) (map row_seen (filter (λ g. same_text n g.node) fs)) = rows-map c row fs keeps all.1 in
            rw own (λ i. first i ∷ rest i)
        | false ↦ λ is. let other : same_text n f.node ≡ false = sym at ∙ is in rw other (rows-map c row fs keeps all.1)
      ] refl
