-- What a change of one view leaves as it was.
use Rattle.std.proofs.Common.{◌≡◌, ◌≢◌, ◌⊎◌, ℕ, zero, suc, ◌≤◌, List, [], ◌∷◌, ◌++◌, set, Bool, true, false, true≢false, refl, sym, ap, ◌∙◌, subst, ⊎_elim, inl, inr, arith}
use Rattle.std.specs.Prelude.{Option, eqb}
use Rattle.std.proofs.lemmas.Bool.Decides.{eqb_tells}
use mathlib.Core.Option as maybe
use mathlib.Core.Option.{some, some-ne-none, some-injective}
use lib.ListN.{get_elem?}
use Rattle.atomic_table.proofs.Lists.{at_set, set_else}
use Rattle.qz_row_lock.specs.declared.view.View.{View}
use Rattle.qz_row_lock.specs.Views.{bit, total, claim_count, holding_count, spent}
use Rattle.qz_row_lock.specs.Rows.{Fits, Good, Covered, Counts, Apart, Home, Away}
use Rattle.qz_row_lock.proofs.Totals.{total_set, total_le}

pub clash : {b : Bool} → b ≡ true → b ≡ false → ⊥
clash p q = true≢false (sym p ∙ q)

pub bit_le : (b : Bool) (n : ℕ) → (n ≡ 0 → b ≡ false) → bit b ≤ n
bit_le false n h = omega arith
bit_le true zero h = absurd (clash refl (h refl))
bit_le true (suc n) h = omega arith

-- what holds of the others and of the new view holds of all
pub each_set : {A : Type 0} (P : A → Type 0) (l : List A) (i : ℕ) (w : A) → ((j : ℕ) (u : A) → j ≢ i → get_elem? l j ≡ some u → P u) → P w → (j : ℕ) (u : A) → get_elem? (set l i w) j ≡ some u → P u
each_set {A} P l i w others mine j u e =
    ⊎_elim
    (λ (x : (j ≡ i) × (w ≡ u)). subst P x.1 mine)
    (λ (x : (j ≢ i) × (get_elem? l j ≡ some u)). others j u x.0 x.1)
    (at_set l i j w u e)

pub same_at : {A : Type 0} (l : List A) (i j : ℕ) (a b : A) → get_elem? l i ≡ some a → get_elem? l j ≡ some b → i ≡ j → a ≡ b
same_at {A} l i j a b e h p = some-injective a b (sym e ∙ subst (λ k. get_elem? l k ≡ some b) (sym p) h)

module _ {E G : Type 0} (num : E → ℕ) where
  pub covered_le : (es : List E) (views later : List (View E G)) → ((x : ℕ) → total (claim_count x) views ≤ total (claim_count x) later) → Covered num es views → Covered num es later
  covered_le [] views later h c = tt
  covered_le (e ∷ es) views later h c = (let k = h (num e) in let m = c.0 in omega arith, covered_le es views later h c.1)

  pub covered-append : (xs ys : List E) (views : List (View E G)) → Covered num xs views → Covered num ys views → Covered num (xs ++ ys) views
  covered-append [] ys views h k = k
  covered-append (x ∷ xs) ys views h k = (h.0, covered-append xs ys views h.1 k)

  pub counts_set : (added : List E) (views : List (View E G)) (id : ℕ) (v w : View E G) → get_elem? views id ≡ some v → w.parts ≡ v.parts → ((x : ℕ) → claim_count x w ≡ claim_count x v) → ((x : ℕ) → holding_count x w ≡ holding_count x v) → Counts num added views → Counts num added (set views id w)
  counts_set added views id v w at p c h k =
      record {
        parts = (let t = total_set (λ (u : View E G). u.parts) views id v w at in let q = k.parts in omega arith);
        numbers = λ x. (let t = total_set (holding_count x) views id v w at in let q = k.numbers x in let e = h x in omega arith);
        covered = covered_le added views (set views id w) (λ x. (let t = total_set (claim_count x) views id v w at in let e = c x in omega arith)) k.covered;
      }

  pub apart_set : (views : List (View E G)) (id : ℕ) (w : View E G) → Apart num views → ((j : ℕ) (u : View E G) → j ≢ id → get_elem? views j ≡ some u → u.queued ≡ true → w.queued ≡ true → w.ticket ≡ u.ticket → ⊥) → Apart num (set views id w)
  apart_set views id w old new i j a b ai bj qa qb t =
      ⊎_elim
      (λ (p : (i ≡ id) × (w ≡ a)). ⊎_elim
      (λ (q : (j ≡ id) × (w ≡ b)). p.0 ∙ sym q.0)
      (λ (q : (j ≢ id) × (get_elem? views j ≡ some b)). absurd (new j b q.0 q.1 qb (ap (λ (u : View E G). u.queued) p.1 ∙ qa) (ap (λ (u : View E G). u.ticket) p.1 ∙ t)))
      (at_set views id j w b bj))
      (λ (p : (i ≢ id) × (get_elem? views i ≡ some a)). ⊎_elim
      (λ (q : (j ≡ id) × (w ≡ b)). absurd (new i a p.0 p.1 qa (ap (λ (u : View E G). u.queued) q.1 ∙ qb) (ap (λ (u : View E G). u.ticket) q.1 ∙ sym t)))
      (λ (q : (j ≢ id) × (get_elem? views j ≡ some b)). old i j a b p.1 q.1 qa qb t)
      (at_set views id j w b bj))
      (at_set views id i w a ai)

  -- the same where the view keeps its ticket, or has none
  pub apart_same : (views : List (View E G)) (id : ℕ) (v w : View E G) → get_elem? views id ≡ some v → Apart num views → (w.queued ≡ true → (v.queued ≡ true) × (w.ticket ≡ v.ticket)) → Apart num (set views id w)
  apart_same views id v w at old h = apart_set views id w old (λ j u n e q q' t. n (old j id u v e at q (h q').0 (sym t ∙ (h q').1)))

  module _ (base : List E) (basis : G) (log : List E) (shut : Bool) (served drawn : ℕ) where
    pub fits_if : (v : View E G) → Good num base basis log shut served drawn v → (v ≡ spent → ⊥) → Fits num base basis log shut served drawn v
    fits_if v g n = ⊎_elim (λ (f : Fits num base basis log shut served drawn v). f) (λ (e : v ≡ spent). absurd (n e)) g

    pub fits_queued : (v : View E G) → Good num base basis log shut served drawn v → v.queued ≡ true → Fits num base basis log shut served drawn v
    fits_queued v g q = fits_if v g (λ e. clash q (ap (λ (u : View E G). u.queued) e))

    pub fits_turn : (v : View E G) → Good num base basis log shut served drawn v → v.turn ≡ true → Fits num base basis log shut served drawn v
    fits_turn v g q = fits_if v g (λ e. clash q (ap (λ (u : View E G). u.turn) e))

    pub fits_live : (v : View E G) → Good num base basis log shut served drawn v → v.live ≡ true → Fits num base basis log shut served drawn v
    fits_live v g q = fits_if v g (λ e. clash q (ap (λ (u : View E G). u.live) e))

    pub idle_queued : (v : View E G) → Good num base basis log shut served drawn v → v.parts ≡ 0 → v.queued ≡ false
    idle_queued v g z = ⊎_elim (λ (f : Fits num base basis log shut served drawn v). (f.idle z).not_queued) (λ (e : v ≡ spent). ap (λ (u : View E G). u.queued) e) g

    pub idle_claimed : (v : View E G) → Good num base basis log shut served drawn v → v.parts ≡ 0 → (x : ℕ) → claim_count x v ≡ 0
    idle_claimed v g z x = ⊎_elim (λ (f : Fits num base basis log shut served drawn v). rw ((f.idle z).ids_are, (f.idle z).joined_are)) (λ (e : v ≡ spent). ap (claim_count x) e) g

    pub few_wait : (views : List (View E G)) → ((id : ℕ) (v : View E G) → get_elem? views id ≡ some v → Good num base basis log shut served drawn v) → total (λ v. bit v.queued) views ≤ total (λ v. v.parts) views
    few_wait views g = total_le (λ (v : View E G). bit v.queued) (λ (v : View E G). v.parts) views (λ i v e. bit_le v.queued v.parts (idle_queued v (g i v e)))

    -- a seat with the turn is the only one
    pub turn_alone : (views : List (View E G)) (id j : ℕ) (v u : View E G) → ((id : ℕ) (v : View E G) → get_elem? views id ≡ some v → Good num base basis log shut served drawn v) → Apart num views → get_elem? views id ≡ some v → get_elem? views j ≡ some u → v.queued ≡ true → v.ticket ≡ served → u.turn ≡ true → id ≡ j
    turn_alone views id j v u g apart at e q t turn =
        let f = (fits_turn u (g j u e) turn).turn_is turn in
        apart id j v u at e q f.0 (t ∙ sym f.1)

pub set_at : {A : Type 0} (l : List A) (i : ℕ) (a b : A) → get_elem? l i ≡ some a → get_elem? (set l i b) i ≡ some b
set_at [] i a b e = absurd (some-ne-none a (sym e))
set_at (x ∷ xs) zero a b e = refl
set_at (x ∷ xs) (suc i) a b e = set_at xs i a b e

module _ {S E G : Type 0} (num : E → ℕ) (history : S → List E) (is_shut : S → Bool) (basis_of : S → G) (basis : G) where
  -- the slot stays as it is where the view keeps its turn, or has none
  pub slot_same : (log : List E) (shut : Bool) (homes : List (maybe.Option (Option S))) (views : List (View E G)) (id : ℕ) (v w : View E G) → get_elem? views id ≡ some v → w.turn ≡ v.turn
      → Home num history is_shut basis_of basis log shut homes views ⊎ Away num history is_shut basis_of homes views
      → Home num history is_shut basis_of basis log shut homes (set views id w) ⊎ Away num history is_shut basis_of homes (set views id w)
  slot_same log shut homes views id v w at same slot =
      ⊎_elim
      (λ (h : Home num history is_shut basis_of basis log shut homes views). inl (record {
        value = h.value;
        homes_are = h.homes_are;
        log_is = h.log_is;
        shut_is = h.shut_is;
        basis_is = h.basis_is;
        alone = each_set (λ (u : View E G). u.turn ≡ false) views id w (λ j u n e. h.alone j u e) (same ∙ h.alone id v at);
      }))
      (λ (a : Away num history is_shut basis_of homes views). inr (⊎_elim
      (λ (p : (eqb a.id id ≡ true) × (a.id ≡ id)). record {
        id = id;
        view = w;
        homes_are = a.homes_are;
        at = set_at views id v w at;
        turn = same ∙ ap (λ (u : View E G). u.turn) (same_at views id a.id v a.view at a.at (sym p.1)) ∙ a.turn;
      })
      (λ (p : (eqb a.id id ≡ false) × (a.id ≢ id)). record {
        id = a.id;
        view = a.view;
        homes_are = a.homes_are;
        at = set_else views id a.id w p.1 ∙ a.at;
        turn = a.turn;
      })
      (eqb_tells a.id id)))
      slot
