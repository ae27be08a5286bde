-- Seats are cut in two and joined, and the lock is opened and closed.
use Rattle.std.proofs.Common.{◌≡◌, ◌≢◌, ◌⊎◌, ℕ, zero, suc, ◌+◌, ◌-◌, ◌*◌, ◌/◌, ◌<◌, ◌≤◌, List, [], ◌∷◌, ◌++◌, length, set, Bool, true, false, ◌||◌, eqb, Some, refl, sym, ap, ◌∙◌, subst, ⊎_elim, inl, inr, arith, append-nil}
use Rattle.std.specs.Prelude.{Option}
use Rattle.std.proofs.lemmas.Bool.Decides.{eqb_tells, nat_tests}
use mathlib.Core.Option.{none, some, some-ne-none, some-injective}
use mathlib.Core.Option as maybe
use lib.ListN.{get_elem?}
use Rattle.atomic_table.specs.Table.{State, Splits, Joins, opening, Final, Seen}
use Rattle.atomic_table.proofs.Lists.{at_set, at_snoc, at_longer}
use Rattle.qz_row_lock.specs.declared.view.View.{View}
use Rattle.qz_row_lock.specs.Views.{bit, times, within, total, entries_of, NoneBear, claim_count, holding_count, spent, first_view, next_number, first_half, second_half, note_of, after_join}
use Rattle.qz_row_lock.specs.Rows.{Fits, Good, Covered, Apart, Home, Away, IsKept, Ends}
use Rattle.qz_row_lock.proofs.Totals.{total_set, total_at, total_two, total_snoc, total_plus, total_only}
use Rattle.qz_row_lock.proofs.Claims.{claim_new, claim_nobody, mine_of, has_some}
use Rattle.qz_row_lock.proofs.Keeping.{clash, each_set, same_at, covered_le, apart_same, slot_same, fits_live, fits_turn, idle_claimed, idle_queued}

-- the numbers after one, those after a later one, and the later one are the numbers after the first
pub within_split : (x n a b : ℕ) → within x n a + (bit (eqb (n + a + 1) x) + within x (n + a + 1) b) ≡ within x n (a + 1 + b)
within_split x n a b = grind (arith, nat_tests)

pub within_nothing : (x : ℕ) → within x 0 0 ≡ 0
within_nothing x = grind (arith, nat_tests)

module _ {S E G : Type 0} (num : E → ℕ) (history : S → List E) (is_shut : S → Bool) (basis_of : S → G) (base : List E) (basis : G) where
  slot_snoc : (log : List E) (shut : Bool) (homes : List (maybe.Option (Option S))) (views : List (View E G)) (w : View E G) → w.turn ≡ false
      → Home num history is_shut basis_of basis log shut homes views ⊎ Away num history is_shut basis_of homes views
      → Home num history is_shut basis_of basis log shut homes (views ++ w ∷ []) ⊎ Away num history is_shut basis_of homes (views ++ w ∷ [])
  slot_snoc log shut homes views w off slot =
      ⊎_elim
      (λ (h : Home num history is_shut basis_of basis log shut homes views). inl (record {
        value = h.value;
        homes_are = h.homes_are;
        log_is = h.log_is;
        shut_is = h.shut_is;
        basis_is = h.basis_is;
        alone = λ j u e. ⊎_elim (λ (p : get_elem? views j ≡ some u). h.alone j u p) (λ (p : w ≡ u). sym (ap (λ (x : View E G). x.turn) p) ∙ off) (at_snoc views w u j e);
      }))
      (λ (a : Away num history is_shut basis_of homes views). inr (record { id = a.id; view = a.view; homes_are = a.homes_are; at = at_longer views (w ∷ []) a.id a.view a.at; turn = a.turn }))
      slot

  apart_snoc : (views : List (View E G)) (w : View E G) → w.queued ≡ false → Apart num views → Apart num (views ++ w ∷ [])
  apart_snoc views w off old i j a b ai bj qa qb t =
      ⊎_elim
      (λ (p : get_elem? views i ≡ some a). ⊎_elim
      (λ (q : get_elem? views j ≡ some b). old i j a b p q qa qb t)
      (λ (q : w ≡ b). absurd (clash qb (sym (ap (λ (x : View E G). x.queued) q) ∙ off)))
      (at_snoc views w b j bj))
      (λ (p : w ≡ a). absurd (clash qa (sym (ap (λ (x : View E G). x.queued) p) ∙ off)))
      (at_snoc views w a i ai)

  -- A view is cut in two
  forks : (s : State (Option S) (View E G)) (k : IsKept num history is_shut basis_of base basis s) (id : ℕ) (v left right : View E G) → get_elem? s.views id ≡ some v
      → left.turn ≡ v.turn → left.queued ≡ v.queued → left.ticket ≡ v.ticket → right.turn ≡ false → right.queued ≡ false
      → left.parts + right.parts ≡ v.parts → ((x : ℕ) → claim_count x v ≤ claim_count x left + claim_count x right) → ((x : ℕ) → holding_count x left + holding_count x right ≤ holding_count x v)
      → Good num base basis k.log k.shut k.served k.drawn left → Good num base basis k.log k.shut k.served k.drawn right
      → IsKept num history is_shut basis_of base basis record { words = s.words; homes = s.homes; views = set s.views id left ++ right ∷ [] }
  forks s k id v left right at turn queued ticket off_turn off parts claims helds good_left good_right =
      let views = set s.views id left in
      record {
        log = k.log;
        added = k.added;
        shut = k.shut;
        served = k.served;
        drawn = k.drawn;
        log_is = k.log_is;
        words_are = k.words_are;
        slot = slot_snoc k.log k.shut s.homes views right off_turn (slot_same num history is_shut basis_of basis k.log k.shut s.homes s.views id v left at turn k.slot);
        good = λ j u e. ⊎_elim
            (λ (p : get_elem? views j ≡ some u). each_set (Good num base basis k.log k.shut k.served k.drawn) s.views id left (λ j u n e. k.good j u e) good_left j u p)
            (λ (p : right ≡ u). subst (Good num base basis k.log k.shut k.served k.drawn) p good_right)
            (at_snoc views right u j e);
        apart = apart_snoc views right off (apart_same num s.views id v left at k.apart (λ q. (sym queued ∙ q, ticket)));
        queue = (let a = total_snoc (λ (u : View E G). bit u.queued) views right in let t = total_set (λ (u : View E G). bit u.queued) s.views id v left at in let q = k.queue in let b : bit right.queued ≡ 0 = ap bit off in let c : bit left.queued ≡ bit v.queued = ap bit queued in omega arith);
        counts = record {
          parts = (let a = total_snoc (λ (u : View E G). u.parts) views right in let t = total_set (λ (u : View E G). u.parts) s.views id v left at in let p = k.counts.parts in omega arith);
          numbers = λ x. (let a = total_snoc (holding_count x) views right in let t = total_set (holding_count x) s.views id v left at in let p = k.counts.numbers x in let h = helds x in omega arith);
          covered = covered_le num k.added s.views (views ++ right ∷ []) (λ x. (let a = total_snoc (claim_count x) views right in let t = total_set (claim_count x) s.views id v left at in let h = claims x in omega arith)) k.counts.covered;
        };
      }

  -- the entries bear no number that no seat claims
  clear_new : (n : ℕ) (es : List E) (views : List (View E G)) → total (claim_count n) views ≡ 0 → Covered num es views → NoneBear num (n ∷ []) es
  clear_new n [] views z c = tt
  clear_new n (e ∷ es) views z c = (
    ⊎_elim
        (λ (p : (eqb n (num e) ≡ true) × (n ≡ num e)). let h : 0 < total (claim_count n) views = subst (λ x. 0 < total (claim_count x) views) (sym p.1) c.0 in absurd (omega arith))
        (λ (p : (eqb n (num e) ≡ false) × (n ≢ num e)). rw p.0 refl)
        (eqb_tells n (num e)),
    clear_new n es views z c.1,
  )

  -- a number that a seat has not used yet
  unused : (views : List (View E G)) (id : ℕ) (v : View E G) (x : ℕ) → get_elem? views id ≡ some v → total (holding_count x) views ≤ 1 → within x v.number v.more ≡ 1 → total (claim_count x) views ≡ 0
  unused views id v x at once here =
      let p = total_plus (claim_count x) (λ (u : View E G). within x u.number u.more) views in
      let a = total_at (λ (u : View E G). within x u.number u.more) views id v at in
      omega arith

  in_range : (n m : ℕ) → 0 < m → within (n + m / 2 + 1) n m ≡ 1
  in_range n m h = grind (arith, nat_tests)

  -- a seat is split
  pub splits : (id : ℕ) (v : View E G) → v.live ≡ true → v.queued ≡ false → v.turn ≡ false → 0 < v.more → v.more < v.parts → v.joined_ids ≡ []
      → Splits (IsKept num history is_shut basis_of base basis) id v (first_half v) (second_half v)
  splits id v live idle no_turn some_more enough joined_seen s k at =
      let fits : Fits num base basis k.log k.shut k.served k.drawn v = fits_live num base basis k.log k.shut k.served k.drawn v (k.good id v at) live in
      let n = next_number v in
      let fresh : total (claim_count n) s.views ≡ 0 = unused s.views id v n at (k.counts.numbers n) (in_range v.number v.more some_more) in
      forks s k id v (first_half v) (second_half v) at refl refl refl no_turn idle
      (let h : (v.more + 1) / 2 ≤ v.more = omega arith in omega arith)
      (λ x. omega arith)
      (λ x. (let w = within_split x v.number (v.more / 2) ((v.more + 1) / 2 - 1) in let e : v.more / 2 + 1 + ((v.more + 1) / 2 - 1) ≡ v.more = omega arith in let f : within x v.number (v.more / 2 + 1 + ((v.more + 1) / 2 - 1)) ≡ within x v.number v.more = ap (within x v.number) e in omega arith))
      (inl (record {
        base_is = fits.base_is;
        basis_is = fits.basis_is;
        own = fits.own;
        other = fits.other;
        shut_is = fits.shut_is;
        idle = λ z. absurd (omega arith);
        waits = fits.waits;
        turn_is = fits.turn_is;
      }))
      (inl (record {
        base_is = fits.base_is;
        basis_is = fits.basis_is;
        own = claim_new num base k.log k.added v.ids (n ∷ []) v.seen v.mine fits.own k.log_is (clear_new n k.added s.views fresh k.counts.covered);
        other = claim_nobody num base k.log v.ids v.seen v.mine fits.own;
        shut_is = fits.shut_is;
        idle = λ z. absurd (omega arith);
        waits = λ q. absurd (clash q idle);
        turn_is = λ q. absurd (clash q no_turn);
      }))

  -- a seat tells a note
  pub tells : (id : ℕ) (v : View E G) → v.live ≡ true → v.queued ≡ false → v.turn ≡ false
      → Splits (IsKept num history is_shut basis_of base basis) id v v (note_of v)
  tells id v live idle no_turn s k at =
      let fits : Fits num base basis k.log k.shut k.served k.drawn v = fits_live num base basis k.log k.shut k.served k.drawn v (k.good id v at) live in
      forks s k id v v (note_of v) at refl refl refl no_turn idle
      (omega arith)
      (λ x. omega arith)
      (λ x. (let z = within_nothing x in omega arith))
      (inl fits)
      (inl (record {
        base_is = fits.base_is;
        basis_is = fits.basis_is;
        own = claim_nobody num base k.log v.ids v.seen v.mine fits.own;
        other = claim_nobody num base k.log v.ids v.seen v.mine fits.own;
        shut_is = fits.shut_is;
        idle = λ z. record { ids_are = refl; joined_are = refl; not_queued = idle };
        waits = λ q. absurd (clash q idle);
        turn_is = λ q. absurd (clash q no_turn);
      }))

  -- what one of two bits says, when each of them says it
  either : (P : Bool → Type 0) (a b : Bool) → P a → P b → P (a || b)
  either P true b p q = p
  either P false b p q = q

  -- a bit that is the lock's stays so beside one that is the lock's where it is set
  shut_with : (a b shut : Bool) → a ≡ shut → (b ≡ true → shut ≡ true) → (a || b) ≡ shut
  shut_with true b shut is on = is
  shut_with false true shut is on = sym (on refl)
  shut_with false false shut is on = is

  -- a seat or a note is joined into a seat
  pub joins : (id other : ℕ) (v w : View E G) → v.live ≡ true → v.joined_ids ≡ [] → w.live ≡ true → w.queued ≡ false → w.turn ≡ false → w.joined_ids ≡ []
      → Joins (IsKept num history is_shut basis_of base basis) id v other w (after_join v w) spent
  joins id other v w live joined_seen live' idle no_turn joined_seen' s k at apart there =
      let both = after_join v w in
      let views = set s.views id both in
      let fits : Fits num base basis k.log k.shut k.served k.drawn v = fits_live num base basis k.log k.shut k.served k.drawn v (k.good id v at) live in
      let was : get_elem? s.views other ≡ some w = ⊎_elim (λ (p : (other ≡ id) × (both ≡ w)). absurd (apart p.0)) (λ (p : (other ≢ id) × (get_elem? s.views other ≡ some w)). p.1) (at_set s.views id other both w there) in
      let fits' : Fits num base basis k.log k.shut k.served k.drawn w = fits_live num base basis k.log k.shut k.served k.drawn w (k.good other w was) live' in
      let helds : (x : ℕ) → holding_count x both ≤ holding_count x v + holding_count x w = λ x. omega arith in
      record {
        log = k.log;
        added = k.added;
        shut = k.shut;
        served = k.served;
        drawn = k.drawn;
        log_is = k.log_is;
        words_are = k.words_are;
        slot = slot_same num history is_shut basis_of basis k.log k.shut s.homes views other w spent there (sym no_turn) (slot_same num history is_shut basis_of basis k.log k.shut s.homes s.views id v both at refl k.slot);
        good = each_set (Good num base basis k.log k.shut k.served k.drawn) views other spent
            (λ j u _ e. each_set (Good num base basis k.log k.shut k.served k.drawn) s.views id both
            (λ j u n e. k.good j u e)
            (inl (record {
              base_is = fits.base_is;
              basis_is = fits.basis_is;
              own = fits.own;
              other = fits'.own;
              shut_is = either (λ b. b ≡ true → k.shut ≡ true) v.shut w.shut fits.shut_is fits'.shut_is;
              idle = λ z. record { ids_are = (fits.idle (omega arith)).ids_are; joined_are = (fits'.idle (omega arith)).ids_are; not_queued = (fits.idle (omega arith)).not_queued };
              waits = fits.waits;
              turn_is = λ q. (let t = fits.turn_is q in (t.0, t.1, t.2, shut_with v.shut w.shut k.shut t.3 fits'.shut_is));
            }))
            j u e)
            (inr refl);
        apart = apart_same num views other w spent there (apart_same num s.views id v both at k.apart (λ q. (q, refl))) (λ q. absurd (clash q refl));
        queue = (let a = total_set (λ (u : View E G). bit u.queued) views other w spent there in let t = total_set (λ (u : View E G). bit u.queued) s.views id v both at in let q = k.queue in let b : bit w.queued ≡ 0 = ap bit idle in omega arith);
        counts = record {
          parts = (let a = total_set (λ (u : View E G). u.parts) views other w spent there in let t = total_set (λ (u : View E G). u.parts) s.views id v both at in let p = k.counts.parts in omega arith);
          numbers = λ x. (let z = within_nothing x in let a = total_set (holding_count x) views other w spent there in let t = total_set (holding_count x) s.views id v both at in let p = k.counts.numbers x in let h = helds x in omega arith);
          covered = covered_le num k.added s.views (set views other spent)
              (λ x. (let a = total_set (claim_count x) views other w spent there in let t = total_set (claim_count x) s.views id v both at in let e : times x v.joined_ids ≡ 0 = ap (times x) joined_seen in let e' : times x w.joined_ids ≡ 0 = ap (times x) joined_seen' in omega arith))
              k.counts.covered;
        };
      }

  -- with the numbers of all seats, a seat has all entries
  owned_covered : (ids : List ℕ) (es : List E) (views : List (View E G)) → ((x : ℕ) → total (claim_count x) views ≡ times x ids) → Covered num es views → entries_of num ids es ≡ es
  owned_covered ids [] views h c = refl
  owned_covered ids (e ∷ es) views h c = rw (has_some (num e) ids (subst (λ n. 0 < n) (h (num e)) c.0)) (ap (λ l. e ∷ l) (owned_covered ids es views h c.1))

  -- the lock ends with one seat
  pub ends : (id : ℕ) (v : View E G) (words : List ℕ) (slots : List (Option S)) → v.live ≡ true → v.turn ≡ false → v.joined_ids ≡ [] → v.parts ≡ 4294967296
      → Final (Seen (IsKept num history is_shut basis_of base basis) id v) words slots → Ends num history is_shut basis_of base basis v slots
  ends id v words slots live no_turn joined_seen all_parts f =
      let s = f.0 in
      let k : IsKept num history is_shut basis_of base basis s = f.1.0 in
      let at : get_elem? s.views id ≡ some v = f.1.1 in
      let fits : Fits num base basis k.log k.shut k.served k.drawn v = fits_live num base basis k.log k.shut k.served k.drawn v (k.good id v at) live in
      let mine = mine_of num base k.log k.added v.ids v.seen v.mine fits.own k.log_is in
      let idles : (j : ℕ) (u : View E G) → get_elem? s.views j ≡ some u → u.parts ≡ 0 → (x : ℕ) → claim_count x u ≡ 0 = λ j u e z. idle_claimed num base basis k.log k.shut k.served k.drawn u (k.good j u e) z in
      let claims : (x : ℕ) → total (claim_count x) s.views ≡ times x v.ids =
      λ x. (let o = total_only (claim_count x) (λ (u : View E G). u.parts) s.views id v (λ j u e z. idles j u e z x) at (k.counts.parts ∙ sym all_parts) in let t : times x v.joined_ids ≡ 0 = ap (times x) joined_seen in omega arith) in
      let whole : v.mine ≡ k.added = mine ∙ owned_covered v.ids k.added s.views claims k.counts.covered in
      ⊎_elim
      (λ (h : Home num history is_shut basis_of basis k.log k.shut s.homes s.views). record {
        value = h.value;
        later = fits.own.later;
        at = f.4 0 (Some h.value) (ap (λ hs. get_elem? hs 0) h.homes_are);
        log_is = h.log_is ∙ k.log_is ∙ ap (λ l. base ++ l) (sym whole);
        seen_is = h.log_is ∙ fits.own.log_is;
        basis_is = h.basis_is;
        shut_is = λ q. h.shut_is ∙ fits.shut_is q;
      })
      (λ (a : Away num history is_shut basis_of s.homes s.views).
      let u : View E G = a.view in
      let good = k.good a.id u a.at in
      let q = ((fits_turn num base basis k.log k.shut k.served k.drawn u good a.turn).turn_is a.turn).0 in
      let apart : id ≢ a.id = λ e. clash (ap (λ (x : View E G). x.turn) (same_at s.views id a.id v u at a.at e) ∙ a.turn) no_turn in
      let two = total_two (λ (x : View E G). x.parts) s.views id a.id v u apart at a.at in
      let none : u.parts ≡ 0 = (let p = k.counts.parts in omega arith) in
      absurd (clash q (idle_queued num base basis k.log k.shut k.served k.drawn u good none)))
      k.slot

module _ {S E G : Type 0} (num : E → ℕ) (history : S → List E) (is_shut : S → Bool) (basis_of : S → G) where
  one_holder : (x : ℕ) → (bit (eqb 0 x) + 0 + 0) + within x 0 4294967295 + 0 ≤ 1
  one_holder x = grind (arith, nat_tests)

  -- the lock begins with one seat
  pub opens_at : (x : S) → IsKept num history is_shut basis_of (history x) (basis_of x) (opening ((2 * length (history x) + bit (is_shut x)) ∷ 0 ∷ 0 ∷ []) (Some x ∷ []) (first_view (history x) (basis_of x) (is_shut x)))
  opens_at x =
      let v = first_view (history x) (basis_of x) (is_shut x) in
      record {
        log = history x;
        added = [];
        shut = is_shut x;
        served = 0;
        drawn = 0;
        log_is = sym (append-nil (history x));
        words_are = refl;
        slot = inl (record { value = x; homes_are = refl; log_is = refl; shut_is = refl; basis_is = refl; alone = λ j u e. only j u e });
        good = λ j u e. goods j u e;
        apart = λ i j u w ui wj q q' t. absurd (clash q (idles i u ui));
        queue = refl;
        counts = record { parts = refl; numbers = λ n. one_holder n; covered = tt };
      }
    where
      all : (P : View E G → Type 0) → P (first_view (history x) (basis_of x) (is_shut x)) → (j : ℕ) (u : View E G) → get_elem? (first_view (history x) (basis_of x) (is_shut x) ∷ []) j ≡ some u → P u
      all P p zero u e = subst P (some-injective (first_view (history x) (basis_of x) (is_shut x)) u e) p
      all P p (suc j) u e = absurd (some-ne-none u (sym e))

      only : (j : ℕ) (u : View E G) → get_elem? (first_view (history x) (basis_of x) (is_shut x) ∷ []) j ≡ some u → u.turn ≡ false
      only = all (λ u. u.turn ≡ false) refl

      idles : (j : ℕ) (u : View E G) → get_elem? (first_view (history x) (basis_of x) (is_shut x) ∷ []) j ≡ some u → u.queued ≡ false
      idles = all (λ u. u.queued ≡ false) refl

      goods : (j : ℕ) (u : View E G) → get_elem? (first_view (history x) (basis_of x) (is_shut x) ∷ []) j ≡ some u → Good num (history x) (basis_of x) (history x) (is_shut x) 0 0 u
      goods = all (Good num (history x) (basis_of x) (history x) (is_shut x) 0 0) (inl (record {
        base_is = refl;
        basis_is = refl;
        own = record { past = []; later = []; seen_is = sym (append-nil (history x)); log_is = sym (append-nil (history x)); mine_is = refl; clear = tt };
        other = record { past = []; later = []; seen_is = sym (append-nil (history x)); log_is = sym (append-nil (history x)); mine_is = refl; clear = tt };
        shut_is = λ q. q;
        idle = λ z. absurd (omega arith);
        waits = λ q. absurd (clash q refl);
        turn_is = λ q. absurd (clash q refl);
      }))

  pub opens : (key x : S) (words : List ℕ) (slots : List (Option S)) → key ≡ x → words ≡ (2 * length (history x) + bit (is_shut x)) ∷ 0 ∷ 0 ∷ [] → slots ≡ Some x ∷ []
      → IsKept num history is_shut basis_of (history key) (basis_of key) (opening words slots (first_view (history key) (basis_of key) (is_shut key)))
  opens key x words slots same ws ss =
      let P : S × List ℕ × List (Option S) → Type 0 = λ t. IsKept num history is_shut basis_of (history t.0) (basis_of t.0) (opening t.1 t.2 (first_view (history t.0) (basis_of t.0) (is_shut t.0))) in
      let p = sym same in let q = sym ws in let r = sym ss in
      subst P (λ i. (p i, q i, r i)) (opens_at x)
