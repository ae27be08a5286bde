-- Each step keeps the rule.
use Rattle.std.proofs.Common.{◌≡◌, ◌≢◌, ℕ, ◌+◌, ◌*◌, ◌%◌, ◌<◌, ◌≤◌, ◌^◌, List, [], ◌∷◌, ◌++◌, length, set, Bool, true, false, eqb, Some, refl, sym, ap, ◌∙◌, subst, ⊎_elim, inl, inr, arith, append_assoc, append-nil}
use Rattle.std.specs.Prelude.{slice_index, slice_set, Option}
use Rattle.std.proofs.Math.Nat.{mod-add-mod}
use Rattle.std.proofs.lemmas.Bool.Decides.{eqb_tells}
use mathlib.Core.Option.{none, some}
use lib.ListN.{get_elem?}
use Rattle.atomic_table.specs.Table.{State, Me, Act, keeps, takes, gives, Allows, Valid, stepped, carried_after, put_back}
use Rattle.atomic_table.proofs.Lists.{set_again, one_turn}
use Rattle.qz_row_lock.specs.declared.view.View.{View}
use Rattle.qz_row_lock.specs.Views.{bit, times, total, entries_of, NoneBear, AllBear, claim_count, holding_count, spent, after_draw, after_enter, after_write, after_leave, after_look}
use Rattle.qz_row_lock.specs.Rows.{Claim, Fits, Good, Covered, Home, Away, IsKept, Draws, Enters, Looks, Writes, Leaves, Sees}
use Rattle.qz_row_lock.proofs.Totals.{total_set, total_at, total_two, set_get_or}
use Rattle.qz_row_lock.proofs.Claims.{claim_more, claim_all, claim_write, claim_both, claim_nobody, mine_of, Clear_bear, owned_first, owned_second, times-append}
use Rattle.qz_row_lock.proofs.Keeping.{clash, each_set, same_at, covered-append, counts_set, apart_set, apart_same, slot_same, set_at, fits_queued, fits_live, few_wait, turn_alone}

module _ {S E G : Type 0} (num : E → ℕ) (history : S → List E) (is_shut : S → Bool) (basis_of : S → G) (base : List E) (basis : G) where
  -- one ticket more was drawn
  drawn_on : (log : List E) (shut : Bool) (served drawn : ℕ) (u : View E G) → Good num base basis log shut served drawn u → Good num base basis log shut served (drawn + 1) u
  drawn_on log shut served drawn u g =
      ⊎_elim
      (λ (f : Fits num base basis log shut served drawn u). inl (record {
        base_is = f.base_is;
        basis_is = f.basis_is;
        own = f.own;
        other = f.other;
        shut_is = f.shut_is;
        idle = f.idle;
        waits = λ q. ((f.waits q).0, (let l = (f.waits q).1 in omega arith));
        turn_is = f.turn_is;
      }))
      (λ (e : u ≡ spent). inr e)
      g

  -- the next ticket is drawn
  pub draws : (n id : ℕ) (m : Me (Option S) (View E G)) → m.0.live ≡ true → m.0.queued ≡ false → m.0.turn ≡ false → 0 < m.0.parts
      → Allows (IsKept num history is_shut basis_of base basis) n id m 1 (λ k. (k + 1) % 18446744073709551616) (Draws num history is_shut basis_of m)
  draws n id m live idle no_turn some_part s k len at small =
      let v : View E G = m.0 in
      let w = after_draw v k.drawn in
      let fits : Fits num base basis k.log k.shut k.served k.drawn v = fits_live num base basis k.log k.shut k.served k.drawn v (k.good id v at) live in
      let up : k.served ≤ k.drawn = (let q = k.queue in omega arith) in (
        w,
        keeps,
        tt,
        record {
          log = k.log;
          added = k.added;
          shut = k.shut;
          served = k.served;
          drawn = k.drawn + 1;
          log_is = k.log_is;
          words_are = ap (λ ws. slice_set ws 1 ((slice_index ws 1 + 1) % 18446744073709551616)) k.words_are ∙ ap (λ t. (2 * length k.log + bit k.shut) ∷ t ∷ (k.served % 2 ^ 64) ∷ []) (mod-add-mod k.drawn (2 ^ 64) 1);
          slot = slot_same num history is_shut basis_of basis k.log k.shut s.homes s.views id v w at refl k.slot;
          good = each_set (Good num base basis k.log k.shut k.served (k.drawn + 1)) s.views id w
              (λ j u n e. drawn_on k.log k.shut k.served k.drawn u (k.good j u e))
              (inl (record {
                base_is = fits.base_is;
                basis_is = fits.basis_is;
                own = fits.own;
                other = fits.other;
                shut_is = fits.shut_is;
                idle = λ z. absurd (omega arith);
                waits = λ q. (up, omega arith);
                turn_is = λ t. absurd (clash t no_turn);
              }));
          apart = apart_set num s.views id w k.apart
              (λ j u n e q q' t. let f = (fits_queued num base basis k.log k.shut k.served k.drawn u (k.good j u e) q).waits q in let l = f.1 in let t' : k.drawn ≡ u.ticket = t in absurd (omega arith));
          queue = (let t = total_set (λ (u : View E G). bit u.queued) s.views id v w at in let q = k.queue in let i : bit v.queued ≡ 0 = ap bit idle in omega arith);
          counts = counts_set num k.added s.views id v w at refl (λ x. refl) (λ x. refl) k.counts;
        },
        (k.drawn, sym (ap (λ ws. slice_index ws 1) k.words_are), refl),
      )

  -- a load that tells nothing new
  unchanged : (s : State (Option S) (View E G)) (i id : ℕ) (v : View E G) → get_elem? s.views id ≡ some v → IsKept num history is_shut basis_of base basis s
      → IsKept num history is_shut basis_of base basis record { words = slice_set s.words i (slice_index s.words i); homes = s.homes; views = slice_set s.views id v }
  unchanged s i id v at k =
      let p = sym (set_get_or s.words i 0) in
      let q = sym (set_again s.views id v at) in
      subst (IsKept num history is_shut basis_of base basis) (λ t. record { words = p t; homes = s.homes; views = q t }) k

  -- the ticket of a seat that finds it served is the one that is served
  served_now : (log : List E) (shut : Bool) (served drawn : ℕ) (views : List (View E G)) (v : View E G) → ((id : ℕ) (u : View E G) → get_elem? views id ≡ some u → Good num base basis log shut served drawn u)
      → total (λ (u : View E G). bit u.queued) views + served ≡ drawn → total (λ (u : View E G). u.parts) views ≡ 4294967296 → Fits num base basis log shut served drawn v → v.queued ≡ true → served % 2 ^ 64 ≡ v.ticket % 2 ^ 64 → v.ticket ≡ served
  served_now log shut served drawn views v good queue parts f q e =
      let w = f.waits q in
      let few = few_wait num base basis log shut served drawn views good in
      let near : v.ticket < served + 18446744073709551616 = (let a = w.1 in omega arith) in
      sym (one_turn served v.ticket 18446744073709551616 w.0 near e)

  looks_hit : (n id : ℕ) (m : Me (Option S) (View E G)) (s : State (Option S) (View E G)) (k : IsKept num history is_shut basis_of base basis s) → m.0.live ≡ true → m.0.queued ≡ true → m.0.turn ≡ false
      → get_elem? s.views id ≡ some m.0 → slice_index s.words 2 ≡ m.0.ticket % 2 ^ 64
      → (w : View E G) × (a : Act (Option S)) × Valid s.homes m.1 a × IsKept num history is_shut basis_of base basis (stepped s 2 (slice_index s.words 2) id m.1 w a) × Enters num history is_shut basis_of m (w, carried_after m.1 a)
  looks_hit n id m s k live queued no_turn at hit =
      let v : View E G = m.0 in
      let fits : Fits num base basis k.log k.shut k.served k.drawn v = fits_live num base basis k.log k.shut k.served k.drawn v (k.good id v at) live in
      let first : v.ticket ≡ k.served = served_now k.log k.shut k.served k.drawn s.views v k.good k.queue k.counts.parts fits queued (sym (ap (λ ws. slice_index ws 2) k.words_are) ∙ hit) in
      ⊎_elim
      (λ (h : Home num history is_shut basis_of basis k.log k.shut s.homes s.views).
      let w = after_enter v (history h.value) (is_shut h.value) in (
        w,
        takes 0 (Some h.value),
        ap (λ hs. get_elem? hs 0) h.homes_are,
        record {
          log = k.log;
          added = k.added;
          shut = k.shut;
          served = k.served;
          drawn = k.drawn;
          log_is = k.log_is;
          words_are = set_get_or s.words 2 0 ∙ k.words_are;
          slot = inr (record { id = id; view = w; homes_are = ap (λ hs. slice_set hs 0 none) h.homes_are; at = set_at s.views id v w at; turn = refl });
          good = each_set (Good num base basis k.log k.shut k.served k.drawn) s.views id w
              (λ j u n e. k.good j u e)
              (inl (record {
                base_is = fits.base_is;
                basis_is = fits.basis_is;
                own = subst (λ l. Claim num base k.log v.ids l v.mine) (sym h.log_is) (claim_all num base k.log v.ids v.seen v.mine fits.own);
                other = fits.other;
                shut_is = λ e. sym h.shut_is ∙ e;
                idle = λ z. record { ids_are = (fits.idle z).ids_are; joined_are = (fits.idle z).joined_are; not_queued = (fits.idle z).not_queued };
                waits = fits.waits;
                turn_is = λ t. (queued, first, h.log_is, h.shut_is);
              }));
          apart = apart_same num s.views id v w at k.apart (λ q. (q, refl));
          queue = (let t = total_set (λ (u : View E G). bit u.queued) s.views id v w at in let q = k.queue in omega arith);
          counts = counts_set num k.added s.views id v w at refl (λ x. refl) (λ x. refl) k.counts;
        },
        record {
          value = h.value;
          later = fits.own.later;
          me_is = refl;
          basis_is = fits.basis_is ∙ ap Some (sym h.basis_is);
          seen_is = h.log_is ∙ fits.own.log_is;
          clear = fits.own.clear;
          shut_is = λ q. h.shut_is ∙ fits.shut_is q;
        },
      ))
      (λ (a : Away num history is_shut basis_of s.homes s.views).
      let same = turn_alone num base basis k.log k.shut k.served k.drawn s.views id a.id v a.view k.good k.apart at a.at queued first a.turn in
      absurd (clash (ap (λ (u : View E G). u.turn) (same_at s.views id a.id v a.view at a.at same) ∙ a.turn) no_turn))
      k.slot

  -- A seat looks whether its ticket is served. If it is, it takes the slot
  pub looks : (n id : ℕ) (m : Me (Option S) (View E G)) → m.0.live ≡ true → m.0.queued ≡ true → m.0.turn ≡ false
      → Allows (IsKept num history is_shut basis_of base basis) n id m 2 (λ k. k) (Looks num history is_shut basis_of m)
  looks n id m live queued no_turn s k len at small =
      ⊎_elim
      (λ (p : (eqb (slice_index s.words 2) (m.0.ticket % 2 ^ 64) ≡ true) × (slice_index s.words 2 ≡ m.0.ticket % 2 ^ 64)).
      let r = looks_hit n id m s k live queued no_turn at p.1 in
      (r.0, r.1, r.2, r.3, rw p.0 r.4))
      (λ (p : (eqb (slice_index s.words 2) (m.0.ticket % 2 ^ 64) ≡ false) × (slice_index s.words 2 ≢ m.0.ticket % 2 ^ 64)).
      (m.0, keeps, tt, unchanged s 2 id m.0 at k, rw p.0 refl))
      (eqb_tells (slice_index s.words 2) (m.0.ticket % 2 ^ 64))

  covered_bear : (n : ℕ) (es : List E) (views : List (View E G)) → AllBear num n es → 0 < total (claim_count n) views → Covered num es views
  covered_bear n [] views h z = tt
  covered_bear n (e ∷ es) views h z = (subst (λ x. 0 < total (claim_count x) views) (sym h.0) z, covered_bear n es views h.1 z)

  -- what another seat knows, when the seat with the turn wrote further entries
  written_on : (log further now : List E) (shut later : Bool) (served drawn : ℕ) (u : View E G) → now ≡ log ++ further → (shut ≡ true → later ≡ true) → (u.turn ≡ true → ⊥) → NoneBear num u.ids further → NoneBear num u.joined_ids further
      → Good num base basis log shut served drawn u → Good num base basis now later served drawn u
  written_on log further now shut later served drawn u is on no_turn clear joined_seen g =
      ⊎_elim
      (λ (f : Fits num base basis log shut served drawn u). inl (record {
        base_is = f.base_is;
        basis_is = f.basis_is;
        own = subst (λ l. Claim num base l u.ids u.seen u.mine) (sym is) (claim_more num base log u.ids u.seen u.mine further f.own clear);
        other = subst (λ l. Claim num base l u.joined_ids u.joined_seen u.joined_mine) (sym is) (claim_more num base log u.joined_ids u.joined_seen u.joined_mine further f.other joined_seen);
        shut_is = λ q. on (f.shut_is q);
        idle = f.idle;
        waits = f.waits;
        turn_is = λ t. absurd (no_turn t);
      }))
      (λ (e : u ≡ spent). inr e)
      g

  -- the value in the slot becomes the lock's
  pub writes : (n id : ℕ) (m : Me (Option S) (View E G)) (x : S) (further : List E) (new : ℕ) → m.0.live ≡ true → m.0.turn ≡ true → m.1 ≡ (0, Some x) ∷ [] → history x ≡ m.0.seen ++ further
      → AllBear num m.0.number further → 0 < times m.0.number m.0.ids → (m.0.shut ≡ true → is_shut x ≡ true) → new ≡ 2 * length (history x) + bit (is_shut x)
      → Allows (IsKept num history is_shut basis_of base basis) n id m 0 (λ _. new) (λ _. Writes num history is_shut basis_of m)
  writes n id m x further new live turn slots is bear own stays new_is s k len at small =
      let v : View E G = m.0 in
      let w = after_write v (history x) (v.mine ++ further) (is_shut x) in
      let fits : Fits num base basis k.log k.shut k.served k.drawn v = fits_live num base basis k.log k.shut k.served k.drawn v (k.good id v at) live in
      let t = fits.turn_is turn in
      let now : history x ≡ k.log ++ further = is ∙ ap (λ l. l ++ further) t.2 in
      let on : k.shut ≡ true → is_shut x ≡ true = λ q. stays (t.3 ∙ q) in
      let once = k.counts.numbers v.number in
      let at_v = total_at (holding_count v.number) s.views id v at in
      let joined_seen : times v.number v.joined_ids ≡ 0 = omega arith in
      let c = counts_set num k.added s.views id v w at refl (λ x. refl) (λ x. refl) k.counts in
      let claims : 0 < total (claim_count v.number) (set s.views id w) = (let a = total_at (claim_count v.number) (set s.views id w) id w (set_at s.views id v w at) in omega arith) in (
        w,
        keeps,
        tt,
        record {
          log = history x;
          added = k.added ++ further;
          shut = is_shut x;
          served = k.served;
          drawn = k.drawn;
          log_is = now ∙ ap (λ l. l ++ further) k.log_is ∙ append_assoc base k.added further;
          words_are = ap (λ ws. slice_set ws 0 new) k.words_are ∙ ap (λ y. y ∷ (k.drawn % 2 ^ 64) ∷ (k.served % 2 ^ 64) ∷ []) new_is;
          slot = ⊎_elim
              (λ (h : Home num history is_shut basis_of basis k.log k.shut s.homes s.views). absurd (clash turn (h.alone id v at)))
              (λ (a : Away num history is_shut basis_of s.homes s.views). inr (record { id = id; view = w; homes_are = a.homes_are; at = set_at s.views id v w at; turn = turn }))
              k.slot;
          good = each_set (Good num base basis (history x) (is_shut x) k.served k.drawn) s.views id w
              (λ j u n e.
              let two = total_two (holding_count v.number) s.views id j v u (λ q. n (sym q)) at e in
              let none : times v.number u.ids ≡ 0 = omega arith in
              let none' : times v.number u.joined_ids ≡ 0 = omega arith in
              written_on k.log further (history x) k.shut (is_shut x) k.served k.drawn u now on
              (λ q. n (sym (turn_alone num base basis k.log k.shut k.served k.drawn s.views id j v u k.good k.apart at e t.0 t.1 q)))
              (Clear_bear num v.number u.ids further bear none)
              (Clear_bear num v.number u.joined_ids further bear none')
              (k.good j u e))
              (inl (record {
                base_is = fits.base_is;
                basis_is = fits.basis_is;
                own = subst (λ l. Claim num base l v.ids l (v.mine ++ further)) (sym now) (claim_write num base k.log v.ids v.mine further v.number (claim_all num base k.log v.ids v.seen v.mine fits.own) bear own);
                other = subst (λ l. Claim num base l v.joined_ids v.joined_seen v.joined_mine) (sym now) (claim_more num base k.log v.joined_ids v.joined_seen v.joined_mine further fits.other (Clear_bear num v.number v.joined_ids further bear joined_seen));
                shut_is = λ q. q;
                idle = λ z. record { ids_are = (fits.idle z).ids_are; joined_are = (fits.idle z).joined_are; not_queued = (fits.idle z).not_queued };
                waits = fits.waits;
                turn_is = λ _. (t.0, t.1, refl, refl);
              }));
          apart = apart_same num s.views id v w at k.apart (λ q. (q, refl));
          queue = (let t = total_set (λ (u : View E G). bit u.queued) s.views id v w at in let q = k.queue in omega arith);
          counts = record { parts = c.parts; numbers = c.numbers; covered = covered-append num k.added further (set s.views id w) c.covered (covered_bear v.number further (set s.views id w) bear claims) };
        },
        record { value = x; further = further; slots_are = slots; log_is = is; me_is = refl },
      )

  -- what another seat knows, when a turn is over
  served_on : (log : List E) (shut : Bool) (served drawn : ℕ) (u : View E G) → (u.queued ≡ true → u.ticket ≢ served) → (u.turn ≡ true → ⊥) → Good num base basis log shut served drawn u → Good num base basis log shut (served + 1) drawn u
  served_on log shut served drawn u other no_turn g =
      ⊎_elim
      (λ (f : Fits num base basis log shut served drawn u). inl (record {
        base_is = f.base_is;
        basis_is = f.basis_is;
        own = f.own;
        other = f.other;
        shut_is = f.shut_is;
        idle = f.idle;
        waits = λ q. (let ne = other q in let a = (f.waits q).0 in omega arith, (f.waits q).1);
        turn_is = λ t. absurd (no_turn t);
      }))
      (λ (e : u ≡ spent). inr e)
      g

  not_true : (b : Bool) → (b ≡ true → ⊥) → b ≡ false
  not_true true h = absurd (h refl)
  not_true false h = refl

  -- the slot comes back, and the turn is over
  pub leaves : (n id : ℕ) (m : Me (Option S) (View E G)) (x : S) → m.0.live ≡ true → m.0.turn ≡ true → m.1 ≡ (0, Some x) ∷ [] → history x ≡ m.0.seen → is_shut x ≡ m.0.shut → m.0.basis ≡ Some (basis_of x)
      → Allows (IsKept num history is_shut basis_of base basis) n id m 2 (λ k. (k + 1) % 18446744073709551616) (λ _. Leaves num history is_shut basis_of m)
  leaves n id m x live turn slots is shut_is basis_is s k len at small =
      let v : View E G = m.0 in
      let w = after_leave v in
      let fits : Fits num base basis k.log k.shut k.served k.drawn v = fits_live num base basis k.log k.shut k.served k.drawn v (k.good id v at) live in
      let t = fits.turn_is turn in
      let others : (j : ℕ) (u : View E G) → j ≢ id → get_elem? s.views j ≡ some u → u.turn ≡ true → ⊥ = λ j u n e q. n (sym (turn_alone num base basis k.log k.shut k.served k.drawn s.views id j v u k.good k.apart at e t.0 t.1 q)) in (
        w,
        gives,
        tt,
        record {
          log = k.log;
          added = k.added;
          shut = k.shut;
          served = k.served + 1;
          drawn = k.drawn;
          log_is = k.log_is;
          words_are = ap (λ ws. slice_set ws 2 ((slice_index ws 2 + 1) % 18446744073709551616)) k.words_are ∙ ap (λ y. (2 * length k.log + bit k.shut) ∷ (k.drawn % 2 ^ 64) ∷ y ∷ []) (mod-add-mod k.served (2 ^ 64) 1);
          slot = ⊎_elim
              (λ (h : Home num history is_shut basis_of basis k.log k.shut s.homes s.views). absurd (clash turn (h.alone id v at)))
              (λ (a : Away num history is_shut basis_of s.homes s.views). inl (record {
                value = x;
                homes_are = ap (put_back s.homes) slots ∙ ap (λ hs. slice_set hs 0 (some (Some x))) a.homes_are;
                log_is = is ∙ t.2;
                shut_is = shut_is ∙ t.3;
                basis_is = (let f = fits.basis_is in cc);
                alone = each_set (λ (u : View E G). u.turn ≡ false) s.views id w (λ j u n e. not_true u.turn (others j u n e)) refl;
              }))
              k.slot;
          good = each_set (Good num base basis k.log k.shut (k.served + 1) k.drawn) s.views id w
              (λ j u n e. served_on k.log k.shut k.served k.drawn u (λ q h. n (sym (k.apart id j v u at e t.0 q (t.1 ∙ sym h)))) (others j u n e) (k.good j u e))
              (inl (record {
                base_is = fits.base_is;
                basis_is = fits.basis_is;
                own = fits.own;
                other = fits.other;
                shut_is = fits.shut_is;
                idle = λ z. record { ids_are = (fits.idle z).ids_are; joined_are = (fits.idle z).joined_are; not_queued = refl };
                waits = λ q. absurd (clash q refl);
                turn_is = λ q. absurd (clash q refl);
              }));
          apart = apart_same num s.views id v w at k.apart (λ q. absurd (clash q refl));
          queue = (let r = total_set (λ (u : View E G). bit u.queued) s.views id v w at in let q = k.queue in let b : bit v.queued ≡ 1 = ap bit t.0 in omega arith);
          counts = counts_set num k.added s.views id v w at refl (λ x. refl) (λ x. refl) k.counts;
        },
        refl,
      )

  -- the history so far is seen
  pub sees : (n id : ℕ) (m : Me (Option S) (View E G)) → m.0.live ≡ true → Allows (IsKept num history is_shut basis_of base basis) n id m 0 (λ k. k) (λ _. Sees num history is_shut basis_of m)
  sees n id m live s k len at small =
      let v : View E G = m.0 in
      let all = entries_of num (v.ids ++ v.joined_ids) k.added in
      let w = after_look v k.log all k.shut in
      let fits : Fits num base basis k.log k.shut k.served k.drawn v = fits_live num base basis k.log k.shut k.served k.drawn v (k.good id v at) live in
      let claims : (x : ℕ) → claim_count x w ≡ claim_count x v = λ x. (let a = times-append x v.ids v.joined_ids in omega arith) in
      let mine = mine_of num base k.log k.added v.ids v.seen v.mine fits.own k.log_is in
      let theirs = mine_of num base k.log k.added v.joined_ids v.joined_seen v.joined_mine fits.other k.log_is in (
        w,
        keeps,
        tt,
        record {
          log = k.log;
          added = k.added;
          shut = k.shut;
          served = k.served;
          drawn = k.drawn;
          log_is = k.log_is;
          words_are = set_get_or s.words 0 0 ∙ k.words_are;
          slot = slot_same num history is_shut basis_of basis k.log k.shut s.homes s.views id v w at refl k.slot;
          good = each_set (Good num base basis k.log k.shut k.served k.drawn) s.views id w
              (λ j u n e. k.good j u e)
              (inl (record {
                base_is = fits.base_is;
                basis_is = fits.basis_is;
                own = claim_both num base k.log k.added v.ids v.joined_ids k.log_is;
                other = claim_all num base k.log [] v.seen [] (claim_nobody num base k.log v.ids v.seen v.mine fits.own);
                shut_is = λ q. q;
                idle = λ z. record { ids_are = rw ((fits.idle z).ids_are, (fits.idle z).joined_are) refl; joined_are = refl; not_queued = (fits.idle z).not_queued };
                waits = fits.waits;
                turn_is = λ q. ((fits.turn_is q).0, (fits.turn_is q).1, refl, refl);
              }));
          apart = apart_same num s.views id v w at k.apart (λ q. (q, refl));
          queue = (let r = total_set (λ (u : View E G). bit u.queued) s.views id v w at in let q = k.queue in omega arith);
          counts = counts_set num k.added s.views id v w at refl claims (λ x. (let c = claims x in omega arith)) k.counts;
        },
        record {
          log = k.log;
          all = all;
          shut = k.shut;
          later = fits.own.later;
          other_later = fits.other.later;
          added = k.added;
          me_is = refl;
          seen_is = fits.own.log_is;
          joined_is = fits.other.log_is;
          log_is = k.log_is ∙ ap (λ l. l ++ k.added) (sym fits.base_is);
          all_is = refl;
          once = λ x. (let a = total_at (holding_count x) s.views id v at in let n = k.counts.numbers x in let t = times-append x v.ids v.joined_ids in omega arith);
          mine_is = owned_first num v.ids v.joined_ids k.added ∙ sym mine;
          other_is = owned_second num v.ids v.joined_ids k.added ∙ sym theirs;
          same = λ z. ap (λ l. entries_of num (v.ids ++ l) k.added) z ∙ ap (λ l. entries_of num l k.added) (append-nil v.ids) ∙ sym mine;
          shut_is = fits.shut_is;
          parts_fit = (let a = total_at (λ (u : View E G). u.parts) s.views id v at in let p = k.counts.parts in omega arith);
        },
      )
