-- What a seat claims of the history, as the history and the seat go on.
use Rattle.std.proofs.Common.{◌≡◌, ℕ, ◌+◌, ◌<◌, List, [], ◌∷◌, ◌++◌, Bool, true, false, ◌||◌, refl, sym, ap, ◌∙◌, subst, arith, append_assoc, append-nil}
use Rattle.std.proofs.lemmas.List.Elements.{filter-append}
use Rattle.std.proofs.lemmas.Bool.Decides.{nat_tests}
use Rattle.qz_row_lock.specs.Views.{times, has, entries_of, NoneBear, AllBear}
use Rattle.qz_row_lock.specs.Rows.{Claim}

pub times-append : (x : ℕ) (xs ys : List ℕ) → times x (xs ++ ys) ≡ times x xs + times x ys
times-append x [] ys = omega arith
times-append x (y ∷ xs) ys = let h = times-append x xs ys in omega arith

pub has_not : (x : ℕ) (xs : List ℕ) → times x xs ≡ 0 → has xs x ≡ false
has_not x [] h = refl
has_not x (y ∷ ys) h = grind (arith, nat_tests, has_not x ys)

pub has_some : (x : ℕ) (xs : List ℕ) → 0 < times x xs → has xs x ≡ true
has_some x [] h = absurd (omega arith)
has_some x (y ∷ ys) h = grind (arith, nat_tests, has_some x ys)

pub has-append : (x : ℕ) (xs ys : List ℕ) → has (xs ++ ys) x ≡ (has xs x || has ys x)
has-append x [] ys = refl
has-append x (y ∷ xs) ys = grind (arith, nat_tests, has-append x xs ys)

pub append_cancel : {E : Type 0} (xs ys zs : List E) → xs ++ ys ≡ xs ++ zs → ys ≡ zs
append_cancel [] ys zs e = e
append_cancel (x ∷ xs) ys zs e = append_cancel xs ys zs (cc)

module _ {E : Type 0} (num : E → ℕ) where
  pub NoneBear-append : (ids : List ℕ) (xs ys : List E) → NoneBear num ids xs → NoneBear num ids ys → NoneBear num ids (xs ++ ys)
  NoneBear-append ids [] ys h k = k
  NoneBear-append ids (x ∷ xs) ys h k = (h.0, NoneBear-append ids xs ys h.1 k)

  pub Clear_front : (ids : List ℕ) (xs ys : List E) → NoneBear num ids (xs ++ ys) → NoneBear num ids xs
  Clear_front ids [] ys h = tt
  Clear_front ids (x ∷ xs) ys h = (h.0, Clear_front ids xs ys h.1)

  pub Clear_back : (ids : List ℕ) (xs ys : List E) → NoneBear num ids (xs ++ ys) → NoneBear num ids ys
  Clear_back ids [] ys h = h
  Clear_back ids (x ∷ xs) ys h = Clear_back ids xs ys h.1

  pub Clear_both : (ids more : List ℕ) (xs : List E) → NoneBear num ids xs → NoneBear num more xs → NoneBear num (ids ++ more) xs
  Clear_both ids more [] h k = tt
  Clear_both ids more (x ∷ xs) h k = (let t = times-append (num x) ids more in let a = h.0 in let b = k.0 in omega arith, Clear_both ids more xs h.1 k.1)

  pub Clear_none : (xs : List E) → NoneBear num [] xs
  Clear_none [] = tt
  Clear_none (x ∷ xs) = (refl, Clear_none xs)

  pub Clear_bear : (n : ℕ) (ids : List ℕ) (xs : List E) → AllBear num n xs → times n ids ≡ 0 → NoneBear num ids xs
  Clear_bear n ids [] h z = tt
  Clear_bear n ids (x ∷ xs) h z = (ap (λ k. times k ids) h.0 ∙ z, Clear_bear n ids xs h.1 z)

  pub owned_clear : (ids : List ℕ) (xs : List E) → NoneBear num ids xs → entries_of num ids xs ≡ []
  owned_clear ids [] h = refl
  owned_clear ids (x ∷ xs) h = rw (has_not (num x) ids h.0) (owned_clear ids xs h.1)

  pub owned_none : (xs : List E) → entries_of num [] xs ≡ []
  owned_none [] = refl
  owned_none (x ∷ xs) = owned_none xs

  pub owned_bear : (n : ℕ) (ids : List ℕ) (xs : List E) → AllBear num n xs → 0 < times n ids → entries_of num ids xs ≡ xs
  owned_bear n ids [] h z = refl
  owned_bear n ids (x ∷ xs) h z = rw (has_some (num x) ids (subst (λ k. 0 < times k ids) (sym h.0) z)) (ap (λ ys. x ∷ ys) (owned_bear n ids xs h.1 z))

  first_step : (ids more : List ℕ) (x : E) (xs : List E) → entries_of num ids (entries_of num (ids ++ more) xs) ≡ entries_of num ids xs → (a b : Bool) → has ids (num x) ≡ a → has more (num x) ≡ b → entries_of num ids (entries_of num (ids ++ more) (x ∷ xs)) ≡ entries_of num ids (x ∷ xs)
  first_step ids more x xs ih true b p q = rw (has-append (num x) ids more, p, p) (ap (λ ys. x ∷ ys) ih)
  first_step ids more x xs ih false true p q = rw (has-append (num x) ids more, p, q, p) ih
  first_step ids more x xs ih false false p q = rw (has-append (num x) ids more, p, q) ih

  -- of the entries of both, those of the first
  pub owned_first : (ids more : List ℕ) (xs : List E) → entries_of num ids (entries_of num (ids ++ more) xs) ≡ entries_of num ids xs
  owned_first ids more [] = refl
  owned_first ids more (x ∷ xs) = first_step ids more x xs (owned_first ids more xs) (has ids (num x)) (has more (num x)) refl refl

  second_step : (ids more : List ℕ) (x : E) (xs : List E) → entries_of num more (entries_of num (ids ++ more) xs) ≡ entries_of num more xs → (a b : Bool) → has ids (num x) ≡ a → has more (num x) ≡ b → entries_of num more (entries_of num (ids ++ more) (x ∷ xs)) ≡ entries_of num more (x ∷ xs)
  second_step ids more x xs ih true true p q = rw (has-append (num x) ids more, p, q) (ap (λ ys. x ∷ ys) ih)
  second_step ids more x xs ih true false p q = rw (has-append (num x) ids more, p, q) ih
  second_step ids more x xs ih false true p q = rw (has-append (num x) ids more, p, q, q) (ap (λ ys. x ∷ ys) ih)
  second_step ids more x xs ih false false p q = rw (has-append (num x) ids more, p, q) ih

  pub owned_second : (ids more : List ℕ) (xs : List E) → entries_of num more (entries_of num (ids ++ more) xs) ≡ entries_of num more xs
  owned_second ids more [] = refl
  owned_second ids more (x ∷ xs) = second_step ids more x xs (owned_second ids more xs) (has ids (num x)) (has more (num x)) refl refl

  -- the history went on by entries of others
  pub claim_more : (base log : List E) (ids : List ℕ) (seen mine more : List E) → Claim num base log ids seen mine → NoneBear num ids more → Claim num base (log ++ more) ids seen mine
  claim_more base log ids seen mine more c h =
      record {
        past = c.past;
        later = c.later ++ more;
        seen_is = c.seen_is;
        log_is = ap (λ l. l ++ more) c.log_is ∙ append_assoc seen c.later more;
        mine_is = c.mine_is;
        clear = NoneBear-append ids c.later more c.clear h;
      }

  -- the whole history was seen
  pub claim_all : (base log : List E) (ids : List ℕ) (seen mine : List E) → Claim num base log ids seen mine → Claim num base log ids log mine
  claim_all base log ids seen mine c =
      record {
        past = c.past ++ c.later;
        later = [];
        seen_is = c.log_is ∙ ap (λ s. s ++ c.later) c.seen_is ∙ append_assoc base c.past c.later;
        log_is = sym (append-nil log);
        mine_is = c.mine_is ∙ sym (filter-append (λ e. has ids (num e)) c.past c.later ∙ ap (λ ys. entries_of num ids c.past ++ ys) (owned_clear ids c.later c.clear) ∙ append-nil (entries_of num ids c.past));
        clear = tt;
      }

  -- with the whole history, mine is what it has of these numbers after base
  pub mine_of : (base log added : List E) (ids : List ℕ) (seen mine : List E) → Claim num base log ids seen mine → log ≡ base ++ added → mine ≡ entries_of num ids added
  mine_of base log added ids seen mine c h =
      let d = claim_all base log ids seen mine c in
      d.mine_is ∙ ap (entries_of num ids) (append_cancel base d.past added (sym d.seen_is ∙ h))

  -- a seat wrote further entries
  pub claim_write : (base log : List E) (ids : List ℕ) (mine further : List E) (n : ℕ) → Claim num base log ids log mine → AllBear num n further → 0 < times n ids → Claim num base (log ++ further) ids (log ++ further) (mine ++ further)
  claim_write base log ids mine further n c h z =
      record {
        past = c.past ++ further;
        later = [];
        seen_is = ap (λ s. s ++ further) c.seen_is ∙ append_assoc base c.past further;
        log_is = sym (append-nil (log ++ further));
        mine_is = ap (λ m. m ++ further) c.mine_is ∙ sym (filter-append (λ e. has ids (num e)) c.past further ∙ ap (λ ys. entries_of num ids c.past ++ ys) (owned_bear n ids further h z));
        clear = tt;
      }

  -- what was seen by a seat with other numbers, of which the history has no entry
  pub claim_new : (base log added : List E) (ids new : List ℕ) (seen mine : List E) → Claim num base log ids seen mine → log ≡ base ++ added → NoneBear num new added → Claim num base log new seen []
  claim_new base log added ids new seen mine c h k =
      let same : added ≡ c.past ++ c.later = append_cancel base added (c.past ++ c.later) (sym h ∙ c.log_is ∙ ap (λ s. s ++ c.later) c.seen_is ∙ append_assoc base c.past c.later) in
      let k' : NoneBear num new (c.past ++ c.later) = subst (NoneBear num new) same k in
      record {
        past = c.past;
        later = c.later;
        seen_is = c.seen_is;
        log_is = c.log_is;
        mine_is = sym (owned_clear new c.past (Clear_front new c.past c.later k'));
        clear = Clear_back new c.past c.later k';
      }

  pub claim_nobody : (base log : List E) (ids : List ℕ) (seen mine : List E) → Claim num base log ids seen mine → Claim num base log [] seen []
  claim_nobody base log ids seen mine c =
      record { past = c.past; later = c.later; seen_is = c.seen_is; log_is = c.log_is; mine_is = sym (owned_none c.past); clear = Clear_none c.later }

  -- a seat sees the whole history with the numbers of both
  pub claim_both : (base log added : List E) (ids more : List ℕ) → log ≡ base ++ added → Claim num base log (ids ++ more) log (entries_of num (ids ++ more) added)
  claim_both base log added ids more h =
      record { past = added; later = []; seen_is = h; log_is = sym (append-nil log); mine_is = refl; clear = tt }

  -- entries of others change nothing of what is owned
  pub owned_on : (ids : List ℕ) (past later : List E) → NoneBear num ids later → entries_of num ids past ≡ entries_of num ids (past ++ later)
  owned_on ids past later h = sym (filter-append (λ e. has ids (num e)) past later ∙ ap (λ ys. entries_of num ids past ++ ys) (owned_clear ids later h) ∙ append-nil (entries_of num ids past))

  -- further entries of one's own are added
  pub owned_more : (n : ℕ) (ids : List ℕ) (past further mine : List E) → mine ≡ entries_of num ids past → AllBear num n further → 0 < times n ids → mine ++ further ≡ entries_of num ids (past ++ further)
  owned_more n ids past further mine is h z = ap (λ m. m ++ further) is ∙ sym (filter-append (λ e. has ids (num e)) past further ∙ ap (λ ys. entries_of num ids past ++ ys) (owned_bear n ids further h z))
