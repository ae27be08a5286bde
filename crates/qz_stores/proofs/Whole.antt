-- Lists of entries that are cut in two, and the payloads that are their records.
use Rattle.std.proofs.Common.{◌≡◌, ℕ, suc, ◌≤◌, Bool, true, false, not, if◌then◌else◌, List, [], ◌∷◌, ◌++◌, length, take, drop, refl, sym, ◌∙◌, ap, subst, arith, append_assoc, append-nil, length-append}
use Rattle.std.proofs.Math.Logic.{∥∥₁_elim, ∥∥₁_map}
use Rattle.std.proofs.Math.Seq.{drop-append_seam, take-append_seam}
use Rattle.std.proofs.lemmas.List.Elements.{filter-append}
use Rattle.std.specs.List.{filter, AllByRecursion, AllZip}
use Rattle.qz_journal.specs.Layout.{blocks}
use Rattle.qz_journal.specs.Layout.{body_of}
use Rattle.qz_stores.specs.Kinds.{StoreKind, HasRecord, IsLawful, IsAccepted}
use Rattle.qz_stores.specs.Bases.{records, RecordEntries, IsEndOf}
use Rattle.qz_stores.proofs.Once.{entries_unique}

-- Payloads that are cut after the same bytes are cut at the same place.
pub cut_once : (xs bs cs ds : List (List ℕ)) → xs ++ bs ≡ cs ++ ds → length (blocks xs) ≡ length (blocks cs) → (xs ≡ cs) × (bs ≡ ds)
cut_once [] bs [] ds same long = (refl, same)
cut_once [] bs (c ∷ cs) ds same long = absurd (omega (arith, long))
cut_once (a ∷ xs) bs [] ds same long = absurd (omega (arith, long))
cut_once (a ∷ xs) bs (c ∷ cs) ds same long =
    let first : a ≡ c = cc in
    let others : xs ++ bs ≡ cs ++ ds = cc in
    let rest = cut_once xs bs cs ds others (omega (arith, long, ap (λ (p : List ℕ). length (body_of p)) first, length-append (body_of a) (blocks xs), length-append (body_of c) (blocks cs))) in
    (λ i. first i ∷ rest.0 i, rest.1)

module _ {A B : Type 0} (P : A → B → Type 0) where
  pub zip_length : (xs : List A) (es : List B) → AllZip P xs es → length xs ≡ length es
  zip_length [] [] all = refl
  zip_length [] (e ∷ es) all = absurd all
  zip_length (x ∷ xs) [] all = absurd all
  zip_length (x ∷ xs) (e ∷ es) all = omega (arith, zip_length xs es all.1)

  pub zip_both : (xs ys : List A) (es fs : List B) → AllZip P xs es → AllZip P ys fs → AllZip P (xs ++ ys) (es ++ fs)
  zip_both [] ys [] fs one two = two
  zip_both [] ys (e ∷ es) fs one two = absurd one
  zip_both (x ∷ xs) ys [] fs one two = absurd one
  zip_both (x ∷ xs) ys (e ∷ es) fs one two = (one.0, zip_both xs ys es fs one.1 two)

  pub zip_back : (xs ys : List A) (es fs : List B) → length xs ≡ length es → AllZip P (xs ++ ys) (es ++ fs) → AllZip P ys fs
  zip_back [] ys [] fs long all = all
  zip_back [] ys (e ∷ es) fs long all = absurd (omega (arith, long))
  zip_back (x ∷ xs) ys [] fs long all = absurd (omega (arith, long))
  zip_back (x ∷ xs) ys (e ∷ es) fs long all = zip_back xs ys es fs (omega (arith, long)) all.1

-- no more are left than there were
pub fewer : {A : Type 0} (p : A → Bool) (xs : List A) → length (filter p xs) ≤ length xs
fewer p [] = omega arith
fewer p (x ∷ xs) = elim (p x) as (λ b. length (if b then x ∷ filter p xs else filter p xs) ≤ suc (length xs)) [
  | true ↦ omega (arith, fewer p xs)
  | false ↦ omega (arith, fewer p xs)
]

module _ {H S E R : Type 0} (k : StoreKind H S E R) where
  pub records_append : (ps qs : List (List ℕ)) → records k (ps ++ qs) ≡ records k ps ++ records k qs
  records_append ps qs = filter-append (λ payload. not (k.is_part payload)) ps qs

  pub one_record : (p : List ℕ) → k.is_part p ≡ false → records k (p ∷ []) ≡ p ∷ []
  one_record p is = ap (λ b. if not b then p ∷ [] else []) is

  pub no_record : (p : List ℕ) → k.is_part p ≡ true → records k (p ∷ []) ≡ []
  no_record p is = ap (λ b. if not b then p ∷ [] else []) is

  pub recorded_both : (ps qs : List (List ℕ)) (es fs : List E) → RecordEntries k ps es → RecordEntries k qs fs → RecordEntries k (ps ++ qs) (es ++ fs)
  recorded_both ps qs es fs one two =
      ∥∥₁_elim one squash₁ (λ x. ∥∥₁_map two (λ y. subst (λ (l : List (List ℕ)). AllZip k.IsRecordOf l (es ++ fs)) (sym (records_append ps qs)) (zip_both k.IsRecordOf (records k ps) (records k qs) es fs x y)))

  pub recorded_back : (ps qs : List (List ℕ)) (es fs : List E) → RecordEntries k ps es → RecordEntries k (ps ++ qs) (es ++ fs) → RecordEntries k qs fs
  recorded_back ps qs es fs one both =
      ∥∥₁_elim one squash₁ (λ x. ∥∥₁_map both (λ y. zip_back k.IsRecordOf (records k ps) (records k qs) es fs (zip_length k.IsRecordOf (records k ps) es x)
      (subst (λ (l : List (List ℕ)). AllZip k.IsRecordOf l (es ++ fs)) (records_append ps qs) y)))

  -- no more entries than payloads
  pub recorded_few : (ps : List (List ℕ)) (es : List E) → AllZip k.IsRecordOf (records k ps) es → length es ≤ length ps
  recorded_few ps es all = omega (arith, zip_length k.IsRecordOf (records k ps) es all, fewer (λ payload. not (k.is_part payload)) ps)

  pub have_records : (ps : List (List ℕ)) (es : List E) → AllZip k.IsRecordOf ps es → AllByRecursion (HasRecord k) es
  have_records [] [] all = tt
  have_records [] (e ∷ es) all = absurd all
  have_records (p ∷ ps) [] all = absurd all
  have_records (p ∷ ps) (e ∷ es) all = ((p, all.0), have_records ps es all.1)

module _ {H S E R : Type 0} (k : StoreKind H S E R) (lawful : IsLawful k) where
  pub recorded_once : (ps : List (List ℕ)) (es fs : List E) → RecordEntries k ps es → RecordEntries k ps fs → es ≡ fs
  recorded_once ps es fs p q = entries_unique k lawful (records k ps) es fs p q

  replay_one : (T : S) (e : E) → k.replay_from T (e ∷ []) ≡ k.after T e
  replay_one T e = lawful.replay_more T [] e ∙ ap (λ (U : S). k.after U e) (lawful.replay_none T)

  pub replay_both : (T : S) (es fs : List E) → k.replay_from T (es ++ fs) ≡ k.replay_from (k.replay_from T es) fs
  replay_both T es [] = ap (k.replay_from T) (append-nil es) ∙ sym (lawful.replay_none (k.replay_from T es))
  replay_both T es (f ∷ fs) =
      ap (k.replay_from T) (sym (append_assoc es (f ∷ []) fs)) ∙ replay_both T (es ++ f ∷ []) fs
      ∙ ap (λ (U : S). k.replay_from U fs) (lawful.replay_more T es f ∙ sym (replay_one (k.replay_from T es) f)) ∙ sym (replay_both (k.replay_from T es) (f ∷ []) fs)

  -- each of some further entries is accepted after those before it
  legal_up : (T : S) (es fs more : List E) → k.IsLegalFrom T (es ++ (fs ++ more)) → k.IsLegalFrom T es → k.IsLegalFrom T (es ++ fs)
  legal_up T es [] more all so_far = subst (k.IsLegalFrom T) (sym (append-nil es)) so_far
  legal_up T es (f ∷ fs) more all so_far =
      subst (k.IsLegalFrom T) (append_assoc es (f ∷ []) fs)
      (legal_up T (es ++ f ∷ []) fs more (subst (k.IsLegalFrom T) (sym (append_assoc es (f ∷ []) (fs ++ more))) all)
      (lawful.legal_more T es f so_far (lawful.legal_at T es f (fs ++ more) all)))

  pub legal_front : (T : S) (es more : List E) → k.IsLegalFrom T (es ++ more) → k.IsLegalFrom T es
  legal_front T es more all = legal_up T [] es more all (lawful.legal_none T)

  legal_on : (T : S) (es gs fs : List E) → k.IsLegalFrom T (es ++ (gs ++ fs)) → k.IsLegalFrom (k.replay_from T es) gs → k.IsLegalFrom (k.replay_from T es) (gs ++ fs)
  legal_on T es gs [] all so_far = subst (k.IsLegalFrom (k.replay_from T es)) (sym (append-nil gs)) so_far
  legal_on T es gs (f ∷ fs) all so_far =
      let passes = subst (λ (U : S). IsAccepted k U f) (replay_both T es gs) (lawful.legal_at T (es ++ gs) f fs (subst (k.IsLegalFrom T) (sym (append_assoc es gs (f ∷ fs))) all)) in
      subst (k.IsLegalFrom (k.replay_from T es)) (append_assoc gs (f ∷ []) fs)
      (legal_on T es (gs ++ f ∷ []) fs (subst (λ (l : List E). k.IsLegalFrom T (es ++ l)) (sym (append_assoc gs (f ∷ []) fs)) all) (lawful.legal_more (k.replay_from T es) gs f so_far passes))

  pub legal_back : (T : S) (es fs : List E) → k.IsLegalFrom T (es ++ fs) → k.IsLegalFrom (k.replay_from T es) fs
  legal_back T es fs all = legal_on T es [] fs all (lawful.legal_none (k.replay_from T es))

  -- a list that is cut after the entries that come before the base
  pub end_as : (O : S) (n : ℕ) (T : S) (fs whole earlier later : List E) → whole ≡ earlier ++ later → n ≡ length earlier → T ≡ k.replay_from O earlier → fs ≡ later → IsEndOf k O (k.history n T fs) whole
  end_as O n T fs whole earlier later whole_is n_is T_is fs_is =
      let count : k.base_count (k.history n T fs) ≡ length earlier = lawful.base_count_is n T fs ∙ n_is in
      let before : take (length earlier) whole ≡ earlier = ap (take (length earlier)) whole_is ∙ take-append_seam earlier later in
      let behind : drop (length earlier) whole ≡ later = ap (drop (length earlier)) whole_is ∙ drop-append_seam earlier later in
      record {
        there = omega (arith, count, ap (λ (l : List E). length l) whole_is, length-append earlier later);
        rest = lawful.entries_are n T fs ∙ fs_is ∙ sym behind ∙ ap (λ (m : ℕ). drop m whole) (sym count);
        base = lawful.base_is n T fs ∙ T_is ∙ ap (k.replay_from O) (sym before) ∙ ap (λ (m : ℕ). k.replay_from O (take m whole)) (sym count);
      }
