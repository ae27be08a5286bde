-- Payloads are the records of one history at most.
use Rattle.std.proofs.Common.{◌≡◌, ℕ, List, [], ◌∷◌, ◌++◌, refl, subst}
use Rattle.std.proofs.Math.Logic.{∥∥₁_elim}
use Rattle.std.specs.List.{AllZip}
use Rattle.qz_stores.specs.Kinds.{StoreKind, IsLawful}
use Rattle.qz_stores.specs.Bytes.{Encode}
use Rattle.qz_stores.specs.Opening.{IsUnfit}

module _ {H S E R : Type 0} (k : StoreKind H S E R) (lawful : IsLawful k) where
  -- Two lists of entries that have the same payloads as records are the same.
  zip_unique : (ps : List (List ℕ)) (es fs : List E) → AllZip k.IsRecordOf ps es → AllZip k.IsRecordOf ps fs → es ≡ fs
  zip_unique [] [] [] p q = refl
  zip_unique [] [] (f ∷ fs) p q = absurd q
  zip_unique [] (e ∷ es) fs p q = absurd p
  zip_unique (x ∷ ps) [] fs p q = absurd p
  zip_unique (x ∷ ps) (e ∷ es) [] p q = absurd q
  zip_unique (x ∷ ps) (e ∷ es) (f ∷ fs) p q =
      let first : e ≡ f = lawful.records_once x e f p.0 q.0 in
      let others : es ≡ fs = zip_unique ps es fs p.1 q.1 in
      λ i. first i ∷ others i

  pub entries_unique : (ps : List (List ℕ)) (es fs : List E) → Encode k ps es → Encode k ps fs → es ≡ fs
  entries_unique ps es fs p q = ∥∥₁_elim p (k.lists_once es fs) (λ x. ∥∥₁_elim q (k.lists_once es fs) (λ y. zip_unique ps es fs x y))

  -- entries whose payloads go on with this one: those before it, its own, and those after it
  record IsCut (es hs : List E) (payload : List ℕ) : Type 0 where
    own : E
    after : List E
    whole : hs ≡ es ++ own ∷ after
    recorded : k.IsRecordOf payload own

  cut : (ps : List (List ℕ)) (es hs : List E) (payload : List ℕ) (more : List (List ℕ)) → AllZip k.IsRecordOf ps es → AllZip k.IsRecordOf (ps ++ payload ∷ more) hs → IsCut es hs payload
  cut [] [] [] payload more p q = absurd q
  cut [] [] (h ∷ hs) payload more p q = record { own = h; after = hs; whole = refl; recorded = q.0 }
  cut [] (e ∷ es) hs payload more p q = absurd p
  cut (x ∷ ps) [] hs payload more p q = absurd p
  cut (x ∷ ps) (e ∷ es) [] payload more p q = absurd q
  cut (x ∷ ps) (e ∷ es) (h ∷ hs) payload more p q =
      let first : h ≡ e = lawful.records_once x h e q.0 p.0 in
      let rest = cut ps es hs payload more p.1 q.1 in
      record { own = rest.own; after = rest.after; whole = λ i. first i ∷ rest.whole i; recorded = rest.recorded }

  fits : (T : S) (es hs : List E) (payload : List ℕ) → k.IsLegalFrom T hs → IsUnfit k (k.replay_from T es) payload → IsCut es hs payload → ⊥
  fits T es hs payload legal unfit at = unfit at.own at.recorded (lawful.legal_at T es at.own at.after (subst (k.IsLegalFrom T) at.whole legal))

  -- No payload of a history is unfit.
  pub none_unfit : (T : S) (ps : List (List ℕ)) (es hs : List E) (payload : List ℕ) (more : List (List ℕ)) → Encode k ps es → Encode k (ps ++ payload ∷ more) hs
      → k.IsLegalFrom T hs → IsUnfit k (k.replay_from T es) payload → ⊥
  none_unfit T ps es hs payload more p q legal unfit =
      ∥∥₁_elim p (λ x y. absurd x) (λ a. ∥∥₁_elim q (λ x y. absurd x) (λ b. fits T es hs payload legal unfit (cut ps es hs payload more a b)))
