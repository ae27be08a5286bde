-- Each of these facts has at most one proof, so that a store can keep it.
use Rattle.std.proofs.Common.{◌≡◌, ◌⊎◌, inl, inr, ℕ, List, [], ◌∷◌, ◌++◌, length, refl, ap, arith, length-append}
use Rattle.std.proofs.Props.{props}
use Rattle.std.proofs.Math.Logic.{∥∥₁_elim}
use Rattle.std.proofs.Math.Path.{Σ_path}
use Rattle.std.specs.List.{AllZip}
use mathlib.Core.HLevel.{is_prop→PathP}
use Rattle.std.specs.Prelude.{Option, Some, None, ◌≤◌, take, drop}
use Rattle.qz_journal.specs.Layout.{Holds}
use Rattle.qz_journal.proofs.Once.{holds_once}
use Rattle.qz_journal.proofs.Undecided.{Holds-prop}
use Rattle.qz_stores.specs.Kinds.{StoreKind}
use Rattle.qz_stores.specs.Bytes.{Encode}
use Rattle.qz_stores.specs.Bases.{records, ComeBefore, HoldAll, MayHoldAll, IsEndOf}

module _ {H S E R : Type 0} (k : StoreKind H S E R) where
  zip-length : (ps : List (List ℕ)) (es : List E) → AllZip k.IsRecordOf ps es → length ps ≡ length es
  zip-length [] [] all = refl
  zip-length [] (e ∷ es) all = absurd all
  zip-length (p ∷ ps) [] all = absurd all
  zip-length (p ∷ ps) (e ∷ es) all = omega (arith, zip-length ps es all.1)

  pub Encode-length : (ps : List (List ℕ)) (es : List E) → Encode k ps es → length ps ≡ length es
  Encode-length ps es encode = ∥∥₁_elim encode (hlevel props) (zip-length ps es)

  pub IsEndOf-prop : (start : S) (h : H) (es : List E) → IsProp (IsEndOf k start h es)
  IsEndOf-prop start h es p q = λ i. record {
    there = le-prop (k.base_count h) (length es) p.there q.there i;
    rest = k.lists_once (k.entries h) (drop (k.base_count h) es) p.rest q.rest i;
    base = k.states_once (k.base h) (k.replay_from start (take (k.base_count h) es)) p.base q.base i;
  }
    where
      le-prop : (a b : ℕ) → IsProp (a ≤ b)
      le-prop a b = hlevel props

  pub ComeBefore-prop : (o : Option ℕ) (start : ℕ) (ps : List (List ℕ)) (n : ℕ) → IsProp (ComeBefore k o start ps n)
  ComeBefore-prop None start ps n = hlevel props
  ComeBefore-prop (Some gate) start ps n = hlevel props

module _ {H S E R : Type 0} (k : StoreKind H S E R) (version : ℕ) (start : S) where
  -- bytes hold one list of payloads at most
  store-prop : (b : List ℕ) → IsProp ((ps : List (List ℕ)) × Holds b version k.number ps)
  store-prop b p q =
      let same : p.0 ≡ q.0 = holds_once b version version k.number p.0 q.0 p.1 q.1 in
      Σ_path same (is_prop→PathP (λ i. Holds b version k.number (same i)) (λ i. Holds-prop b version k.number (same i)) p.1 q.1)

  pub HoldAll-prop : (b : List ℕ) (es : List E) → IsProp (HoldAll k version start b es)
  HoldAll-prop b es p q = λ i. record {
    store = store-prop b p.store q.store i;
    recorded = λ ps holds. squash₁ (p.recorded ps holds) (q.recorded ps holds) i;
    valid = squash₁ p.valid q.valid i;
    legal = squash₁ p.legal q.legal i;
    slots = λ ps holds gate offset is opened. squash₁ (p.slots ps holds gate offset is opened) (q.slots ps holds gate offset is opened) i;
    begins = λ none. k.states_once start (k.empty version) (p.begins none) (q.begins none) i;
  }

  -- no bytes hold a list of entries and the list with one more
  one_whole : (b : List ℕ) (es : List E) (e : E) → HoldAll k version start b es → HoldAll k version start b (es ++ e ∷ []) → ⊥
  one_whole b es e p q =
      let ps = p.store.0 in
      absurd (omega (arith, Encode-length k (records k ps) es (p.recorded ps p.store.1), Encode-length k (records k ps) (es ++ e ∷ []) (q.recorded ps p.store.1), length-append es (e ∷ [])))

  either-whole : (es : List E) (e : E) (b : List ℕ) (p q : HoldAll k version start b es ⊎ HoldAll k version start b (es ++ e ∷ [])) → p ≡ q
  either-whole es e b (inl x) (inl y) = ap inl (HoldAll-prop b es x y)
  either-whole es e b (inl x) (inr y) = absurd (one_whole b es e x y)
  either-whole es e b (inr x) (inl y) = absurd (one_whole b es e y x)
  either-whole es e b (inr x) (inr y) = ap inr (HoldAll-prop b (es ++ e ∷ []) x y)

  pub MayHoldAll-prop : (es : List E) (u : Option E) (b : List ℕ) → IsProp (MayHoldAll k version start es u b)
  MayHoldAll-prop es None b = HoldAll-prop b es
  MayHoldAll-prop es (Some e) b = either-whole es e b
