-- A header that gets its kind last.
use Rattle.std.proofs.Common.{◌≡◌, ◌≢◌, inl, inr, ℕ, ◌+◌, ◌≤◌, List, [], ◌∷◌, ◌++◌, length, get_or, take, drop, Option, Some, None, refl, sym, ◌∙◌, ap, subst, arith, take-append-drop}
use Rattle.std.specs.Prelude.{Ok, Err, OnOk}
use Rattle.std.specs.declared.result.Result.{Result}
use Rattle.std.proofs.lemmas.Bool.{cases_eq}
use Rattle.std.proofs.lemmas.List.{drop_more, take-take}
use Rattle.qz_disk.specs.Disk.{DiskState, Torn, Only, Stays, LeavesOnly, written}
use Rattle.qz_disk.proofs.Moments.{then_leaves, weaker}
use Rattle.qz_journal.specs.Beginning.{LeadsToAll, IsNoneOrAll, IsBegunOr, Begins}
use Rattle.qz_journal.specs.Layout.{IsStore, HasStore, Holds, HoldFirst}
use Rattle.qz_journal.specs.Making.{IsFoundNew, IsMadeOr}
use Rattle.qz_journal.specs.declared.errors.NewStoreError.{NewStoreError}
use Rattle.qz_journal.specs.declared.errors.NewStoreError.TheVariants as new_store
use Rattle.qz_journal.specs.Slots.{IsSlot, slot}
use Rattle.qz_journal.specs.Through.{PutsThrough}
use Rattle.qz_journal.proofs.Parts.{parts, from_parts}
use Rattle.qz_journal.proofs.Stands.{torn_before}

-- the letters, a version, a kind and what follows them
abbrev fronted : ℕ → ℕ → List ℕ → List ℕ
fronted v x t = 81 ∷ 90 ∷ 50 ∷ 51 ∷ v ∷ x ∷ t

front_there : (v x : ℕ) (b : List ℕ) (ps : List (List ℕ)) → Holds b v x ps → b ≡ fronted v x (drop 6 b)
front_there v x b ps holds = sym (take-append-drop 6 b) ∙ ap (λ (l : List ℕ). l ++ drop 6 b) (sym (take-take 6 16 b (omega arith)) ∙ holds.header.front)

-- the same payloads under another kind
other_front : (v x y : ℕ) (t : List ℕ) (ps : List (List ℕ)) → Holds (fronted v x t) v x ps → Holds (fronted v y t) v y ps
other_front v x y t ps holds =
    let p = parts (fronted v x t) v x ps holds in
    from_parts (fronted v y (take 10 t)) (fronted v y t) v y ps
    (record { is = record { known = holds.header.known; front = refl; long = holds.header.long }; long = holds.header.long })
    (record { sizes = p.sizes; gate = p.gate; shut = p.shut; rest = p.rest; whole = ap (λ (l : List ℕ). fronted v y (drop 6 l)) p.whole })

six : (v x y : ℕ) (t : List ℕ) → slot 6 (fronted v y t) ≡ slot 6 (fronted v x t)
unfolding slot
six v x y t = refl

eleven : (v x y : ℕ) (t : List ℕ) → slot 11 (fronted v y t) ≡ slot 11 (fronted v x t)
unfolding slot
eleven v x y t = refl

-- bytes whose sixth is another
seven_six : (a b c d e x y : ℕ) (t : List ℕ) → slot 6 (a ∷ b ∷ c ∷ d ∷ e ∷ y ∷ t) ≡ slot 6 (a ∷ b ∷ c ∷ d ∷ e ∷ x ∷ t)
unfolding slot
seven_six a b c d e x y t = refl

seven_eleven : (a b c d e x y : ℕ) (t : List ℕ) → slot 11 (a ∷ b ∷ c ∷ d ∷ e ∷ y ∷ t) ≡ slot 11 (a ∷ b ∷ c ∷ d ∷ e ∷ x ∷ t)
unfolding slot
seven_eleven a b c d e x y t = refl

pub slots_stay : (y : ℕ) (bytes : List ℕ) → 16 ≤ length bytes → (slot 6 (written 5 (y ∷ []) bytes) ≡ slot 6 bytes) × (slot 11 (written 5 (y ∷ []) bytes) ≡ slot 11 bytes)
slots_stay y [] long = absurd (omega (arith, long))
slots_stay y (a ∷ []) long = absurd (omega (arith, long))
slots_stay y (a ∷ b ∷ []) long = absurd (omega (arith, long))
slots_stay y (a ∷ b ∷ c ∷ []) long = absurd (omega (arith, long))
slots_stay y (a ∷ b ∷ c ∷ d ∷ []) long = absurd (omega (arith, long))
slots_stay y (a ∷ b ∷ c ∷ d ∷ e ∷ []) long = absurd (omega (arith, long))
slots_stay y (a ∷ b ∷ c ∷ d ∷ e ∷ x ∷ t) long = (seven_six a b c d e x y t, seven_eleven a b c d e x y t)

-- a front that is torn at its kind
torn_kind : (v x : ℕ) (t b : List ℕ) → Torn 5 1 (fronted v x t) b → b ≡ fronted v (get_or b 5 0) t
torn_kind v x t b torn =
    let begins : take 5 b ≡ 81 ∷ 90 ∷ 50 ∷ 51 ∷ v ∷ [] = torn_before 5 1 (fronted v x t) b torn (omega arith) in
    let ends : drop 6 b ≡ t = torn.behind in
    sym (take-append-drop 5 b) ∙ ap (λ (l : List ℕ). l ++ drop 5 b) begins ∙ ap (λ (l : List ℕ). 81 ∷ 90 ∷ 50 ∷ 51 ∷ v ∷ l) (drop_more b 5 0 (omega (arith, torn.no_shorter)) ∙ ap (λ (l : List ℕ). get_or b 5 0 ∷ l) ends)

no_store : (v y kind : ℕ) (t : List ℕ) → y ≢ kind → IsStore kind (fronted v y t) → ⊥
no_store v y kind t other store = other (ap (λ (l : List ℕ). get_or l 5 0) store.1)

-- bytes whose header has no kind
pub unnamed : (v kind : ℕ) (ps : List (List ℕ)) (b : List ℕ) → 1 ≤ kind → Holds b v 0 ps → IsStore kind b → ⊥
unnamed v kind ps b some holds store =
    no_store v 0 kind (drop 6 b) (λ same. absurd (omega (arith, same, some))) (subst (IsStore kind) (front_there v 0 b ps holds) store)

-- a journal that has no kind yet
pub same_first : (v k : ℕ) (all ps : List (List ℕ)) (s t : DiskState) → k ≡ 0 → LeavesOnly s t (HoldFirst v k all ps) → LeavesOnly s t (HoldFirst v 0 all ps)
same_first v k all ps s t is leaves = subst (λ n. LeavesOnly s t (HoldFirst v n all ps)) is leaves

module _ (v kind : ℕ) (ps : List (List ℕ)) (some : 1 ≤ kind) where
  named_as : (t b : List ℕ) → Holds (fronted v 0 t) v 0 ps → slot 6 (fronted v 0 t) ≡ Some 16 → slot 11 (fronted v 0 t) ≡ None → (y : ℕ) → b ≡ fronted v y t → IsNoneOrAll v kind ps b
  named_as t b holds a none y is = elim (cases_eq y kind) [
    | inl same ↦ inr (subst (LeadsToAll v kind ps) (sym (is ∙ ap (λ z. fronted v z t) same)) (record { holds = other_front v 0 kind t ps holds; slot_a = six v 0 kind t ∙ a; slot_b = eleven v 0 kind t ∙ none }))
    | inr other ↦ inl (subst (λ (l : List ℕ). IsStore kind l → ⊥) (sym is) (no_store v y kind t other))
  ]

  module _ {T E : Type 0} (r : Result T E) (s t : DiskState) (holds : Holds s.content v 0 ps) (a : slot 6 s.content ≡ Some 16) (none : slot 11 s.content ≡ None) (puts : PutsThrough 5 (kind ∷ []) r s t) where
    abbrev rest : List ℕ
    rest = drop 6 s.content

    same : s.content ≡ fronted v 0 rest
    same = front_there v 0 s.content ps holds

    as_fronted : (b : List ℕ) (y : ℕ) → b ≡ fronted v y rest → IsNoneOrAll v kind ps b
    as_fronted b y is = named_as rest b (subst (λ (l : List ℕ). Holds l v 0 ps) same holds) (ap (slot 6) (sym same) ∙ a) (ap (slot 11) (sym same) ∙ none) y is

    pub name_leaves : Only s.content s → LeavesOnly s t (IsNoneOrAll v kind ps)
    name_leaves durable = weaker s t _ _ (puts.any_moment s.content durable) (λ b torn. as_fronted b (get_or b 5 0) (torn_kind v 0 rest b (subst (λ (l : List ℕ). Torn 5 1 l b) same torn)))

    pub name_leads : OnOk r (LeadsToAll v kind ps t.content)
    name_leads = leads r puts.content
      where
        leads : (q : Result T E) → OnOk q (t.content ≡ written 5 (kind ∷ []) s.content) → OnOk q (LeadsToAll v kind ps t.content)
        leads (Ok x) is =
            let front : t.content ≡ fronted v kind rest = is ∙ ap (written 5 (kind ∷ [])) same in
            subst (LeadsToAll v kind ps) (sym front) (record {
              holds = other_front v 0 kind rest ps (subst (λ (l : List ℕ). Holds l v 0 ps) same holds);
              slot_a = six v 0 kind rest ∙ ap (slot 6) (sym same) ∙ a;
              slot_b = eleven v 0 kind rest ∙ ap (slot 11) (sym same) ∙ none;
            })
        leads (Err e) is = tt

  -- The payloads are appended, the slot is set and the kind is written.

  pub after_first : (s m : DiskState) → LeavesOnly s m (HoldFirst v 0 [] ps) → LeavesOnly s m (IsNoneOrAll v kind ps)
  after_first s m leaves = weaker s m _ _ leaves (λ b first. inl (unnamed v kind (take first.many ps) b some first.holds))

  pub after_slot : (s m n : DiskState) → LeavesOnly s m (HoldFirst v 0 [] ps) → LeavesOnly m n (λ b. Holds b v 0 ps) → LeavesOnly s n (IsNoneOrAll v kind ps)
  after_slot s m n first leaves = then_leaves s m n _ _ _ (after_first s m first) leaves (λ b x. x) (λ b holds. inl (unnamed v kind ps b some holds))

-- What becomes of a disk on which a store is begun.
module _ (v kind : ℕ) (ps : List (List ℕ)) where
  -- nothing was written, or the first write failed
  pub not_begun : (e : NewStoreError) (s t : DiskState) → IsFoundNew s.content kind (Some e) → IsMadeOr v 0 (Some e) s t → (HasStore kind s.content → Stays s t × LeavesOnly s t s.IsImage) → ((bytes : List ℕ) → Only bytes s → LeavesOnly s t (Torn 0 17 bytes)) → Begins v kind ps (Some e) s t
  not_begun e s t found made kept leaves = record {
    found = found;
    made = unmade e made;
    kept = λ has. (kept has).0;
    kept_at_any_moment = λ has. (kept has).1;
    any_moment = λ bytes only. weaker s t _ _ (leaves bytes only) (λ b torn. inl torn);
  }
    where
      unmade : (e : NewStoreError) → IsMadeOr v 0 (Some e) s t → IsBegunOr v kind ps (Some e) s t
      unmade new_store.Exists made = made
      unmade new_store.OtherKind made = made
      unmade new_store.NoMemory made = made
      unmade new_store.Fault made = made

  module _ (a b c : DiskState) (none : HasStore kind a.content → ⊥) (leaves : (bytes : List ℕ) → Only bytes a → LeavesOnly a b (Torn 0 17 bytes)) (filled : LeavesOnly b c (IsNoneOrAll v kind ps)) where
    begun_as : (o : Option NewStoreError) → IsFoundNew a.content kind o → IsBegunOr v kind ps o a c → Begins v kind ps o a c
    begun_as o found made = record {
      found = found;
      made = made;
      kept = λ has. absurd (none has);
      kept_at_any_moment = λ has. absurd (none has);
      any_moment = λ bytes only. then_leaves a b c _ _ _ (leaves bytes only) filled (λ x torn. inl torn) (λ x one. inr one);
    }

    pub begun : LeadsToAll v kind ps c.content → Only c.content c → Begins v kind ps None a c
    begun led only = begun_as None none (led, only)

    pub begun_in_part : Begins v kind ps (Some new_store.Fault) a c
    begun_in_part = begun_as (Some new_store.Fault) tt tt
