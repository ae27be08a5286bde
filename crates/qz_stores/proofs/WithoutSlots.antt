-- Where no slot is open, what was opened is the whole list of a new store.
use Rattle.std.proofs.Common.{◌≡◌, inl, inr, ℕ, Bool, true, false, nat_lt, if◌then◌else◌, List, take, drop, refl, sym, ◌∙◌, ap, subst, arith, length-take}
use Rattle.std.specs.Prelude.{Option, Some, None}
use Rattle.qz_journal.specs.Layout.{Holds}
use Rattle.qz_journal.specs.Slots.{IsSlot, slot, slots_of, gate_of_greater, slot_in_use}
use Rattle.qz_journal.specs.Tails.{start_at, start_of}
use Rattle.qz_journal.proofs.Once.{holds_once}
use Rattle.qz_journal.proofs.Walk.{holds_at}
use Rattle.qz_journal.specs.Opening.{EndsAt}
use Rattle.qz_stores.specs.Kinds.{StoreKind, IsLawful}
use Rattle.qz_stores.specs.Bases.{RecordEntries, HoldAll, IsEndOf}
use Rattle.qz_stores.specs.Opening.{IsBase, StandsFrom}

some_none : (x : ℕ) → ◌≡◌ {A = Option ℕ} (Some x) None → ⊥
some_none x is = cc

pub none_open : (a b : Option ℕ) → gate_of_greater a b ≡ None → (a ≡ None) × (b ≡ None)
none_open None None is = (refl, refl)
none_open None (Some b) is = absurd (some_none 11 is)
none_open (Some a) None is = absurd (some_none 6 is)
none_open (Some a) (Some b) is = absurd (never (nat_lt a b) is)
  where
    never : (c : Bool) → if◌then◌else◌ {A = Option ℕ} c (Some 11) (Some 6) ≡ None → ⊥
    never true same = some_none 11 same
    never false same = some_none 6 same

module _ {H S E R : Type 0} (k : StoreKind H S E R) (lawful : IsLawful k) where
  -- the base is that of a new store
  pub new_there : (v : ℕ) (b : List ℕ) (h : H) → slot_in_use (slots_of b) ≡ None → StandsFrom k v b h → (k.base h ≡ k.empty v) × (k.base_count h ≡ 0)
  new_there v b h none stands = subst (λ o. IsBase k o v stands.payloads (k.base h) (k.base_count h)) none stands.read.base

  pub all_there : (v : ℕ) (b : List ℕ) (h : H) → slot_in_use (slots_of b) ≡ None → StandsFrom k v b h → HoldAll k v (k.empty v) b (k.entries h)
  all_there v b h none stands =
      let t = stands.tail in
      let start : start_of (slots_of b) ≡ 16 = ap (λ o. start_at o (slots_of b)) none in
      let closed = none_open (slot 6 b) (slot 11 b) none in
      let holds : Holds b v k.number stands.payloads =
      holds_at b v k.number stands.payloads true t.header (omega (arith, t.header.long, length-take 16 b)) t.sizes (subst (λ n. EndsAt b n stands.payloads true) start t.ends) refl in
      record {
        store = (stands.payloads, holds);
        recorded = λ qs also. subst (λ (l : List (List ℕ)). RecordEntries k l (k.entries h)) (holds_once b v v k.number stands.payloads qs holds also) stands.read.taken.recorded;
        valid = lawful.valid_new v t.header.known;
        legal = ∣ subst (λ (T : S). k.IsLegalFrom T (k.entries h)) (new_there v b h none stands).0 stands.read.taken.legal ∣₁;
        slots = λ qs also gate offset is opened. absurd (shut closed.0 closed.1 gate offset is opened);
        begins = λ _. refl;
      }
    where
      shut : slot 6 b ≡ None → slot 11 b ≡ None → (gate offset : ℕ) → IsSlot gate → slot gate b ≡ Some offset → ⊥
      shut six eleven gate offset (inl is) opened = let both : None ≡ Some offset = sym six ∙ subst (λ g. slot g b ≡ Some offset) is opened in absurd (cc)
      shut six eleven gate offset (inr is) opened = let both : None ≡ Some offset = sym eleven ∙ subst (λ g. slot g b ≡ Some offset) is opened in absurd (cc)

  pub all_of_them : (v : ℕ) (b : List ℕ) (h : H) → slot_in_use (slots_of b) ≡ None → StandsFrom k v b h → IsEndOf k (k.empty v) h (k.entries h)
  all_of_them v b h none stands =
      let new = new_there v b h none stands in
      record {
        there = omega (arith, new.1);
        rest = ap (λ n. drop n (k.entries h)) (sym new.1);
        base = new.0 ∙ sym (lawful.replay_none (k.empty v)) ∙ ap (λ n. k.replay_from (k.empty v) (take n (k.entries h))) (sym new.1);
      }
