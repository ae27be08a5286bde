-- The payloads from an offset on.
use Rattle.std.proofs.Common.{◌≡◌, ◌⊎◌, inl, inr, ⊎_elim, ℕ, ◌+◌, ◌<◌, ◌≤◌, Bool, true, false, List, [], ◌∷◌, ◌++◌, length, if◌then◌else◌, refl, sym, ap, subst, ◌∙◌, arith, append-nil, append_assoc, length-append}
use Rattle.std.specs.Prelude.{Option, Some, None}
use Rattle.std.proofs.lemmas.Bool.{cases_lt}
use Rattle.qz_journal.proofs.Stands.{end_of-push}
use Rattle.qz_journal.proofs.TrueTails.{blocks-append}
use Rattle.qz_journal.specs.Layout.{body_of, blocks, end_of}
use Rattle.qz_journal.specs.Slots.{slot_in_use}
use Rattle.qz_journal.specs.Tails.{start_at, start_of}
use Rattle.qz_journal.specs.declared.slots.Slots.{Slots}
use Rattle.qz_stores.proofs.Whole.{cut_once}
use Rattle.qz_stores.specs.Kinds.{StoreKind}
use Rattle.qz_follow.specs.Payloads.{base_slot, AreFrom}

pub end_append : (ps qs : List (List ℕ)) → end_of (ps ++ qs) ≡ end_of ps + length (blocks qs)
end_append ps qs = omega (arith, ap length (blocks-append ps qs), length-append (blocks ps) (blocks qs))

pub from_once : (o : ℕ) (ps xs ys : List (List ℕ)) → AreFrom o ps xs → AreFrom o ps ys → xs ≡ ys
from_once o ps xs ys p q = (cut_once p.before xs q.before ys (sym p.parts ∙ q.parts) (omega (arith, p.offset_is, q.offset_is))).1

pub from_more : (o : ℕ) (ps xs qs : List (List ℕ)) → AreFrom o ps xs → AreFrom o (ps ++ qs) (xs ++ qs)
from_more o ps xs qs p = record { before = p.before; parts = ap (λ (l : List (List ℕ)). l ++ qs) p.parts ∙ append_assoc p.before xs qs; offset_is = p.offset_is }

pub from_all : (ps : List (List ℕ)) → AreFrom 16 ps ps
from_all ps = record { before = []; parts = refl; offset_is = refl }

pub from_here : (o : ℕ) (ps : List (List ℕ)) (p : List ℕ) → o ≡ end_of ps → AreFrom o (ps ++ p ∷ []) (p ∷ [])
from_here o ps p is = record { before = ps; parts = refl; offset_is = is }

-- one of two cuts of the same payloads comes first
pub prefix_by : (b xs ps qs : List (List ℕ)) → ps ++ qs ≡ b ++ xs → length (blocks b) ≤ length (blocks ps) → (ys : List (List ℕ)) × (ps ≡ b ++ ys) × (xs ≡ ys ++ qs)
prefix_by [] xs ps qs same le = (ps, refl, sym same)
prefix_by (x ∷ b) xs [] qs same le = absurd (omega (arith, le))
prefix_by (x ∷ b) xs (y ∷ ps) qs same le =
    let first : y ≡ x = cc in
    let others : ps ++ qs ≡ b ++ xs = cc in
    let rest = prefix_by b xs ps qs others (omega (arith, le, ap (λ (p : List ℕ). length (body_of p)) first, length-append (body_of x) (blocks b), length-append (body_of y) (blocks ps))) in
    (rest.0, (λ i. first i ∷ rest.1 i), rest.2)

-- where the first of some payloads reach behind the offset, they have some from there on
pub record Reaches (o : ℕ) (ps qs xs : List (List ℕ)) : Type 0 where
  pub ys : List (List ℕ)
  pub whole : xs ≡ ys ++ qs
  pub from : AreFrom o ps ys
  pub some : ys ≡ [] → ⊥

pub reaches : (o : ℕ) (ps qs xs : List (List ℕ)) → AreFrom o (ps ++ qs) xs → o < end_of ps → Reaches o ps qs xs
reaches o ps qs xs f lt =
    let cut = prefix_by f.before xs ps qs f.parts (omega (arith, f.offset_is, lt)) in
    record {
      ys = cut.0;
      whole = cut.2;
      from = record { before = f.before; parts = cut.1; offset_is = f.offset_is };
      some = λ none. omega (arith, lt, f.offset_is, ap end_of (cut.1 ∙ ap (λ (l : List (List ℕ)). f.before ++ l) none ∙ append-nil f.before));
    }

one_or_none : (p : List ℕ) (ys xs : List (List ℕ)) → p ∷ [] ≡ ys ++ xs → (ys ≡ []) ⊎ (ys ≡ p ∷ [])
one_or_none p [] xs same = inl refl
one_or_none p (y ∷ []) xs same = let first : p ≡ y = cc in inr (λ i. sym first i ∷ [])
one_or_none p (y ∷ z ∷ ys) xs same = absurd (omega (arith, ap length same))

-- No payload has its gate at an offset that these and the next one pass over.
pub passes : (o : ℕ) (ps : List (List ℕ)) (p : List ℕ) (xs : List (List ℕ)) → (end_of ps ≤ o) ⊎ (ps ≡ []) → (end_of ps ≡ o → ⊥) → o < end_of (ps ++ p ∷ []) → AreFrom o (ps ++ p ∷ []) xs → ⊥
passes o ps p xs before other lt f = ⊎_elim
    (λ early.
    let cut = prefix_by f.before xs ps (p ∷ []) f.parts (omega (arith, early)) in
    let long : end_of ps ≡ end_of f.before + length (blocks cut.0) = ap end_of cut.1 ∙ end_append f.before cut.0 in
    ⊎_elim (λ le. other (omega (arith, le, f.offset_is, long)))
    (λ none.
    let zero : end_of ps ≡ 16 = ap end_of none in
    other (omega (arith, zero, f.offset_is, long)))
    before)
    (λ late.
    let cut = prefix_by ps (p ∷ []) f.before xs (sym f.parts) (omega (arith, late)) in
    ⊎_elim (λ none. omega (arith, late, ap (λ (l : List (List ℕ)). length (blocks l)) (cut.1 ∙ ap (λ (l : List (List ℕ)). ps ++ l) none ∙ append-nil ps)))
    (λ one. omega (arith, lt, f.offset_is, ap end_of (cut.1 ∙ ap (λ (l : List (List ℕ)). ps ++ l) one)))
    (one_or_none p cut.0 xs cut.2))
    (cases_lt (length (blocks f.before)) (length (blocks ps) + 1))

module _ {H S E R : Type 0} (k : StoreKind H S E R) (slots : Slots) where
  pub base_more : (ps qs : List (List ℕ)) → (ps ≡ [] → ⊥) → base_slot k slots (ps ++ qs) ≡ base_slot k slots ps
  base_more [] qs some = absurd (some refl)
  base_more (p ∷ ps) qs some = refl

  pub base_some : (ps : List (List ℕ)) (slot : ℕ) → base_slot k slots ps ≡ Some slot → ps ≡ [] → ⊥
  base_some [] slot is none = let no : ◌≡◌ {A = Option ℕ} None (Some slot) = is in absurd (cc)
  base_some (p ∷ ps) slot is none = absurd (cc)

  by_part : (b : Bool) (slot : ℕ) → (if◌then◌else◌ {A = Option ℕ} b (slot_in_use slots) None) ≡ Some slot → slot_in_use slots ≡ Some slot
  by_part true slot is = is
  by_part false slot is = let no : ◌≡◌ {A = Option ℕ} None (Some slot) = is in absurd (cc)

  pub base_in_use : (ps : List (List ℕ)) (slot : ℕ) → base_slot k slots ps ≡ Some slot → slot_in_use slots ≡ Some slot
  base_in_use [] slot is = let no : ◌≡◌ {A = Option ℕ} None (Some slot) = is in absurd (cc)
  base_in_use (p ∷ ps) slot is = by_part (k.is_part p) slot is

  pub base_start : (ps : List (List ℕ)) (slot : ℕ) → base_slot k slots ps ≡ Some slot → start_at (base_slot k slots ps) slots ≡ start_of slots
  base_start ps slot is = ap (λ (o : Option ℕ). start_at o slots) (is ∙ sym (base_in_use ps slot is))
