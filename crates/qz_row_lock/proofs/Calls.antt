-- The steps of one call, put together.
use Rattle.std.proofs.Common.{◌≡◌, ℕ, ◌+◌, ◌*◌, ◌%◌, ◌<◌, List, [], ◌∷◌, ◌++◌, length, Bool, true, Some, None, refl, sym, ap, ◌∙◌, subst}
use Rattle.std.specs.Prelude.{Option, unwrap_or}
use mathlib.Core.List.{IsPrefix}
use mathlib.Core.Option.{some, some-injective}
use lib.ListN.{get_elem?}
use Rattle.atomic_table.specs.Table.{Me, Allows, rest}
use Rattle.qz_row_lock.specs.declared.view.View.{View}
use Rattle.qz_row_lock.specs.Views.{bit, times, GoesOn, after_draw, after_enter, after_write, after_leave}
use Rattle.qz_row_lock.specs.Rows.{IsKept, Draws, Enters, Writes, Leaves, Ends}
use Rattle.qz_row_lock.proofs.Moves.{writes, leaves}

abbrev first_or : {S : Type 0} → List (ℕ × Option S) → S → S
first_or [] d = d
first_or (p ∷ ps) d = unwrap_or p.1 d

one_value : {S : Type 0} (x y : S) (l : List (ℕ × Option S)) → l ≡ (0, Some x) ∷ [] → l ≡ (0, Some y) ∷ [] → x ≡ y
one_value {S} x y l p q = ap (λ (k : List (ℕ × Option S)). first_or k x) (sym p ∙ q)

module _ {S E G : Type 0} (num : E → ℕ) (history : S → List E) (is_shut : S → Bool) (basis_of : S → G) where
  -- what came back with the turn
  pub record Entered (old w : Me (Option S) (View E G)) : Type 0 where
    pub value : S
    pub ticket : ℕ
    pub later : List E
    pub me_is : w ≡ (after_enter (after_draw old.0 ticket) (history value) (is_shut value), (0, Some value) ∷ [])
    pub slots_are : w.1 ≡ (0, Some value) ∷ rest w.1
    pub basis_is : old.0.basis ≡ Some (basis_of value)
    pub seen_is : history value ≡ old.0.seen ++ later
    pub shut_is : old.0.shut ≡ true → is_shut value ≡ true

  pub entered_by : (old m w : Me (Option S) (View E G)) (ticket : ℕ) → old.1 ≡ [] → Draws num history is_shut basis_of old ticket m → Enters num history is_shut basis_of m w → Entered old w
  entered_by old m w ticket empty d e =
      let is : m ≡ (after_draw old.0 d.0, []) = d.2 ∙ ap (λ (l : List (ℕ × Option S)). (after_draw old.0 d.0, l)) empty in
      let me : w ≡ (after_enter (after_draw old.0 d.0) (history e.value) (is_shut e.value), (0, Some e.value) ∷ []) =
      e.me_is ∙ ap (λ (n : Me (Option S) (View E G)). (after_enter n.0 (history e.value) (is_shut e.value), (0, Some e.value) ∷ n.1)) is in
      record {
        value = e.value;
        ticket = d.0;
        later = e.later;
        me_is = me;
        slots_are = ap (λ (n : Me (Option S) (View E G)). n.1) me ∙ ap (λ (n : Me (Option S) (View E G)). (0, Some e.value) ∷ rest n.1) (sym me);
        basis_is = sym (ap (λ (n : Me (Option S) (View E G)). n.0.basis) is) ∙ e.basis_is;
        seen_is = e.seen_is ∙ ap (λ (n : Me (Option S) (View E G)). n.0.seen ++ e.later) is;
        shut_is = λ q. e.shut_is (ap (λ (n : Me (Option S) (View E G)). n.0.shut) is ∙ q);
      }

module _ {S E G : Type 0} (num : E → ℕ) (history : S → List E) (is_shut : S → Bool) (basis_of : S → G) (base : List E) (basis : G) where
  pub writes_as : (n id : ℕ) (old m : Me (Option S) (View E G)) (x : S) (new : ℕ) → m ≡ (old.0, (0, Some x) ∷ rest old.1) → old.1 ≡ (0, None) ∷ [] → old.0.live ≡ true → old.0.turn ≡ true
      → GoesOn num old.0.number old.0.seen (history x) → 0 < times old.0.number old.0.ids → (old.0.shut ≡ true → is_shut x ≡ true) → new ≡ 2 * length (history x) + bit (is_shut x)
      → Allows (IsKept num history is_shut basis_of base basis) n id m 0 (λ _. new) (λ _. Writes num history is_shut basis_of m)
  writes_as n id old m x new is out live turn on own stays new_is =
      let e : (old.0, (0, Some x) ∷ []) ≡ m = sym (is ∙ ap (λ (l : List (ℕ × Option S)). (old.0, (0, Some x) ∷ rest l)) out) in
      subst (λ (k : Me (Option S) (View E G)). Allows (IsKept num history is_shut basis_of base basis) n id k 0 (λ _. new) (λ _. Writes num history is_shut basis_of k)) e
      (writes num history is_shut basis_of base basis n id (old.0, (0, Some x) ∷ []) x on.further new live turn refl on.log_is on.bear own stays new_is)

  pub leaves_as : (n id : ℕ) (old m w : Me (Option S) (View E G)) (x : S) → m ≡ (old.0, (0, Some x) ∷ rest old.1) → old.1 ≡ (0, None) ∷ [] → old.0.live ≡ true → old.0.turn ≡ true → old.0.basis ≡ Some (basis_of x)
      → Writes num history is_shut basis_of m w
      → Allows (IsKept num history is_shut basis_of base basis) n id w 2 (λ k. (k + 1) % 18446744073709551616) (λ _. Leaves num history is_shut basis_of w)
  leaves_as n id old m w x is out live turn basis_is r =
      let e : m ≡ (old.0, (0, Some x) ∷ []) = is ∙ ap (λ (l : List (ℕ × Option S)). (old.0, (0, Some x) ∷ rest l)) out in
      let slots = r.slots_are in
      let theirs : m.1 ≡ (0, Some x) ∷ [] = ap (λ (k : Me (Option S) (View E G)). k.1) e in
      let same : r.value ≡ x = one_value r.value x m.1 slots theirs in
      let me : w ≡ (after_write old.0 (history x) (old.0.mine ++ r.further) (is_shut x), (0, Some x) ∷ []) =
      r.me_is ∙ ap (λ (k : Me (Option S) (View E G)). (after_write k.0 (history r.value) (k.0.mine ++ r.further) (is_shut r.value), k.1)) e ∙ ap (λ (y : S). (after_write old.0 (history y) (old.0.mine ++ r.further) (is_shut y), (0, Some x) ∷ [])) same in
      subst (λ (k : Me (Option S) (View E G)). Allows (IsKept num history is_shut basis_of base basis) n id k 2 (λ k. (k + 1) % 18446744073709551616) (λ _. Leaves num history is_shut basis_of k)) (sym me)
      (leaves num history is_shut basis_of base basis n id (after_write old.0 (history x) (old.0.mine ++ r.further) (is_shut x), (0, Some x) ∷ []) x live turn refl refl refl basis_is)

  pub left_by : (old m w z : Me (Option S) (View E G)) (x : S) → m ≡ (old.0, (0, Some x) ∷ rest old.1) → old.1 ≡ (0, None) ∷ []
      → Writes num history is_shut basis_of m w → Leaves num history is_shut basis_of w z
      → (further : List E) × (history x ≡ old.0.seen ++ further) × (z ≡ (after_leave (after_write old.0 (history x) (old.0.mine ++ further) (is_shut x)), []))
  left_by old m w z x is out r l =
      let e : m ≡ (old.0, (0, Some x) ∷ []) = is ∙ ap (λ (l : List (ℕ × Option S)). (old.0, (0, Some x) ∷ rest l)) out in
      let slots = r.slots_are in
      let theirs : m.1 ≡ (0, Some x) ∷ [] = ap (λ (k : Me (Option S) (View E G)). k.1) e in
      let same : r.value ≡ x = one_value r.value x m.1 slots theirs in
      let me : w ≡ (after_write old.0 (history x) (old.0.mine ++ r.further) (is_shut x), (0, Some x) ∷ []) =
      r.me_is ∙ ap (λ (k : Me (Option S) (View E G)). (after_write k.0 (history r.value) (k.0.mine ++ r.further) (is_shut r.value), k.1)) e ∙ ap (λ (y : S). (after_write old.0 (history y) (old.0.mine ++ r.further) (is_shut y), (0, Some x) ∷ [])) same in
      (r.further, sym (ap history same) ∙ r.log_is ∙ ap (λ (k : Me (Option S) (View E G)). k.0.seen ++ r.further) e, l ∙ ap (λ (k : Me (Option S) (View E G)). (after_leave k.0, rest k.1)) me)

  -- what the slot has at the end
  pub ended : (v : View E G) (slots : List (Option S)) (found : Option S) (x : S) → Ends num history is_shut basis_of base basis v slots → get_elem? slots 0 ≡ some found → found ≡ Some x
      → (IsPrefix v.seen (history x)) × (history x ≡ base ++ v.mine) × (basis_of x ≡ basis) × (v.shut ≡ true → is_shut x ≡ true)
  ended v slots found x e at is =
      let same : found ≡ Some e.value = some-injective found (Some e.value) (sym at ∙ e.at) in
      let one : x ≡ e.value = ap (λ (o : Option S). unwrap_or o x) (sym is ∙ same) in (
        (e.later, sym (ap history one ∙ e.seen_is)),
        ap history one ∙ e.log_is,
        ap basis_of one ∙ e.basis_is,
        λ q. ap is_shut one ∙ e.shut_is q,
      )
