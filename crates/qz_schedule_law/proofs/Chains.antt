-- Chains of calendars stay where no calendar of theirs is replaced.
use Rattle.std.proofs.Common.{◌≡◌, ℕ, zero, suc, Bool, true, false, List, [], ◌∷◌, Option, Some, None, IsSome, IfSome, refl, sym, ap, ◌∙◌, if◌then◌else◌}
use Rattle.std.specs.List.{AllByRecursion, list_any}
use Rattle.std.proofs.lemmas.Bool.{or_parts}
use Rattle.qz_types.specs.Rows.{CalendarData}
use Rattle.qz_types.specs.Chains.{calendar_named, chain_of}
use Rattle.qz_types.specs.Words.{text_cmp, same_text, calendar_of}
use Rattle.qz_model.specs.Calendars.{with_new_calendar}
use Rattle.qz_model.proofs.LookUps.{row_of-id}
use Rattle.qz_model.proofs.NamedRows.{same_text_laws, other_text, All-calendar_of, calendar_of_with_new}

-- the calendar below is stored
abbrev pub HasBase : List CalendarData → CalendarData → Type 0
HasBase calendars c = IfSome c.base (λ name. IsSome (calendar_of name calendars))

found_has : (P : CalendarData → Type 0) (name : List ℕ) (calendars : List CalendarData) (o : Option CalendarData) → AllByRecursion P calendars → calendar_of name calendars ≡ o → IfSome o P
found_has P name calendars None all found = tt
found_has P name calendars (Some c) all found = All-calendar_of P name c calendars all found

-- what holds of all calendars holds of the one that is named
pub named_has : (P : CalendarData → Type 0) (calendars : List CalendarData) (base : Option (List ℕ)) → AllByRecursion P calendars → IfSome (calendar_named calendars base) P
named_has P calendars None all = tt
named_has P calendars (Some name) all = found_has P name calendars (calendar_of name calendars) all refl

-- and of those of a chain
pub chain_has : (P : CalendarData → Type 0) (calendars : List CalendarData) → AllByRecursion P calendars → (n : ℕ) (o : Option CalendarData) → IfSome o P → AllByRecursion P (chain_of calendars n o)
unfolding chain_of
chain_has P calendars all zero None is = tt
chain_has P calendars all zero (Some c) is = tt
chain_has P calendars all (suc n) None is = tt
chain_has P calendars all (suc n) (Some c) is = (is, chain_has P calendars all n (calendar_named calendars c.base) (named_has P calendars c.base all))

-- a chain stays where each calendar is followed by the same one
pub chain_same : (old new : List CalendarData) → AllByRecursion (λ c. calendar_named new c.base ≡ calendar_named old c.base) old → (n : ℕ) (o : Option CalendarData) → IfSome o (λ c. calendar_named new c.base ≡ calendar_named old c.base)
    → chain_of new n o ≡ chain_of old n o
unfolding chain_of
chain_same old new all zero None is = refl
chain_same old new all zero (Some c) is = refl
chain_same old new all (suc n) None is = refl
chain_same old new all (suc n) (Some c) is =
    ap (λ (cs : List CalendarData). c ∷ cs)
    (ap (chain_of new n) is ∙ chain_same old new all n (calendar_named old c.base) (named_has (λ d. calendar_named new d.base ≡ calendar_named old d.base) old c.base all))

-- a calendar that is found has the name
calendar_of-name : (name : List ℕ) (c : CalendarData) (rows : List CalendarData) → calendar_of name rows ≡ Some c → same_text name c.name ≡ true
unfolding calendar_of same_text
calendar_of-name name c rows found = row_of-id text_cmp (λ r. r.name) name c rows found

no_chain : (calendars : List CalendarData) (o : Option CalendarData) → chain_of calendars zero o ≡ []
unfolding chain_of
no_chain calendars None = refl
no_chain calendars (Some c) = refl

-- Where a calendar is stored, chains stay that have none of its name.
module _ (d : CalendarData) (old : List CalendarData) (bases : AllByRecursion (HasBase old) old) where
  abbrev new : List CalendarData
  new = with_new_calendar d old

  abbrev test : CalendarData → Bool
  test c = same_text d.name c.name

  same_look_up : (name : List ℕ) (c : CalendarData) → calendar_of name old ≡ Some c → test c ≡ false → calendar_of name new ≡ Some c
  same_look_up name c found differ =
      let is : same_text c.name name ≡ true = same_text_laws.symm c.name name ∙ calendar_of-name name c old found in
      calendar_of_with_new name d old ∙ ap (λ b. if b then Some d else calendar_of name old) (other_text d.name c.name name differ is) ∙ found

  found_kept : (n : ℕ) (name : List ℕ) (o : Option CalendarData) → calendar_of name old ≡ o → IsSome o → list_any test (chain_of old (suc n) o) ≡ false → calendar_of name new ≡ o
  unfolding chain_of
  found_kept n name None found stored none = absurd (cc)
  found_kept n name (Some c) found stored none = same_look_up name c found (or_parts (test c) (list_any test (chain_of old n (calendar_named old c.base))) none).0

  base_kept : (n : ℕ) (o : Option (List ℕ)) → IfSome o (λ name. IsSome (calendar_of name old)) → list_any test (chain_of old (suc n) (calendar_named old o)) ≡ false → calendar_named new o ≡ calendar_named old o
  base_kept n None stored none = refl
  base_kept n (Some name) stored none = found_kept n name (calendar_of name old) refl stored none

  chain_kept : (n : ℕ) (o : Option CalendarData) → IfSome o (HasBase old) → list_any test (chain_of old n o) ≡ false → chain_of new n o ≡ chain_of old n o
  unfolding chain_of
  chain_kept zero None has none = refl
  chain_kept zero (Some c) has none = refl
  chain_kept (suc n) None has none = refl
  chain_kept (suc zero) (Some c) has none = ap (λ (cs : List CalendarData). c ∷ cs) (no_chain new (calendar_named new c.base) ∙ sym (no_chain old (calendar_named old c.base)))
  chain_kept (suc (suc n)) (Some c) has none =
      let rest = (or_parts (test c) (list_any test (chain_of old (suc n) (calendar_named old c.base))) none).1 in
      ap (λ (cs : List CalendarData). c ∷ cs)
      (ap (chain_of new (suc n)) (base_kept n c.base has rest) ∙ chain_kept (suc n) (calendar_named old c.base) (named_has (HasBase old) old c.base bases) rest)

  pub chain_left : (n : ℕ) (o : Option (List ℕ)) → IfSome o (λ name. IsSome (calendar_of name old)) → list_any test (chain_of old n (calendar_named old o)) ≡ false → chain_of new n (calendar_named new o) ≡ chain_of old n (calendar_named old o)
  chain_left zero o has none = no_chain new (calendar_named new o) ∙ sym (no_chain old (calendar_named old o))
  chain_left (suc n) o has none = ap (chain_of new (suc n)) (base_kept n o has none) ∙ chain_kept (suc n) (calendar_named old o) (named_has (HasBase old) old o bases) none
