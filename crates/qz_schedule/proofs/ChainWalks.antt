-- Walks along chains of calendars.
use Rattle.std.proofs.Common.{◌≡◌, ℕ, zero, suc, ◌+◌, ◌-◌, ◌<◌, Bool, true, false, not, ◌&&◌, ◌||◌, cond, List, [], ◌∷◌, filter, Option, Some, None, option_map, refl, sym, ap, ◌∙◌, arith}
use Rattle.std.specs.List.{list_any}
use Rattle.qz_types.specs.Chains.{calendar_named, chain_of, ends_within}
use Rattle.qz_types.specs.Rows.{CalendarData}
use Rattle.qz_types.specs.Words.{same_text, calendar_of, without_calendar}
use Rattle.qz_model.specs.Calendars.{place_in, with_new_calendar}
use Rattle.qz_model.proofs.NamedRows.{same_text_laws, calendar_of_with_new}

-- The place of a name.

pub no_place : (calendars : List CalendarData) (n : ℕ) (name : List ℕ) (o : Option CalendarData) → n ≡ 0 → place_in name (chain_of calendars n o) ≡ None
unfolding chain_of
no_place calendars zero name None none = refl
no_place calendars zero name (Some c) none = refl
no_place calendars (suc n) name o none = absurd (omega arith)

pub place_first : (calendars : List CalendarData) (n : ℕ) (name : List ℕ) (c : CalendarData) → 0 < n → same_text name c.name ≡ true → place_in name (chain_of calendars n (Some c)) ≡ Some 0
unfolding chain_of
place_first calendars zero name c some same = absurd (omega arith)
place_first calendars (suc n) name c some same = rw same refl

less_one : (n : ℕ) → suc n - 1 ≡ n
less_one n = omega arith

pub place_next : (calendars : List CalendarData) (n : ℕ) (name : List ℕ) (c d : CalendarData) (place : ℕ) → 0 < n → same_text name c.name ≡ false → Some d ≡ calendar_named calendars c.base
    → Some place ≡ place_in name (chain_of calendars (n - 1) (Some d)) → place_in name (chain_of calendars n (Some c)) ≡ Some (place + 1)
unfolding chain_of
place_next calendars zero name c d place some differ next at = absurd (omega arith)
place_next calendars (suc n) name c d place some differ next at =
    rw differ
    (ap (option_map suc) (ap (λ o. place_in name (chain_of calendars n o)) (sym next) ∙ sym (ap (λ k. place_in name (chain_of calendars k (Some d))) (less_one n)) ∙ sym at) ∙ ap (λ (k : ℕ). Some k) (omega arith))

-- the name isn't in the rest of the chain
pub place_end : (calendars : List CalendarData) (n : ℕ) (name : List ℕ) (c : CalendarData) (o : Option CalendarData) → 0 < n → same_text name c.name ≡ false → o ≡ calendar_named calendars c.base
    → None ≡ place_in name (chain_of calendars (n - 1) o) → place_in name (chain_of calendars n (Some c)) ≡ None
unfolding chain_of
place_end calendars zero name c o some differ next none = absurd (omega arith)
place_end calendars (suc n) name c o some differ next none =
    rw differ (ap (option_map suc) (ap (λ x. place_in name (chain_of calendars n x)) (sym next) ∙ sym (ap (λ k. place_in name (chain_of calendars k o)) (less_one n)) ∙ sym none))

-- a chain of none has it nowhere
pub nowhere : (calendars : List CalendarData) (n : ℕ) (name : List ℕ) (o : Option CalendarData) → None ≡ o → place_in name (chain_of calendars n o) ≡ None
unfolding chain_of
nowhere calendars zero name None none = refl
nowhere calendars (suc n) name None none = refl
nowhere calendars n name (Some c) none = absurd (cc)

pub place_last : (calendars : List CalendarData) (n : ℕ) (name : List ℕ) (c : CalendarData) → 0 < n → same_text name c.name ≡ false → None ≡ calendar_named calendars c.base
    → place_in name (chain_of calendars n (Some c)) ≡ None
place_last calendars n name c some differ last = place_end calendars n name c (calendar_named calendars c.base) some differ refl (sym (nowhere calendars (n - 1) name (calendar_named calendars c.base) last))

-- The length.

pub never_ends : (calendars : List CalendarData) (n : ℕ) (c : CalendarData) → n ≡ 0 → ends_within calendars n (Some c) ≡ false
unfolding ends_within
never_ends calendars zero c none = refl
never_ends calendars (suc n) c none = absurd (omega arith)

pub ends_next : (calendars : List CalendarData) (n : ℕ) (c d : CalendarData) → 0 < n → Some d ≡ calendar_named calendars c.base → ends_within calendars n (Some c) ≡ ends_within calendars (n - 1) (Some d)
unfolding ends_within
ends_next calendars zero c d some next = absurd (omega arith)
ends_next calendars (suc n) c d some next = ap (ends_within calendars n) (sym next) ∙ sym (ap (λ k. ends_within calendars k (Some d)) (less_one n))

ends_none : (calendars : List CalendarData) (n : ℕ) → ends_within calendars n None ≡ true
unfolding ends_within
ends_none calendars zero = refl
ends_none calendars (suc n) = refl

pub ends_here : (calendars : List CalendarData) (n : ℕ) (c : CalendarData) → 0 < n → None ≡ calendar_named calendars c.base → ends_within calendars n (Some c) ≡ true
unfolding ends_within
ends_here calendars zero c some next = absurd (omega arith)
ends_here calendars (suc n) c some next = ap (ends_within calendars n) (sym next) ∙ ends_none calendars n

-- Look-ups where a calendar is stored.

pub found_new : (name : List ℕ) (c : CalendarData) (calendars : List CalendarData) → same_text name c.name ≡ true → calendar_of name (with_new_calendar c calendars) ≡ Some c
found_new name c calendars same = calendar_of_with_new name c calendars ∙ rw (same_text_laws.symm c.name name ∙ same) refl

pub found_other : (name : List ℕ) (c : CalendarData) (calendars : List CalendarData) → same_text name c.name ≡ false → calendar_of name (with_new_calendar c calendars) ≡ calendar_of name calendars
found_other name c calendars differ = calendar_of_with_new name c calendars ∙ rw (same_text_laws.symm c.name name ∙ differ) refl

any_left : (p q : CalendarData → Bool) (rows : List CalendarData) → list_any p (filter (λ c. not (q c)) rows) ≡ list_any (λ c. not (q c) && p c) rows
any_left p q [] = refl
any_left p q (c ∷ rows) = elim (q c) as (λ b. list_any p (cond (not b) (c ∷ filter (λ d. not (q d)) rows) (filter (λ d. not (q d)) rows)) ≡ ((not b && p c) || list_any (λ d. not (q d) && p d) rows)) [
  | true ↦ any_left p q rows
  | false ↦ ap (λ b. p c || b) (any_left p q rows)
]

-- the calendars of other names, tested one by one
pub any_others : (p : CalendarData → Bool) (name : List ℕ) (rows : List CalendarData) → list_any p (without_calendar name rows) ≡ list_any (λ c. not (same_text name c.name) && p c) rows
unfolding without_calendar
any_others p name rows = any_left p (λ c. same_text name c.name) rows
