-- Names: reading them agrees with what they are.
use Rattle.std.proofs.Common.{◌≡◌, ◌∙◌, ap, sym, refl, subst, ℕ, ◌+◌, ◌≤◌, Bool, true, false, arith, zero, suc, cond, List, [], ◌∷◌, ◌++◌, length, map}
use Rattle.std.specs.Prelude.{Option, Some, None, ◌==◌, ◌&&◌, slice_get, slice_index}
use Rattle.std.specs.List.{AllByRecursion}
use Rattle.std.specs.Char.{to_ascii_uppercase, is_ascii_digit, is_ascii_uppercase}
use Rattle.qz_civil.specs.declared.fields.Field.{Field}
use Rattle.qz_civil.specs.declared.fields.Field.TheVariants.{Seconds, Minutes, Hours, DayOfMonth, Month, DayOfWeek, Year}
use Rattle.qz_cron_text.specs.Values.{names, spells, is_spelled, named_from, name_of, number_of}
use Rattle.qz_cron_text.proofs.Numerals.{number_none}
use Rattle.qz_cron_text.proofs.Free.{IsPlain, is_plain, plain_at}

-- three capital letters
pub record IsNameWord (name : List ℕ) : Type 0 where
  pub first : ℕ
  pub second : ℕ
  pub third : ℕ
  pub is : name ≡ first ∷ second ∷ third ∷ []
  pub upper : (is_ascii_uppercase first && is_ascii_uppercase second && is_ascii_uppercase third) ≡ true

word : (a b c : ℕ) → (is_ascii_uppercase a && is_ascii_uppercase b && is_ascii_uppercase c) ≡ true → IsNameWord (a ∷ b ∷ c ∷ [])
word a b c upper = record { first = a; second = b; third = c; is = refl; upper = upper }

abbrev pub AreNameWords : List (List ℕ) → Type 0
AreNameWords ns = AllByRecursion IsNameWord ns

pub names_are_words : (field : Field) → AreNameWords (names field)
names_are_words Seconds = tt
names_are_words Minutes = tt
names_are_words Hours = tt
names_are_words DayOfMonth = tt
names_are_words Month = (word 74 65 78 refl, (word 70 69 66 refl, (word 77 65 82 refl, (word 65 80 82 refl, (word 77 65 89 refl, (word 74 85 78 refl, (word 74 85 76 refl, (word 65 85 71 refl, (word 83 69 80 refl, (word 79 67 84 refl, (word 78 79 86 refl, (word 68 69 67 refl, tt))))))))))))
names_are_words DayOfWeek = (word 83 85 78 refl, (word 77 79 78 refl, (word 84 85 69 refl, (word 87 69 68 refl, (word 84 72 85 refl, (word 70 82 73 refl, (word 83 65 84 refl, tt)))))))
names_are_words Year = tt

got : (P : List ℕ → Type 0) (ns : List (List ℕ)) (i : ℕ) (u : List ℕ) → AllByRecursion P ns → slice_get ns i ≡ Some u → P u
got P [] i u all is = absurd (clash is)
  where
    clash : None ≡ Some u → ⊥
    clash e = cc
got P (n ∷ ns) zero u all is = subst P (same is) all.0
  where
    same : Some n ≡ Some u → n ≡ u
    same e = cc
got P (n ∷ ns) (suc i) u all is = got P ns i u all.1 is

spelled_upper : (a b c : ℕ) (text : List ℕ) → spells a b c text ≡ true → map to_ascii_uppercase text ≡ a ∷ b ∷ c ∷ []
spelled_upper a b c [] is = absurd (clash is)
  where
    clash : false ≡ true → ⊥
    clash e = cc
spelled_upper a b c (x ∷ []) is = absurd (clash is)
  where
    clash : false ≡ true → ⊥
    clash e = cc
spelled_upper a b c (x ∷ y ∷ []) is = absurd (clash is)
  where
    clash : false ≡ true → ⊥
    clash e = cc
spelled_upper a b c (x ∷ y ∷ z ∷ []) is =
    let first : to_ascii_uppercase x ≡ a = grind (arith, is) in
    let second : to_ascii_uppercase y ≡ b = grind (arith, is) in
    let third : to_ascii_uppercase z ≡ c = grind (arith, is) in
    cc
spelled_upper a b c (x ∷ y ∷ z ∷ w ∷ more) is = absurd (clash is)
  where
    clash : false ≡ true → ⊥
    clash e = cc

name_spelled : (name text : List ℕ) → IsNameWord name → is_spelled name text ≡ true → map to_ascii_uppercase text ≡ name
name_spelled name text w is =
    let here : spells w.first w.second w.third text ≡ true = sym (ap (λ (n : List ℕ). is_spelled n text) w.is) ∙ is in
    spelled_upper w.first w.second w.third text here ∙ sym w.is

-- the value is that of a name from v on
abbrev pub IsNamed : ℕ → ℕ → List (List ℕ) → List ℕ → Type 0
IsNamed v w ns text = (i : ℕ) × (w ≡ v + i) × (slice_get ns i ≡ Some (map to_ascii_uppercase text))

named_step : (v w : ℕ) (n : List ℕ) (ns : List (List ℕ)) (text : List ℕ) (b : Bool) → (b ≡ true → map to_ascii_uppercase text ≡ n)
    → (named_from (v + 1) ns text ≡ Some w → IsNamed (v + 1) w ns text)
    → cond b (Some v) (named_from (v + 1) ns text) ≡ Some w → IsNamed v w (n ∷ ns) text
named_step v w n ns text true spelled deeper e =
    let same : v ≡ w = cc in
    (0, omega arith, ap (λ (t : List ℕ). Some t) (sym (spelled refl)))
named_step v w n ns text false spelled deeper e =
    let found : IsNamed (v + 1) w ns text = deeper e in
    (suc found.0, omega (arith, found.1), found.2)

pub named_is : (v w : ℕ) (ns : List (List ℕ)) (text : List ℕ) → AreNameWords ns → named_from v ns text ≡ Some w → IsNamed v w ns text
named_is v w [] text words is = absurd (clash is)
  where
    clash : None ≡ Some w → ⊥
    clash e = cc
named_is v w (n ∷ ns) text words is =
    named_step v w n ns text (is_spelled n text) (name_spelled n text words.0) (named_is (v + 1) w ns text words.1) is

upper_twice : (b : ℕ) → to_ascii_uppercase (to_ascii_uppercase b) ≡ to_ascii_uppercase b
upper_twice b = grind arith

spells-upper : (a b c : ℕ) (text : List ℕ) → spells a b c (map to_ascii_uppercase text) ≡ spells a b c text
spells-upper a b c [] = refl
spells-upper a b c (x ∷ []) = refl
spells-upper a b c (x ∷ y ∷ []) = refl
spells-upper a b c (x ∷ y ∷ z ∷ []) = rw (upper_twice x, upper_twice y, upper_twice z) refl
spells-upper a b c (x ∷ y ∷ z ∷ w ∷ more) = refl

named-upper : (v : ℕ) (ns : List (List ℕ)) (text : List ℕ) → named_from v ns (map to_ascii_uppercase text) ≡ named_from v ns text
named-upper v [] text = refl
named-upper v (n ∷ ns) text =
    rw (spells-upper (slice_index n 0) (slice_index n 1) (slice_index n 2) text, named-upper (v + 1) ns text) refl

-- each name is found as itself, from v on
abbrev pub AreFound : ℕ → List (List ℕ) → List (List ℕ) → Type 0
AreFound v all [] = Unit {0}
AreFound v all (n ∷ ns) = (named_from 1 all n ≡ Some v) × AreFound (v + 1) all ns

names_are_found : (field : Field) → AreFound 1 (names field) (names field)
names_are_found Seconds = tt
names_are_found Minutes = tt
names_are_found Hours = tt
names_are_found DayOfMonth = tt
names_are_found Month = (refl, (refl, (refl, (refl, (refl, (refl, (refl, (refl, (refl, (refl, (refl, (refl, tt))))))))))))
names_are_found DayOfWeek = (refl, (refl, (refl, (refl, (refl, (refl, (refl, tt)))))))
names_are_found Year = tt

found_at : (v : ℕ) (all ns : List (List ℕ)) (i : ℕ) (u : List ℕ) → AreFound v all ns → slice_get ns i ≡ Some u → named_from 1 all u ≡ Some (v + i)
found_at v all [] i u found is = absurd (clash is)
  where
    clash : None ≡ Some u → ⊥
    clash e = cc
found_at v all (n ∷ ns) zero u found is =
    let same : n ≡ u = cc in
    subst (λ (t : List ℕ). named_from 1 all t ≡ Some (v + 0)) same (found.0 ∙ ap (λ (w : ℕ). Some w) (omega arith))
found_at v all (n ∷ ns) (suc i) u found is = found_at (v + 1) all ns i u found.1 is ∙ ap (λ (w : ℕ). Some w) (omega arith)

pub name_read : (field : Field) (text : List ℕ) (i : ℕ) → slice_get (names field) i ≡ Some (map to_ascii_uppercase text) → name_of field text ≡ Some (i + 1)
unfolding name_of
name_read field text i is =
    sym (named-upper 1 (names field) text) ∙ found_at 1 (names field) (names field) i (map to_ascii_uppercase text) (names_are_found field) is
    ∙ ap (λ (w : ℕ). Some w) (omega arith)

upper_plain : (text : List ℕ) → AllByRecursion (λ b. is_ascii_uppercase b ≡ true) (map to_ascii_uppercase text) → IsPlain text
upper_plain [] upper = tt
upper_plain (b ∷ bs) upper = (grind (arith, upper.0), upper_plain bs upper.1)

word_upper : (name : List ℕ) → IsNameWord name → AllByRecursion (λ b. is_ascii_uppercase b ≡ true) name
word_upper name w = subst (λ (n : List ℕ). AllByRecursion (λ b. is_ascii_uppercase b ≡ true) n) (sym w.is) (grind (arith, w.upper), (grind (arith, w.upper), (grind (arith, w.upper), tt)))

-- a name has letters alone
pub name_plain : (field : Field) (text : List ℕ) (i : ℕ) → slice_get (names field) i ≡ Some (map to_ascii_uppercase text) → IsPlain text
name_plain field text i is =
    upper_plain text (word_upper (map to_ascii_uppercase text) (got IsNameWord (names field) i (map to_ascii_uppercase text) (names_are_words field) is))

pub name_is : (field : Field) (text : List ℕ) (v : ℕ) → name_of field text ≡ Some v → IsNamed 1 v (names field) text
unfolding name_of
name_is field text v is = named_is 1 v (names field) text (names_are_words field) is

-- a text with another byte than a digit or a letter is no name
pub name_none : (field : Field) (xs : List ℕ) (m : ℕ) (ys : List ℕ) → is_plain m ≡ false → name_of field (xs ++ m ∷ ys) ≡ None
name_none field xs m ys other = by_name (name_of field (xs ++ m ∷ ys)) refl
  where
    by_name : (o : Option ℕ) → name_of field (xs ++ m ∷ ys) ≡ o → o ≡ None
    by_name None is = refl
    by_name (Some v) is =
        let named : IsNamed 1 v (names field) (xs ++ m ∷ ys) = name_is field (xs ++ m ∷ ys) v is in
        let plain : is_plain m ≡ true = plain_at xs m ys (name_plain field (xs ++ m ∷ ys) named.0 named.2) in
        absurd (clash plain other)
      where
        clash : is_plain m ≡ true → is_plain m ≡ false → ⊥
        clash a b = cc

-- no weekday's name ends with L
spells_last : (a b c : ℕ) (xs : List ℕ) (l : ℕ) → spells a b c (xs ++ l ∷ []) ≡ true → to_ascii_uppercase l ≡ c
spells_last a b c [] l is = absurd (clash is)
  where
    clash : false ≡ true → ⊥
    clash e = cc
spells_last a b c (x ∷ []) l is = absurd (clash is)
  where
    clash : false ≡ true → ⊥
    clash e = cc
spells_last a b c (x ∷ y ∷ []) l is = grind (arith, is)
spells_last a b c (x ∷ y ∷ z ∷ []) l is = absurd (clash is)
  where
    clash : false ≡ true → ⊥
    clash e = cc
spells_last a b c (x ∷ y ∷ z ∷ w ∷ more) l is = absurd (clash is)
  where
    clash : false ≡ true → ⊥
    clash e = cc

spells_other : (a b c : ℕ) (xs : List ℕ) (l : ℕ) → to_ascii_uppercase l ≡ 76 → (c == 76) ≡ false → spells a b c (xs ++ l ∷ []) ≡ false
spells_other a b c xs l letter other = by_test (spells a b c (xs ++ l ∷ [])) refl
  where
    by_test : (t : Bool) → spells a b c (xs ++ l ∷ []) ≡ t → t ≡ false
    by_test false is = refl
    by_test true is =
        let last : to_ascii_uppercase l ≡ c = spells_last a b c xs l is in
        let third : c ≡ 76 = sym last ∙ letter in
        false_true (sym other ∙ ap (λ (n : ℕ). n == 76) third)
      where
        false_true : false ≡ true → true ≡ false
        false_true e = sym e

pub weekday_none : (xs : List ℕ) (l : ℕ) → to_ascii_uppercase l ≡ 76 → name_of DayOfWeek (xs ++ l ∷ []) ≡ None
unfolding name_of
weekday_none xs l letter =
    rw (
      spells_other 83 85 78 xs l letter refl,
      spells_other 77 79 78 xs l letter refl,
      spells_other 84 85 69 xs l letter refl,
      spells_other 87 69 68 xs l letter refl,
      spells_other 84 72 85 xs l letter refl,
      spells_other 70 82 73 xs l letter refl,
      spells_other 83 65 84 xs l letter refl,
    ) refl

length-map : (text : List ℕ) → length (map to_ascii_uppercase text) ≡ length text
length-map [] = refl
length-map (b ∷ bs) = grind (arith, length-map bs)

pub name_some : (field : Field) (text : List ℕ) (i : ℕ) → slice_get (names field) i ≡ Some (map to_ascii_uppercase text) → 1 ≤ length text
name_some field text i is =
    let w : IsNameWord (map to_ascii_uppercase text) = got IsNameWord (names field) i (map to_ascii_uppercase text) (names_are_words field) is in
    let three : length (map to_ascii_uppercase text) ≡ 3 = ap (λ (t : List ℕ). length t) w.is in
    omega (arith, three, length-map text)

upper_no_digit : (b : ℕ) → is_ascii_uppercase (to_ascii_uppercase b) ≡ true → is_ascii_digit b ≡ false
upper_no_digit b upper = grind (arith, upper)

upper_no_numeral : (text : List ℕ) → 1 ≤ length text → AllByRecursion (λ b. is_ascii_uppercase b ≡ true) (map to_ascii_uppercase text) → number_of text ≡ None
upper_no_numeral [] some upper = absurd (omega arith)
upper_no_numeral (b ∷ bs) some upper = number_none [] b bs (upper_no_digit b upper.0)

-- a name is no numeral
pub name_no_numeral : (field : Field) (text : List ℕ) (i : ℕ) → slice_get (names field) i ≡ Some (map to_ascii_uppercase text) → number_of text ≡ None
name_no_numeral field text i is =
    upper_no_numeral text (name_some field text i is)
    (word_upper (map to_ascii_uppercase text) (got IsNameWord (names field) i (map to_ascii_uppercase text) (names_are_words field) is))
