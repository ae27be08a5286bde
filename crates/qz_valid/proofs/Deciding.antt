-- Tests that decide facts.
use Rattle.std.proofs.Common.{◌≡◌, ℕ, ◌≤◌, ℤ, ◌≤ℤ◌, int_le, Bool, true, false, not, ◌||◌, List, [], ◌∷◌, Option, None, Some, is_none, nat_le, refl, arith, if◌then◌else◌}
use Rattle.std.proofs.lemmas.Bool.{leb-true, le-leb}
use Rattle.std.proofs.lemmas.Bool.Decides.{Decides-and}
use Rattle.std.proofs.lemmas.Int.{ints}
use Rattle.std.specs.Bool.{Decides}
use Rattle.std.specs.List.{AllByRecursion, list_all}

-- a test decides that it passes
pub itself : (b : Bool) → Decides b (b ≡ true)
itself b = (λ h. h, λ h. h)

pub le_decided : (a b : ℕ) → Decides (nat_le a b) (a ≤ b)
le_decided a b = (leb-true a b, le-leb a b)

le_yes : (a b : ℤ) → a ≤ℤ b → int_le a b ≡ true
le_yes a b h = grind (arith, ints)

le_is : (a b : ℤ) → int_le a b ≡ true → a ≤ℤ b
le_is a b h = grind (arith, ints)

pub int_le_decided : (a b : ℤ) → Decides (int_le a b) (a ≤ℤ b)
int_le_decided a b = (le_is a b, le_yes a b)

pub none_decided : {R : Type 0} (o : Option R) → Decides (is_none o) (o ≡ None)
none_decided None = (λ h. refl, λ e. refl)
none_decided (Some r) = (λ h. absurd cc, λ e. absurd cc)

-- an answer of no
pub refused : {P : Type 0} → (P → ⊥) → Decides false P
refused never = (λ h. absurd cc, λ p. absurd (never p))

-- where the first fact holds, the second does
pub implied : {P Q : Type 0} (a b : Bool) → Decides a P → Decides b Q → Decides (not a || b) (P → Q)
implied true b premise fact = (λ h p. fact.0 h, λ f. fact.1 (f (premise.0 refl)))
implied false b premise fact = (λ h p. let yes = premise.1 p in absurd cc, λ f. refl)

pub alike_decided : (a b : Bool) → Decides (if a then b else not b) (a ≡ b)
alike_decided true true = (λ h. refl, λ e. refl)
alike_decided true false = (λ h. absurd cc, λ e. absurd cc)
alike_decided false true = (λ h. absurd cc, λ e. absurd cc)
alike_decided false false = (λ h. refl, λ e. refl)

-- each row by its test
pub all_decided : {R : Type 0} (p : R → Bool) (P : R → Type 0) → ((x : R) → Decides (p x) (P x)) → (xs : List R) → Decides (list_all p xs) (AllByRecursion P xs)
all_decided p P each [] = (λ h. tt, λ all. refl)
all_decided p P each (x ∷ xs) = Decides-and (p x) (list_all p xs) (each x) (all_decided p P each xs)
