-- Lists of jobs that are taken out and put back, and lists of one.
use Rattle.std.proofs.Common.{◌≡◌, ◌≤◌, ℕ, List, [], ◌∷◌, length, map, set, refl, lit<, sym, ap, ◌∙◌, arith}
use Rattle.std.specs.Prelude.{Contains}
use Rattle.std.proofs.lemmas.List.{map-set, set_past, length-map}

-- where there is no such place, nothing is put there
pub none_put : {A B : Type 0} (f : A → B) (xs : List A) (i : ℕ) (b : B) → length xs ≤ i → map f xs ≡ set (map f xs) i b
none_put f xs i b past = sym (set_past (map f xs) i b (omega (arith, length-map xs f, past)))

pub put_as : {A B : Type 0} (f : A → B) (xs : List A) (i : ℕ) (a : A) (b : B) → f a ≡ b → map f (set xs i a) ≡ set (map f xs) i b
put_as f xs i a b is = map-set f xs i a ∙ ap (set (map f xs) i) is

pub contains_one : (x : List ℕ) → Contains (x ∷ []) x
contains_one x = (0, lit< tt, refl)
