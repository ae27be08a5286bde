-- Enums: the place of a variant, and what stands after it.
use Rattle.std.proofs.Common.{◌≡◌, ℕ, suc, ◌+◌, ◌≤◌, Bool, true, false, cond, List, [], ◌∷◌, ◌++◌, length, Ok, Err, refl, sym, ap, subst, ◌∙◌, arith, ◌==◌, ◌⊎◌, inl, inr}
use Rattle.std.proofs.lemmas.Bool.{eqb-true}
use Rattle.qz_values.specs.Fields.{◌>>=◌, Read, as_variant}
use Rattle.qz_values.specs.Formats.{IsBytes, EndsNear, Takes, IsFormat, Any}
use Rattle.qz_values.proofs.Formats.{Also, Both, bind_ok, ok_is, no_value, field, last, same}
use Rattle.qz_values.proofs.SingleFields.{IsBytes-rest}

-- What stands after a variant's place, read as the variant.
pub record IsVariant {A C : Type 0} (make : A → C) (write : A → List ℕ) (Is : A → Type 0) (read : List ℕ → Read C) (most : ℕ) : Type 0 where
  pub again : (x : A) (rest : List ℕ) → Is x → read (write x ++ rest) ≡ Ok (make x, rest)
  pub takes : (bytes : List ℕ) (y : C × List ℕ) → IsBytes bytes → read bytes ≡ Ok y → (x : A × List ℕ) × Takes write Any Is bytes x × ((make x.0, x.1) ≡ y)
  pub near : (bytes : List ℕ) → EndsNear most (length bytes) (read bytes)

variant_near : {A C : Type 0} (make : A → C) (m size : ℕ) (r : Read A) → EndsNear m size r → EndsNear m size (as_variant make r)
variant_near make m size (Ok x) p = p
variant_near make m size (Err left) p = p

pub variant : {A C : Type 0} {write : A → List ℕ} {Is : A → Type 0} {read : List ℕ → Read A} {m : ℕ} → (make : A → C) → IsFormat write Any Is read m → IsVariant make write Is (λ bytes. as_variant make (read bytes)) m
variant {A} {C} {write} {Is} {read} {m} make f = record {
  again = λ x rest is. ap (λ (r : Read A). as_variant make r) (f.again x rest tt is);
  takes = λ bytes y fits e.
      let s = bind_ok (read bytes) (λ x. Ok (make x.0, x.1)) y e in
      (s.0, f.takes bytes s.0 fits s.1, ok_is (make s.0.0, s.0.1) y s.2);
  near = λ bytes. variant_near make m (length bytes) (read bytes) (f.near bytes);
}

-- the same variant, read by other words
pub read_so : {A C : Type 0} {make : A → C} {write : A → List ℕ} {Is : A → Type 0} {read : List ℕ → Read C} {m : ℕ} → (read' : List ℕ → Read C) → IsVariant make write Is read m → ((bytes : List ℕ) → read bytes ≡ read' bytes) → IsVariant make write Is read' m
read_so {A} {C} {make} {write} {Is} {read} {m} read' v e = record {
  again = λ x rest is. sym (e (write x ++ rest)) ∙ v.again x rest is;
  takes = λ bytes y fits h. v.takes bytes y fits (e bytes ∙ h);
  near = λ bytes. subst (λ (r : Read C). EndsNear m (length bytes) r) (e bytes) (v.near bytes);
}

-- Two fields, of which the second one's rule may depend on the first.
pub pair_by : {A B : Type 0} {write_a : A → List ℕ} {IsA : A → Type 0} {read_a : List ℕ → Read A} {m : ℕ} {write_b : B → List ℕ} {IsB : A → B → Type 0} {read_b : A → List ℕ → Read B} {n : ℕ}
    → IsFormat write_a Any IsA read_a m → ((a : A) → IsFormat write_b Any (IsB a) (read_b a) n)
    → IsFormat (λ (x : A × B). write_a x.0 ++ write_b x.1) Any (λ (x : A × B). Both (IsA x.0) (IsB x.0 x.1)) (λ bytes. read_a bytes >>= λ a. (read_b a.0 a.1 >>= λ b. Ok ((a.0, b.0), b.1))) (m + n)
pair_by {A} {B} {write_a} {IsA} {read_a} {m} {write_b} {IsB} {read_b} {n} f g =
    field (λ (x : A × B). Unit {0}) (λ (x : A × B). x.0) f (λ a. same {Is' = λ (x : A × B). IsB x.0 x.1}
    (last (λ (x : A × B). Also (Unit {0}) (x.0 ≡ a)) (λ (x : A × B). x.1) (g a) (λ b. (a, b)) (λ b. record { before = tt; now = refl }) (λ b. refl) (λ x h. rw (← h.now) refl))
    (λ x h. refl)
    (λ x h p. subst (λ (i : A). IsB i x.1) (sym h.now) p)
    (λ x h p. subst (λ (i : A). IsB i x.1) h.now p))

pub pair : {A B : Type 0} {write_a : A → List ℕ} {IsA : A → Type 0} {read_a : List ℕ → Read A} {m : ℕ} {write_b : B → List ℕ} {IsB : B → Type 0} {read_b : List ℕ → Read B} {n : ℕ}
    → IsFormat write_a Any IsA read_a m → IsFormat write_b Any IsB read_b n
    → IsFormat (λ (x : A × B). write_a x.0 ++ write_b x.1) Any (λ (x : A × B). Both (IsA x.0) (IsB x.1)) (λ bytes. read_a bytes >>= λ a. (read_b a.1 >>= λ b. Ok ((a.0, b.0), b.1))) (m + n)
pair {A} {B} {write_a} {IsA} {read_a} {m} {write_b} {IsB} {read_b} {n} f g = pair_by {IsB = λ a. IsB} {read_b = λ a. read_b} f (λ a. g)

fuse : {A B C : Type 0} (make : B → C) (h : A → B) (r : Read A) → as_variant make (as_variant h r) ≡ as_variant (λ x. make (h x)) r
fuse make h (Ok x) = refl
fuse make h (Err left) = refl

-- a pair that was read, as a variant: its two fields in a row
pub regroup : {A B C : Type 0} (make : A × B → C) (r : Read A) (s : A × List ℕ → Read B) (t : A × List ℕ → Read C) → ((a : A × List ℕ) → as_variant (λ b. make (a.0, b)) (s a) ≡ t a) → as_variant make (r >>= λ a. (s a >>= λ b. Ok ((a.0, b.0), b.1))) ≡ (r >>= t)
regroup make (Ok a) s t e = fuse make (λ b. (a.0, b)) (s a) ∙ e a
regroup make (Err left) s t e = refl

-- ---- variants by their places

-- What stands after a place, read as a value of the enum.
pub record IsPart {C : Type 0} (write : C → List ℕ) (Is : C → Type 0) (most place : ℕ) (read : List ℕ → Read C) : Type 0 where
  pub takes : (bytes : List ℕ) (y : C × List ℕ) → IsBytes bytes → read bytes ≡ Ok y → Takes write Any Is (place ∷ bytes) y
  pub near : (bytes : List ℕ) → EndsNear most (length bytes) (read bytes)

pub nearer : {A : Type 0} (m n size : ℕ) (r : Read A) → m ≤ n → EndsNear m size r → EndsNear n size r
nearer m n size (Ok x) le p = record { within = p.within; near = omega (arith, p.near) }
nearer m n size (Err left) le p = record { within = p.within; near = omega (arith, p.near) }

pub part : {A C : Type 0} {make : A → C} {write_a : A → List ℕ} {IsA : A → Type 0} {read : List ℕ → Read C} {m : ℕ} {write : C → List ℕ} {Is : C → Type 0} {most : ℕ} (place : ℕ)
    → IsVariant make write_a IsA read m → m ≤ most → ((x : A) → place ∷ write_a x ≡ write (make x)) → ((x : A) → IsA x → Is (make x)) → IsPart write Is most place read
part {A} {C} {make} {write_a} {IsA} {read} {m} {write} {Is} {most} place v le spelled valid = record {
  takes = λ bytes y fits e.
      let t = v.takes bytes y fits e in
      subst (λ (z : C × List ℕ). Takes write Any Is (place ∷ bytes) z) t.2 (record {
        parts = ap (λ (r : List ℕ). place ∷ r) t.1.parts ∙ ap (λ (r : List ℕ). r ++ t.0.1) (spelled t.0.0);
        rest = t.1.rest;
        known = tt;
        valid = valid t.0.0 t.1.valid;
      });
  near = λ bytes. nearer m most (length bytes) (read bytes) le (v.near bytes);
}

-- the same, where more may be passed over
pub wider : {A : Type 0} {write : A → List ℕ} {Is : A → Type 0} {read : List ℕ → Read A} {m n : ℕ} → m ≤ n → IsFormat write Any Is read m → IsFormat write Any Is read n
wider {A} {write} {Is} {read} {m} {n} le f = record { again = f.again; takes = f.takes; near = λ bytes. nearer m n (length bytes) (read bytes) le (f.near bytes) }

-- a variant with no fields
pub bare : {C : Type 0} {write : C → List ℕ} {Is : C → Type 0} {most : ℕ} (place : ℕ) (x : C) → place ∷ [] ≡ write x → Is x → IsPart write Is most place (λ rest. Ok (x, rest))
bare {C} {write} {Is} {most} place x spelled is = record {
  takes = λ bytes y fits e. subst (λ (z : C × List ℕ). Takes write Any Is (place ∷ bytes) z) (ok_is (x, bytes) y e) (record {
    parts = ap (λ (r : List ℕ). r ++ bytes) spelled;
    rest = fits;
    known = tt;
    valid = is;
  });
  near = λ bytes. record { within = omega arith; near = omega arith };
}

-- places, each with what reads after it
abbrev pub Choices : Type 0 → Type 0
Choices C = List (ℕ × (List ℕ → Read C))

abbrev pub by_place : {C : Type 0} → Choices C → ℕ → List ℕ → Read C
by_place [] b bytes = Err (suc (length bytes))
by_place (c ∷ cs) b bytes = cond (b == c.0) (c.1 bytes) (by_place cs b bytes)

abbrev pub AreParts : {C : Type 0} → (C → List ℕ) → (C → Type 0) → ℕ → Choices C → Type 0
AreParts write Is most [] = Unit {0}
AreParts write Is most (c ∷ cs) = IsPart write Is most c.0 c.1 × AreParts write Is most cs

-- a place, what reads after it, and that it does
pub record Part {C : Type 0} (write : C → List ℕ) (Is : C → Type 0) (most : ℕ) : Type 0 where
  pub place : ℕ
  pub read : List ℕ → Read C
  pub is : IsPart write Is most place read

abbrev pub choices_of : {C : Type 0} {write : C → List ℕ} {Is : C → Type 0} {most : ℕ} → List (Part write Is most) → Choices C
choices_of [] = []
choices_of (p ∷ ps) = (p.place, p.read) ∷ choices_of ps

pub are_parts : {C : Type 0} {write : C → List ℕ} {Is : C → Type 0} {most : ℕ} (ps : List (Part write Is most)) → AreParts write Is most (choices_of ps)
are_parts [] = tt
are_parts (p ∷ ps) = (p.is, are_parts ps)

-- which way a choice went
pub choice : {A : Type 0} (b : Bool) (x y z : A) → cond b x y ≡ z → ((b ≡ true) × (x ≡ z)) ⊎ (y ≡ z)
choice true x y z e = inl (refl, e)
choice false x y z e = inr e

by_place-takes : {C : Type 0} (write : C → List ℕ) (Is : C → Type 0) (most : ℕ) (cs : Choices C) (b : ℕ) (bytes : List ℕ) (y : C × List ℕ) → AreParts write Is most cs → IsBytes bytes → by_place cs b bytes ≡ Ok y → Takes write Any Is (b ∷ bytes) y
by_place-takes write Is most [] b bytes y parts fits e = absurd (no_value (suc (length bytes)) y e)
by_place-takes {C} write Is most (c ∷ cs) b bytes y parts fits e =
    elim (choice (b == c.0) (c.1 bytes) (by_place cs b bytes) (Ok y) e) [
      | inl h ↦ subst (λ (n : ℕ). Takes write Any Is (n ∷ bytes) y) (sym (eqb-true b c.0 h.0)) (parts.0.takes bytes y fits h.1)
      | inr later ↦ by_place-takes write Is most cs b bytes y parts.1 fits later
    ]

near_after : {C : Type 0} (m size : ℕ) (r : Read C) → EndsNear m size r → EndsNear (1 + m) (suc size) r
near_after m size (Ok x) p = record { within = omega (arith, p.within); near = omega (arith, p.near) }
near_after m size (Err left) p = record { within = omega (arith, p.within); near = omega (arith, p.near) }

pub chosen_one : {A : Type 0} (P : A → Type 0) (b : Bool) (x y : A) → P x → P y → P (cond b x y)
chosen_one P true x y p q = p
chosen_one P false x y p q = q

by_place-near : {C : Type 0} (write : C → List ℕ) (Is : C → Type 0) (most : ℕ) (cs : Choices C) (b : ℕ) (bytes : List ℕ) → AreParts write Is most cs → EndsNear (1 + most) (suc (length bytes)) (by_place cs b bytes)
by_place-near write Is most [] b bytes parts = record { within = omega arith; near = omega arith }
by_place-near {C} write Is most (c ∷ cs) b bytes parts =
    chosen_one (λ (r : Read C). EndsNear (1 + most) (suc (length bytes)) r) (b == c.0) (c.1 bytes) (by_place cs b bytes)
    (near_after most (length bytes) (c.1 bytes) (parts.0.near bytes)) (by_place-near write Is most cs b bytes parts.1)

-- an enum that is read by its places
pub tagged : {C : Type 0} {write : C → List ℕ} {Is : C → Type 0} {read : List ℕ → Read C} (most : ℕ) (cs : Choices C) → AreParts write Is most cs → read [] ≡ Err 0 → ((b : ℕ) (bytes : List ℕ) → read (b ∷ bytes) ≡ by_place cs b bytes) → ((x : C) (rest : List ℕ) → Is x → read (write x ++ rest) ≡ Ok (x, rest)) → IsFormat write Any Is read (1 + most)
tagged {C} {write} {Is} {read} most cs parts none some again = record { again = λ x rest known is. again x rest is; takes = takes; near = near } where
  takes : (bytes : List ℕ) (y : C × List ℕ) → IsBytes bytes → read bytes ≡ Ok y → Takes write Any Is bytes y
  takes [] y fits e = absurd (no_value 0 y (sym none ∙ e))
  takes (b ∷ bytes) y fits e = by_place-takes write Is most cs b bytes y parts (IsBytes-rest b bytes fits) (sym (some b bytes) ∙ e)

  near : (bytes : List ℕ) → EndsNear (1 + most) (length bytes) (read bytes)
  near [] = subst (λ (r : Read C). EndsNear (1 + most) 0 r) (sym none) (record { within = omega arith; near = omega arith })
  near (b ∷ bytes) = subst (λ (r : Read C). EndsNear (1 + most) (suc (length bytes)) r) (sym (some b bytes)) (by_place-near write Is most cs b bytes parts)
