-- How a reader and the bytes of a type go together, from fields to a row.
use Rattle.std.proofs.Common.{◌≡◌, ℕ, ◌+◌, Bool, true, false, cond, List, ◌++◌, length, Result, Ok, Err, refl, sym, ap, subst, ◌∙◌, append_assoc, arith}
use Rattle.qz_values.specs.Fields.{◌>>=◌, Read, checked}
use Rattle.qz_values.specs.Formats.{IsNear, EndsNear, Takes, IsFormat, Any}

-- the value of a step that did not fail
pub bind_ok : {A B : Type 0} (r : Result A ℕ) (f : A → Result B ℕ) (y : B) → (r >>= f) ≡ Ok y → (x : A) × (r ≡ Ok x) × (f x ≡ Ok y)
bind_ok (Ok x) f y e = (x, refl, e)
bind_ok (Err d) f y e = absurd cc

abbrev pub wrong : {A : Type 0} → ℕ → Result A ℕ
wrong left = Err left

pub no_value : {A : Type 0} (left : ℕ) (x : A) → wrong left ≡ Ok x → ⊥
no_value left x e = absurd cc

abbrev pub done : {A : Type 0} → A → Result A ℕ
done x = Ok x

pub ok_is : {A : Type 0} (x y : A) → done x ≡ done y → x ≡ y
ok_is x y e = cc

pub nothing_near : (size : ℕ) → IsNear 0 size size
nothing_near size = record { within = omega arith; near = omega arith }

pub further : (m n size middle left : ℕ) → IsNear m size middle → IsNear n middle left → IsNear (m + n) size left
further m n size middle left p q = record { within = omega (arith, p.within, q.within); near = omega (arith, p.near, q.near) }

further_all : {A : Type 0} (m n size middle : ℕ) (r : Read A) → IsNear m size middle → EndsNear n middle r → EndsNear (m + n) size r
further_all m n size middle (Ok x) p q = further m n size middle (length x.1) p q
further_all m n size middle (Err left) p q = further m n size middle left p q

pub near_then : {A B : Type 0} (m n size : ℕ) (r : Read A) (f : A × List ℕ → Read B) → EndsNear m size r → ((x : A × List ℕ) → r ≡ Ok x → EndsNear n (length x.1) (f x)) → EndsNear (m + n) size (r >>= f)
near_then m n size (Ok x) f p q = further_all m n size (length x.1) (f x) p (q x refl)
near_then m n size (Err left) f p q = record { within = p.within; near = omega (arith, p.near) }

-- what is known of a row once a field of it was read
pub record Also (P Q : Type 0) : Type 0 where
  pub before : P
  pub now : Q

pub record Both (P Q : Type 0) : Type 0 where
  pub first : P
  pub others : Q

-- A field, and those after it.
pub field : {A B : Type 0} {write_b : B → List ℕ} {IsB : B → Type 0} {read_b : List ℕ → Read B} {m n : ℕ} {write : A → List ℕ} {Is : A → Type 0} {read : B → List ℕ → Read A} → (Known : A → Type 0)
    → (get : A → B) → IsFormat write_b Any IsB read_b m
    → ((b : B) → IsFormat write (λ x. Also (Known x) (get x ≡ b)) Is (read b) n)
    → IsFormat (λ x. write_b (get x) ++ write x) Known (λ x. Both (IsB (get x)) (Is x)) (λ bytes. read_b bytes >>= λ b. read b.0 b.1) (m + n)
field {A} {B} {write_b} {IsB} {read_b} {m} {n} {write} {Is} {read} Known get one others = record {
  again = λ x rest known is.
      let first : read_b (write_b (get x) ++ (write x ++ rest)) ≡ Ok (get x, write x ++ rest) = one.again (get x) (write x ++ rest) tt is.first in
      let second : read (get x) (write x ++ rest) ≡ Ok (x, rest) = (others (get x)).again x rest (record { before = known; now = refl }) is.others in
      ap (λ (bytes : List ℕ). read_b bytes >>= λ b. read b.0 b.1) (append_assoc (write_b (get x)) (write x) rest) ∙ ap (λ (r : Read B). r >>= λ b. read b.0 b.1) first ∙ second;
  takes = λ bytes x fits e.
      let s = bind_ok (read_b bytes) (λ b. read b.0 b.1) x e in
      let first = one.takes bytes s.0 fits s.1 in
      let second = (others s.0.0).takes s.0.1 x first.rest s.2 in
      record {
        parts = first.parts ∙ ap (λ (t : List ℕ). write_b s.0.0 ++ t) second.parts ∙ sym (append_assoc (write_b s.0.0) (write x.0) x.1) ∙ ap (λ (b : B). (write_b b ++ write x.0) ++ x.1) (sym second.known.now);
        rest = second.rest;
        known = second.known.before;
        valid = record { first = subst IsB (sym second.known.now) first.valid; others = second.valid };
      };
  near = λ bytes. near_then m n (length bytes) (read_b bytes) (λ b. read b.0 b.1) (one.near bytes) (λ b e. (others b.0).near b.1);
}

-- The last field: the row is made of it and of what is known.
pub last : {A B : Type 0} {write_b : B → List ℕ} {IsB : B → Type 0} {read_b : List ℕ → Read B} {m : ℕ} → (Known : A → Type 0)
    → (get : A → B) → IsFormat write_b Any IsB read_b m → (made : B → A) → ((b : B) → Known (made b)) → ((b : B) → get (made b) ≡ b) → ((x : A) → Known x → made (get x) ≡ x)
    → IsFormat (λ x. write_b (get x)) Known (λ x. IsB (get x)) (λ bytes. read_b bytes >>= λ b. Ok (made b.0, b.1)) m
last {A} {B} {write_b} {IsB} {read_b} {m} Known get one made known got unique = record {
  again = λ x rest k is. ap (λ (r : Read B). r >>= λ b. Ok (made b.0, b.1)) (one.again (get x) rest tt is) ∙ ap (λ (y : A). Ok (y, rest)) (unique x k);
  takes = λ bytes x fits e.
      let s = bind_ok (read_b bytes) (λ b. Ok (made b.0, b.1)) x e in
      let t = one.takes bytes s.0 fits s.1 in
      subst (λ (y : A × List ℕ). Takes (λ a. write_b (get a)) Known (λ a. IsB (get a)) bytes y) (ok_is (made s.0.0, s.0.1) x s.2) (record {
        parts = t.parts ∙ ap (λ (b : B). write_b b ++ s.0.1) (sym (got s.0.0));
        rest = t.rest;
        known = known s.0.0;
        valid = subst IsB (sym (got s.0.0)) t.valid;
      });
  near = λ bytes. ends (length bytes) (read_b bytes) (one.near bytes);
} where
  ends : (size : ℕ) (r : Read B) → EndsNear m size r → EndsNear m size (r >>= λ b. Ok (made b.0, b.1))
  ends size (Ok x) p = p
  ends size (Err left) p = p

-- the same format under other words
pub same : {A : Type 0} {write write' : A → List ℕ} {Known Is Is' : A → Type 0} {read : List ℕ → Read A} {m : ℕ} → IsFormat write Known Is read m
    → ((x : A) → Known x → write x ≡ write' x) → ((x : A) → Known x → Is x → Is' x) → ((x : A) → Known x → Is' x → Is x) → IsFormat write' Known Is' read m
same {A} {write} {write'} {Known} {Is} {Is'} {read} {m} f w there back = record {
  again = λ x rest known is. ap (λ (t : List ℕ). read (t ++ rest)) (sym (w x known)) ∙ f.again x rest known (back x known is);
  takes = λ bytes x fits e.
      let t = f.takes bytes x fits e in
      record { parts = t.parts ∙ ap (λ (s : List ℕ). s ++ x.1) (w x.0 t.known); rest = t.rest; known = t.known; valid = there x.0 t.known t.valid };
  near = f.near;
}

-- A field of which only some values are right.
pub record Passes {A : Type 0} (Is : A → Type 0) (passes : A → Bool) (x : A) : Type 0 where
  pub fits : Is x
  pub passed : passes x ≡ true

pub guard_ok : {A : Type 0} (b : Bool) (x y : A) (left : ℕ) → cond b (Ok x) (Err left) ≡ Ok y → (b ≡ true) × (x ≡ y)
guard_ok true x y left e = (refl, ok_is x y e)
guard_ok false x y left e = absurd cc

near_guard : {A : Type 0} (m size : ℕ) (b : Bool) (x : A × List ℕ) → IsNear m size (length x.1) → EndsNear m size (cond b (Ok x) (Err size))
near_guard m size true x p = p
near_guard m size false x p = record { within = omega arith; near = omega arith }

near_checked : {A : Type 0} (m size : ℕ) (passes : A → Bool) (r : Read A) → EndsNear m size r → EndsNear m size (r >>= λ x. cond (passes x.0) (Ok x) (Err size))
near_checked m size passes (Ok x) p = near_guard m size (passes x.0) x p
near_checked m size passes (Err left) p = p

pub those : {A : Type 0} {write : A → List ℕ} {Is : A → Type 0} {read : List ℕ → Read A} {m : ℕ} → (passes : A → Bool) → IsFormat write Any Is read m → IsFormat write Any (Passes Is passes) (checked passes read) m
those {A} {write} {Is} {read} {m} passes f = record {
  again = λ x rest known is.
      ap (λ (r : Read A). r >>= λ y. cond (passes y.0) (Ok y) (Err (length (write x ++ rest)))) (f.again x rest tt is.fits) ∙ ap (λ (b : Bool). cond b (Ok (x, rest)) (Err (length (write x ++ rest)))) is.passed;
  takes = λ bytes x fits e.
      let s = bind_ok (read bytes) (λ y. cond (passes y.0) (Ok y) (Err (length bytes))) x e in
      let g = guard_ok (passes s.0.0) s.0 x (length bytes) s.2 in
      let t = f.takes bytes s.0 fits s.1 in
      subst (λ (y : A × List ℕ). Takes write Any (Passes Is passes) bytes y) g.1 (record { parts = t.parts; rest = t.rest; known = tt; valid = record { fits = t.valid; passed = g.0 } });
  near = λ bytes. near_checked m (length bytes) passes (read bytes) (f.near bytes);
}
