-- Lists: those whose items are right are written and read so, and none else is read.
use Rattle.std.proofs.Common.{◌≡◌, ℕ, zero, suc, ◌+◌, ◌*◌, ◌^◌, ◌<◌, ◌≤◌, true, cond, List, [], ◌∷◌, ◌++◌, length, Option, Some, None, Ok, Err, refl, sym, ap, subst, ◌∙◌, append_assoc, arith}
use Rattle.std.specs.Int.{w16}
use Rattle.std.specs.List.{flat_map}
use Rattle.std.proofs.Math.Nat.{mul-le-mul_right}
use Rattle.qz_values.specs.Fields.{number, is_long, ◌>>=◌, Read, checked, number_at}
use Rattle.qz_values.specs.Lists.{list, items_at, list_at}
use Rattle.qz_values.specs.Formats.{IsBytes, EndsNear, Takes, IsFormat, Any}
use Rattle.qz_values.proofs.Formats.{bind_ok, ok_is, near_then, guard_ok}
use Rattle.qz_values.proofs.SingleFields.{wide16, long_le}
use Rattle.qz_values.proofs.NameFormats.{narrowed}
use Rattle.qz_values.proofs.VariantFormats.{nearer}

-- each item is right after the one before; `before` is what stands before the first
abbrev pub AreItems : {A : Type 0} → (Option A → A → Type 0) → Option A → List A → Type 0
AreItems IsItem before [] = Unit {0}
AreItems IsItem before (x ∷ xs) = IsItem before x × AreItems IsItem (Some x) xs

-- a format of items, each after any one before
abbrev pub AreFormats : {A : Type 0} → (A → List ℕ) → (Option A → A → Type 0) → (Option A → List ℕ → Read A) → ℕ → Type 0
AreFormats {A} write Is read m = (before : Option A) → IsFormat write Any (Is before) (read before) m

-- ---- so many items

items_again : {A : Type 0} {write : A → List ℕ} {Is : Option A → A → Type 0} {read : Option A → List ℕ → Read A} {m : ℕ} → AreFormats write Is read m → (before : Option A) (xs : List A) (rest : List ℕ) → AreItems Is before xs → items_at read (length xs) before (flat_map write xs ++ rest) ≡ Ok (xs, rest)
items_again f before [] rest is = refl
items_again {A} {write} {Is} {read} f before (x ∷ xs) rest is =
    ap (items_at read (suc (length xs)) before) (append_assoc (write x) (flat_map write xs) rest)
    ∙ rw ((f before).again x (flat_map write xs ++ rest) tt is.0, items_again f (Some x) xs rest is.1) refl

-- what so many items took from the front
pub record TakeItems {A : Type 0} (write : A → List ℕ) (Is : Option A → A → Type 0) (n : ℕ) (before : Option A) (bytes : List ℕ) (x : List A × List ℕ) : Type 0 where
  pub parts : bytes ≡ flat_map write x.0 ++ x.1
  pub rest : IsBytes x.1
  pub count : length x.0 ≡ n
  pub valid : AreItems Is before x.0

items_take : {A : Type 0} {write : A → List ℕ} {Is : Option A → A → Type 0} {read : Option A → List ℕ → Read A} {m : ℕ} → AreFormats write Is read m → (n : ℕ) (before : Option A) (bytes : List ℕ) (x : List A × List ℕ) → IsBytes bytes → items_at read n before bytes ≡ Ok x → TakeItems write Is n before bytes x
items_take {A} {write} {Is} f zero before bytes x fits e =
    subst (λ (y : List A × List ℕ). TakeItems write Is 0 before bytes y) (ok_is ([], bytes) x e) (record { parts = refl; rest = fits; count = refl; valid = tt })
items_take {A} {write} {Is} {read} f (suc n) before bytes x fits e =
    let a = bind_ok (read before bytes) (λ y. items_at read n (Some y.0) y.1 >>= λ ys. Ok (y.0 ∷ ys.0, ys.1)) x e in
    let b = bind_ok (items_at read n (Some a.0.0) a.0.1) (λ ys. Ok (a.0.0 ∷ ys.0, ys.1)) x a.2 in
    let first = (f before).takes bytes a.0 fits a.1 in
    let others = items_take f n (Some a.0.0) a.0.1 b.0 first.rest b.1 in
    subst (λ (y : List A × List ℕ). TakeItems write Is (suc n) before bytes y) (ok_is (a.0.0 ∷ b.0.0, b.0.1) x b.2) (record {
      parts = first.parts ∙ ap (λ (t : List ℕ). write a.0.0 ++ t) others.parts ∙ sym (append_assoc (write a.0.0) (flat_map write b.0.0) b.0.1);
      rest = others.rest;
      count = ap suc others.count;
      valid = (first.valid, others.valid);
    })

cons_near : {A : Type 0} (m size : ℕ) (x : A) (r : Read (List A)) → EndsNear m size r → EndsNear m size (r >>= λ xs. Ok (x ∷ xs.0, xs.1))
cons_near m size x (Ok xs) p = p
cons_near m size x (Err left) p = p

items_near : {A : Type 0} {write : A → List ℕ} {Is : Option A → A → Type 0} {read : Option A → List ℕ → Read A} {m : ℕ} → AreFormats write Is read m → (n : ℕ) (before : Option A) (bytes : List ℕ) → EndsNear (n * m) (length bytes) (items_at read n before bytes)
items_near f zero before bytes = record { within = omega arith; near = omega arith }
items_near {A} {write} {Is} {read} {m} f (suc n) before bytes =
    let e : m + n * m ≡ suc n * m = omega arith in
    subst (λ (k : ℕ). EndsNear k (length bytes) (items_at read (suc n) before bytes)) e
    (near_then m (n * m) (length bytes) (read before bytes) (λ y. items_at read n (Some y.0) y.1 >>= λ ys. Ok (y.0 ∷ ys.0, ys.1)) ((f before).near bytes) (λ y h. cons_near (n * m) (length y.1) y.0 (items_at read n (Some y.0) y.1) (items_near f n (Some y.0) y.1)))

-- ---- their number before them

count_format : (least most : ℕ) → most < 2 ^ 16 → IsFormat (number w16) Any (λ n. is_long least most n ≡ true) (checked (is_long least most) (number_at w16)) 2
count_format least most lt = narrowed wide16 (is_long least most) (λ n h. omega (arith, long_le least most n h))

-- a list of so many items, all of which are right
pub record IsList {A : Type 0} (Is : Option A → A → Type 0) (least most : ℕ) (xs : List A) : Type 0 where
  pub size : is_long least most (length xs) ≡ true
  pub items : AreItems Is None xs

list_again : {A : Type 0} {write : A → List ℕ} {Is : Option A → A → Type 0} {read : Option A → List ℕ → Read A} {m : ℕ} (least most : ℕ) → most < 2 ^ 16 → AreFormats write Is read m → (xs : List A) (rest : List ℕ) → IsList Is least most xs → list_at least most read (list write xs ++ rest) ≡ Ok (xs, rest)
list_again {A} {write} {Is} {read} least most lt f xs rest is =
    ap (list_at least most read) (append_assoc (number w16 (length xs)) (flat_map write xs) rest)
    ∙ ap (λ (r : Read ℕ). r >>= λ n. items_at read n.0 None n.1) ((count_format least most lt).again (length xs) (flat_map write xs ++ rest) tt is.size)
    ∙ items_again f None xs rest is.items

list_takes : {A : Type 0} {write : A → List ℕ} {Is : Option A → A → Type 0} {read : Option A → List ℕ → Read A} {m : ℕ} (least most : ℕ) → most < 2 ^ 16 → AreFormats write Is read m → (bytes : List ℕ) (x : List A × List ℕ) → IsBytes bytes → list_at least most read bytes ≡ Ok x → Takes (list write) Any (IsList Is least most) bytes x
list_takes {A} {write} {Is} {read} least most lt f bytes x fits e =
    let s = bind_ok (checked (is_long least most) (number_at w16) bytes) (λ n. items_at read n.0 None n.1) x e in
    let first = (count_format least most lt).takes bytes s.0 fits s.1 in
    let others = items_take f s.0.0 None s.0.1 x first.rest s.2 in
    record {
      parts = first.parts ∙ ap (λ (t : List ℕ). number w16 s.0.0 ++ t) others.parts ∙ sym (append_assoc (number w16 s.0.0) (flat_map write x.0) x.1) ∙ ap (λ (k : ℕ). (number w16 k ++ flat_map write x.0) ++ x.1) (sym others.count);
      rest = others.rest;
      known = tt;
      valid = record { size = subst (λ (k : ℕ). is_long least most k ≡ true) (sym others.count) first.valid; items = others.valid };
    }

list_near : {A : Type 0} {write : A → List ℕ} {Is : Option A → A → Type 0} {read : Option A → List ℕ → Read A} {m : ℕ} (least most : ℕ) → most < 2 ^ 16 → AreFormats write Is read m → (bytes : List ℕ) → EndsNear (2 + most * m) (length bytes) (list_at least most read bytes)
list_near {A} {write} {Is} {read} {m} least most lt f bytes =
    near_then 2 (most * m) (length bytes) (checked (is_long least most) (number_at w16) bytes) (λ n. items_at read n.0 None n.1) ((count_format least most lt).near bytes) (λ n e.
    let s = bind_ok (number_at w16 bytes) (λ y. cond (is_long least most y.0) (Ok y) (Err (length bytes))) n e in
    let g = guard_ok (is_long least most s.0.0) s.0 n (length bytes) s.2 in
    let few : n.0 ≤ most = long_le least most n.0 (ap (λ (y : ℕ × List ℕ). is_long least most y.0) (sym g.1) ∙ g.0) in
    nearer (n.0 * m) (most * m) (length n.1) (items_at read n.0 None n.1) (mul-le-mul_right m few) (items_near f n.0 None n.1))

pub list_format : {A : Type 0} {write : A → List ℕ} {Is : Option A → A → Type 0} {read : Option A → List ℕ → Read A} {m : ℕ} (least most : ℕ) → most < 2 ^ 16 → AreFormats write Is read m → IsFormat (list write) Any (IsList Is least most) (list_at least most read) (2 + most * m)
list_format least most lt f = record {
  again = λ xs rest known is. list_again least most lt f xs rest is;
  takes = list_takes least most lt f;
  near = list_near least most lt f;
}
