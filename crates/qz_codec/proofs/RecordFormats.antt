-- Whole records: what holds of a record, from the formats of what stands after its version.
use Rattle.std.proofs.Common.{◌≡◌, ℕ, suc, ◌+◌, ◌≤◌, ◌-◌, Bool, true, false, cond, List, [], ◌∷◌, ◌++◌, length, Option, Some, None, Result, Ok, Err, refl, sym, ap, subst, ◌∙◌, arith, ◌==◌}
use Rattle.std.specs.Prelude.{IfOk}
use Rattle.std.proofs.lemmas.Bool.{eqb-true}
use Rattle.std.proofs.lemmas.List.{append-nil, nil_from_length}
use Rattle.qz_codec.specs.Records.{version_byte, recorded, IsRecord}
use Rattle.qz_values.specs.declared.versions.Version.{Version}
use Rattle.qz_values.specs.declared.versions.Version.TheVariants.{One, Two}
use Rattle.qz_values.specs.Fields.{◌>>=◌, Read, byte_at}
use Rattle.qz_codec.specs.Reading.{chosen, version_of, version_at, whole_at, with_version, placed, reading_by, Answers}
use Rattle.qz_codec.specs.declared.errors.ReadError.{ReadError}
use Rattle.qz_codec.specs.declared.errors.ReadError.TheVariants as errors
use Rattle.qz_values.specs.Formats.{IsBytes, IsNear, EndsNear, IsFormat, Any}
use Rattle.qz_values.proofs.Formats.{bind_ok, done, ok_is, no_value}
use Rattle.qz_values.proofs.SingleFields.{IsBytes-rest}

-- a format in each version
abbrev pub AreFormats : {A : Type 0} → (Version → A → List ℕ) → (Version → A → Type 0) → (Version → List ℕ → Read A) → ℕ → Type 0
AreFormats write Is read m = (version : Version) → IsFormat (write version) Any (Is version) (read version) m

-- what is answered where nothing is left after the value
abbrev ended : {A : Type 0} → Version → A × List ℕ → Result (Version × A) ℕ
ended version x = cond (length x.1 == 0) (Ok (version, x.0)) (Err (length x.1))

ended_ok : {A : Type 0} (b : Bool) (x y : A) (left : ℕ) → cond b (done x) (Err left) ≡ Ok y → (b ≡ true) × (x ≡ y)
ended_ok true x y left e = (refl, ok_is x y e)
ended_ok false x y left e = absurd (no_value left y e)

alone : {A : Type 0} {write : A → List ℕ} {Is : A → Type 0} {read : List ℕ → Read A} {m : ℕ} → IsFormat write Any Is read m → (x : A) → Is x → read (write x) ≡ Ok (x, [])
alone {A} {write} {Is} {read} {m} f x is = ap read (sym (append-nil (write x))) ∙ f.again x [] tt is

-- The record of a value is read as that value, in that version.
pub whole_again : {A : Type 0} {write : Version → A → List ℕ} {Is : Version → A → Type 0} {read : Version → List ℕ → Read A} {m : ℕ} → AreFormats write Is read m → (version : Version) (x : A) → Is version x → whole_at with_version read (recorded write version x) ≡ Ok (version, x)
unfolding whole_at version_at byte_at
whole_again {A} f One x is = ap (λ (r : Read A). r >>= ended One) (alone (f One) x is)
whole_again {A} f Two x is = ap (λ (r : Read A). r >>= ended Two) (alone (f Two) x is)

-- ---- the version

-- the byte is that of the version that was read
pub record IsVersionOf (b : ℕ) (bytes : List ℕ) (x : Version × List ℕ) : Type 0 where
  pub byte : b ≡ version_byte x.0
  pub rest : bytes ≡ x.1

version_is : (one two : Bool) (b : ℕ) (bytes : List ℕ) (x : Version × List ℕ) → (b == 1) ≡ one → (b == 2) ≡ two → chosen (cond one (Some One) (cond two (Some Two) None)) (suc (length bytes)) bytes ≡ Ok x → IsVersionOf b bytes x
version_is true two b bytes x is_one is_two e = subst (IsVersionOf b bytes) (ok_is (One, bytes) x e) (record { byte = eqb-true b 1 is_one; rest = refl })
version_is false true b bytes x is_one is_two e = subst (IsVersionOf b bytes) (ok_is (Two, bytes) x e) (record { byte = eqb-true b 2 is_two; rest = refl })
version_is false false b bytes x is_one is_two e = absurd (no_value (suc (length bytes)) x e)

version_takes : (b : ℕ) (bytes : List ℕ) (x : Version × List ℕ) → chosen (version_of b) (suc (length bytes)) bytes ≡ Ok x → IsVersionOf b bytes x
version_takes b bytes x e = version_is (b == 1) (b == 2) b bytes x refl refl e

-- What was read with its version has these bytes as its record.
pub record IsReadAs {A : Type 0} (write : Version → A → List ℕ) (Is : Version → A → Type 0) (bytes : List ℕ) (x : Version × A) : Type 0 where
  pub has : Is x.0 x.1
  pub bytes_are : bytes ≡ recorded write x.0 x.1

-- Nothing else is read.
pub whole_takes : {A : Type 0} {write : Version → A → List ℕ} {Is : Version → A → Type 0} {read : Version → List ℕ → Read A} {m : ℕ} → AreFormats write Is read m → (bytes : List ℕ) (x : Version × A) → IsBytes bytes → whole_at with_version read bytes ≡ Ok x → IsReadAs write Is bytes x
unfolding whole_at version_at byte_at
whole_takes f [] x fits h = absurd (no_value 0 x h)
whole_takes {A} {write} {Is} {read} {m} f (b ∷ bytes) x fits h =
    let s = bind_ok (chosen (version_of b) (suc (length bytes)) bytes) (λ version. read version.0 version.1 >>= ended version.0) x h in
    let v = version_takes b bytes s.0 s.1 in
    let s2 = bind_ok (read s.0.0 s.0.1) (ended s.0.0) x s.2 in
    let t = (f s.0.0).takes bytes s2.0 (IsBytes-rest b bytes fits) (ap (read s.0.0) v.rest ∙ s2.1) in
    let g = ended_ok (length s2.0.1 == 0) (s.0.0, s2.0.0) x (length s2.0.1) s2.2 in
    let nothing : s2.0.1 ≡ [] = nil_from_length s2.0.1 (eqb-true _ _ g.0) in
    let whole : bytes ≡ write s.0.0 s2.0.0 = t.parts ∙ ap (λ (r : List ℕ). write s.0.0 s2.0.0 ++ r) nothing ∙ append-nil (write s.0.0 s2.0.0) in
    subst (IsReadAs write Is (b ∷ bytes)) g.1 (record { has = t.valid; bytes_are = ap (λ (n : ℕ). n ∷ bytes) v.byte ∙ ap (λ (r : List ℕ). version_byte s.0.0 ∷ r) whole })

-- ---- how far the fault of a record is from its front

pub FaultsNear : {A : Type 0} → ℕ → ℕ → Result A ℕ → Type 0
FaultsNear most size (Ok x) = Unit {0}
FaultsNear most size (Err left) = IsNear most size left

ended_near : {A : Type 0} (m size : ℕ) (version : Version) (r : Read A) → EndsNear m size r → FaultsNear (1 + m) (suc size) (r >>= ended version)
unfolding FaultsNear
ended_near m size version (Err left) p = record { within = omega (arith, p.within); near = omega (arith, p.near) }
ended_near {A} m size version (Ok x) p = ends (length x.1 == 0) where
  ends : (b : Bool) → FaultsNear {A = Version × A} (1 + m) (suc size) (cond b (Ok (version, x.0)) (Err (length x.1)))
  ends true = tt
  ends false = record { within = omega (arith, p.within); near = omega (arith, p.near) }

whole_near : {A : Type 0} {write : Version → A → List ℕ} {Is : Version → A → Type 0} {read : Version → List ℕ → Read A} {m : ℕ} → AreFormats write Is read m → (bytes : List ℕ) → FaultsNear (1 + m) (length bytes) (whole_at with_version read bytes)
unfolding FaultsNear whole_at version_at byte_at
whole_near f [] = record { within = omega arith; near = omega arith }
whole_near {A} {write} {Is} {read} {m} f (b ∷ bytes) = ends (version_of b) where
  ends : (version : Option Version) → FaultsNear (1 + m) (suc (length bytes)) (chosen version (suc (length bytes)) bytes >>= λ version. read version.0 version.1 >>= ended version.0)
  ends (Some version) = ended_near m (length bytes) version (read version bytes) ((f version).near bytes)
  ends None = record { within = omega arith; near = omega arith }

fault_near : {A : Type 0} (most size left : ℕ) (r : Result A ℕ) → FaultsNear most size r → r ≡ Err left → IsNear most size left
unfolding FaultsNear
fault_near {A} most size left r p e = subst (λ (s : Result A ℕ). FaultsNear most size s) e p

-- The fault of a record lies among its bytes, and not far from its front.
pub place_near : {A : Type 0} {write : Version → A → List ℕ} {Is : Version → A → Type 0} {read : Version → List ℕ → Read A} {m : ℕ} → AreFormats write Is read m → (bytes : List ℕ) (left : ℕ) → whole_at with_version read bytes ≡ Err left → IsNear (1 + m) (length bytes) left
place_near {A} {write} {Is} {read} {m} f bytes left e = fault_near (1 + m) (length bytes) left (whole_at with_version read bytes) (whole_near f bytes) e

value_near : {A : Type 0} (m : ℕ) (x : A) (r : Read A) (size : ℕ) → EndsNear m size r → r ≡ Ok (x, []) → size ≤ m
value_near {A} m x r size p h = let q : IsNear m size 0 = subst (λ (s : Read A). EndsNear m size s) h p in omega (arith, q.near)

-- No record is longer.
pub record_short : {A : Type 0} {write : Version → A → List ℕ} {Is : Version → A → Type 0} {read : Version → List ℕ → Read A} {m : ℕ} → AreFormats write Is read m → (version : Version) (x : A) → Is version x → length (recorded write version x) ≤ 1 + m
record_short {A} {write} {Is} {read} {m} f version x is = omega (arith, value_near m x (read version (write version x)) (length (write version x)) ((f version).near (write version x)) (alone (f version) x is))

-- ---- what a call answered

placed_ok : {A : Type 0} (size : ℕ) (r : Result A ℕ) (x : A) → placed size r ≡ Ok x → r ≡ Ok x
placed_ok size (Ok y) x h = h
placed_ok size (Err left) x h = absurd (no_value (size - left) x h)

-- The bytes are a record of what is read.
pub is_found : {A : Type 0} {write : Version → A → List ℕ} {Is : Version → A → Type 0} {read : Version → List ℕ → Read A} {m : ℕ} → AreFormats write Is read m → (bytes : List ℕ) (r : Result (Version × A) ReadError) → IsBytes bytes → Answers r (reading_by with_version read bytes) → IfOk r (λ x. Is x.0 x.1 × (bytes ≡ recorded write x.0 x.1))
is_found {A} {write} {Is} {read} {m} f bytes (Ok x) fits h = let t = whole_takes f bytes x fits (placed_ok (length bytes) (whole_at with_version read bytes) x h) in (t.has, t.bytes_are)
is_found f bytes (Err error) fits h = tt

-- The record of a value is read as that value.
pub is_only : {A : Type 0} {write : Version → A → List ℕ} {Is : Version → A → Type 0} {read : Version → List ℕ → Read A} {m : ℕ} → AreFormats write Is read m → (bytes : List ℕ) (r : Result (Version × A) ReadError) → Answers r (reading_by with_version read bytes) → (version : Version) (x : A) → Is version x → bytes ≡ recorded write version x → Answers r (Ok (version, x))
is_only {A} {write} {Is} {read} {m} f bytes r h version x is same_bytes =
    subst (λ (s : Result (Version × A) ℕ). Answers r s) (ap (reading_by with_version read) same_bytes ∙ ap (placed (length (recorded write version x))) (whole_again f version x is)) h

-- Bytes are the record of one value in one version.
pub record_once : {A : Type 0} {write : Version → A → List ℕ} {Is : Version → A → Type 0} {read : Version → List ℕ → Read A} {m : ℕ} → AreFormats write Is read m → (bytes : List ℕ) (v w : Version) (x y : A) → Is v x → Is w y → bytes ≡ recorded write v x → bytes ≡ recorded write w y → ◌≡◌ {A = Version × A} (v, x) (w, y)
record_once {A} {write} {Is} {read} {m} f bytes v w x y is_x is_y x_are y_are =
    let read_x = ap (whole_at with_version read) x_are ∙ whole_again f v x is_x in
    let read_y = ap (whole_at with_version read) y_are ∙ whole_again f w y is_y in
    ok_is (v, x) (w, y) (sym read_x ∙ read_y)

-- No two values have one record, in whichever versions.
pub record_unique : {A : Type 0} {write : Version → A → List ℕ} {Is : Version → A → Type 0} {read : Version → List ℕ → Read A} {m : ℕ} → AreFormats write Is read m → (bytes : List ℕ) (x y : A) → IsRecord write Is bytes x → IsRecord write Is bytes y → x ≡ y
record_unique {A} f bytes x y is_x is_y = ap (λ (p : Version × A). p.1) (record_once f bytes is_x.version is_y.version x y is_x.has is_y.has is_x.bytes_are is_y.bytes_are)

-- ---- what a record means

abbrev as_meant : {A B : Type 0} → (Version → A → B) → Result (Version × A) ℕ → Result B ℕ
as_meant meant (Ok x) = Ok (meant x.0 x.1)
as_meant meant (Err left) = Err left

ended_meant : {A B : Type 0} (meant : Version → A → B) (version : Version) (x : A) (left : ℕ) (b : Bool) → cond b (Ok (meant version x)) (Err left) ≡ as_meant meant (cond b (Ok (version, x)) (Err left))
ended_meant meant version x left true = refl
ended_meant meant version x left false = refl

whole_meant : {A B : Type 0} (meant : Version → A → B) (read : Version → List ℕ → Read A) (bytes : List ℕ) → whole_at meant read bytes ≡ as_meant meant (whole_at with_version read bytes)
unfolding whole_at
whole_meant {A} {B} meant read bytes = begun (version_at bytes) where
  after : (version : Version) (r : Read A) → (r >>= λ value. cond (length value.1 == 0) (Ok (meant version value.0)) (Err (length value.1))) ≡ as_meant meant (r >>= ended version)
  after version (Ok value) = ended_meant meant version value.0 (length value.1) (length value.1 == 0)
  after version (Err left) = refl

  begun : (v : Read Version) → (v >>= λ version. read version.0 version.1 >>= λ value. cond (length value.1 == 0) (Ok (meant version.0 value.0)) (Err (length value.1))) ≡ as_meant meant (v >>= λ version. read version.0 version.1 >>= ended version.0)
  begun (Ok version) = after version.0 (read version.0 version.1)
  begun (Err left) = refl

placed_meant : {A B : Type 0} (meant : Version → A → B) (size : ℕ) (r : Result (Version × A) ℕ) → placed size (as_meant meant r) ≡ as_meant meant (placed size r)
placed_meant meant size (Ok x) = refl
placed_meant meant size (Err left) = refl

reading_meant : {A B : Type 0} (meant : Version → A → B) (read : Version → List ℕ → Read A) (bytes : List ℕ) → reading_by meant read bytes ≡ as_meant meant (reading_by with_version read bytes)
reading_meant meant read bytes = ap (placed (length bytes)) (whole_meant meant read bytes) ∙ placed_meant meant (length bytes) (whole_at with_version read bytes)

-- what was read with its version, as what it means
pub meant_exact : {A B : Type 0} (meant : Version → A → B) (read : Version → List ℕ → Read A) (bytes : List ℕ) (version : Version) (x : A) → reading_by with_version read bytes ≡ Ok (version, x) → reading_by meant read bytes ≡ Ok (meant version x)
meant_exact meant read bytes version x h = reading_meant meant read bytes ∙ ap (as_meant meant) h

pub meant_fault : {A B : Type 0} (meant : Version → A → B) (read : Version → List ℕ → Read A) (bytes : List ℕ) (e : ReadError) → Answers {A = Version × A} (Err e) (reading_by with_version read bytes) → Answers {A = B} (Err e) (reading_by meant read bytes)
meant_fault meant read bytes (errors.BadRecord place) h = reading_meant meant read bytes ∙ ap (as_meant meant) h
meant_fault meant read bytes errors.NoMemory h = tt

-- what is answered to a fault, whatever was asked for
pub fault_of : {A B : Type 0} (e : ReadError) (x : A) (y : B) → Answers {A = A} (Err e) (Ok x) → Answers {A = B} (Err e) (Ok y)
fault_of (errors.BadRecord place) x y h = absurd cc
fault_of errors.NoMemory x y h = tt

-- what was read is what was asked for
pub found_is : {A : Type 0} (x y : Version × A) → Answers {A = Version × A} (Ok x) (Ok y) → y ≡ x
found_is x y h = ok_is y x h
