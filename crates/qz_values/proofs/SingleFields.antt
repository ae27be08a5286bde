-- Single fields: each value is written and read so, and none else is read.
use Rattle.std.proofs.Common.{◌≡◌, ℕ, zero, suc, ◌+◌, ◌^◌, ◌<◌, ◌≤◌, Bool, true, false, cond, ltb, leb, eqb, List, [], ◌∷◌, ◌++◌, length, take, drop, Option, Some, None, Ok, Err, refl, sym, ap, subst, ◌∙◌, append_assoc, arith, inl, inr, Fits}
use Rattle.std.specs.Prelude.{IfSome, FitsSigned, ◌&&◌}
use Rattle.std.specs.Int.{Width, w8, w16, w32, w64, byte_len, from_be_bytes, to_be_bytes, cast_signed, cast_unsigned}
use Rattle.std.specs.Str.{is_utf8}
use Rattle.std.proofs.lemmas.Bool.{cases_lt, ltb-false, le-ltb, le-leb, leb-true, ne_eqb}
use Rattle.std.proofs.lemmas.List.{take_at, drop_at, take-append-drop, length-append, length-take, length-drop, get_or-drop, get_or-take, get_or_past}
use Rattle.std.proofs.lemmas.Nat.{be_bytes_2, be_bytes_4, be_bytes_8, from_be_bytes-to_be_bytes_2, from_be_bytes-to_be_bytes_4, from_be_bytes-to_be_bytes_8}
use Rattle.std.proofs.Math.Facts
use Rattle.std.proofs.lemmas.Str.{is_utf8-from_IsUtf8, IsUtf8-from_is_utf8}
use Rattle.qz_values.specs.Fields.{number, integer, small, flag, text, optional, ◌>>=◌, Read, checked, byte_at, number_at, integer_at, small_at, flag_at, text_at, optional_at, is_long, IsText}
use Rattle.qz_values.specs.Formats.{IsBytes, EndsNear, Takes, IsFormat, Any}
use Rattle.qz_values.proofs.Formats.{bind_ok, done, ok_is, no_value, near_then, guard_ok, those}
use Rattle.qz_values.proofs.Truths.{parts_true}

IsBytes-drop : (n : ℕ) (bytes : List ℕ) → IsBytes bytes → IsBytes (drop n bytes)
IsBytes-drop n bytes h i = rw get_or-drop (h (n + i))

IsBytes-take : (n : ℕ) (bytes : List ℕ) → IsBytes bytes → IsBytes (take n bytes)
IsBytes-take n bytes h i =
    elim (cases_lt i n) [
      | inl lt ↦ rw (get_or-take n bytes i 0 lt) (h i)
      | inr le ↦ rw (get_or_past (take n bytes) i 0 (omega (arith, length-take n bytes))) (omega arith)
    ]

pub IsBytes-rest : (b : ℕ) (bytes : List ℕ) → IsBytes (b ∷ bytes) → IsBytes bytes
IsBytes-rest b bytes h i = h (suc i)

-- ---- bytes

abbrev pub one_byte : ℕ → List ℕ
one_byte n = n ∷ []

pub byte_format : IsFormat one_byte Any (λ n. n < 256) byte_at 1
unfolding byte_at
byte_format = record {
  again = λ n rest known lt. refl;
  takes = λ bytes x fits e. byte_takes bytes x fits e;
  near = byte_near;
} where
  byte_takes : (bytes : List ℕ) (x : ℕ × List ℕ) → IsBytes bytes → byte_at bytes ≡ Ok x → Takes one_byte Any (λ n. n < 256) bytes x
  byte_takes [] x fits e = absurd cc
  byte_takes (b ∷ bytes) x fits e = subst (λ (y : ℕ × List ℕ). Takes one_byte Any (λ n. n < 256) (b ∷ bytes) y) (ok_is (b, bytes) x e) (record { parts = refl; rest = IsBytes-rest b bytes fits; known = tt; valid = fits 0 })

  byte_near : (bytes : List ℕ) → EndsNear 1 (length bytes) (byte_at bytes)
  byte_near [] = record { within = omega arith; near = omega arith }
  byte_near (b ∷ bytes) = record { within = omega arith; near = omega arith }

-- ---- numbers

pub record IsWide (w : Width) (limit : ℕ) : Type 0 where
  pub len : (n : ℕ) → length (to_be_bytes w n) ≡ byte_len w
  pub back : (bytes : List ℕ) → length bytes ≡ byte_len w → IsBytes bytes → to_be_bytes w (from_be_bytes w bytes) ≡ bytes
  pub again : (n : ℕ) → n < limit → from_be_bytes w (to_be_bytes w n) ≡ n
  pub below : (bytes : List ℕ) → IsBytes bytes → from_be_bytes w bytes < limit

pub wide16 : IsWide w16 (2 ^ 16)
wide16 = record {
  len = λ n. refl;
  back = λ bytes len fits. be_bytes_2 bytes _ len fits refl;
  again = λ n lt. from_be_bytes-to_be_bytes_2 n lt;
  below = λ bytes fits. omega (arith, fits 0, fits 1);
}

pub wide32 : IsWide w32 (2 ^ 32)
wide32 = record {
  len = λ n. refl;
  back = λ bytes len fits. be_bytes_4 bytes _ len fits refl;
  again = λ n lt. from_be_bytes-to_be_bytes_4 n lt;
  below = λ bytes fits. omega (arith, fits 0, fits 1, fits 2, fits 3);
}

pub wide64 : IsWide w64 (2 ^ 64)
wide64 = record {
  len = λ n. refl;
  back = λ bytes len fits. be_bytes_8 bytes _ len fits refl;
  again = λ n lt. from_be_bytes-to_be_bytes_8 n lt;
  below = λ bytes fits. omega (arith, fits 0, fits 1, fits 2, fits 3, fits 4, fits 5, fits 6, fits 7);
}

short_or_not : {A : Type 0} (b : Bool) (x y : A) (left : ℕ) → cond b (Err left) (done x) ≡ done y → (b ≡ false) × (x ≡ y)
short_or_not true x y left e = absurd cc
short_or_not false x y left e = (refl, ok_is x y e)

number_takes : (w : Width) (limit : ℕ) (wide : IsWide w limit) (bytes : List ℕ) (x : ℕ × List ℕ) → IsBytes bytes → number_at w bytes ≡ Ok x → Takes (number w) Any (λ n. n < limit) bytes x
unfolding number_at number
number_takes w limit wide bytes x fits e =
    let g = short_or_not (ltb (length bytes) (byte_len w)) (from_be_bytes w (take (byte_len w) bytes), drop (byte_len w) bytes) x (length bytes) e in
    let long : byte_len w ≤ length bytes = ltb-false _ _ g.0 in
    let front : to_be_bytes w (from_be_bytes w (take (byte_len w) bytes)) ≡ take (byte_len w) bytes = wide.back (take (byte_len w) bytes) (omega (arith, length-take (byte_len w) bytes)) (IsBytes-take (byte_len w) bytes fits) in
    subst (λ (y : ℕ × List ℕ). Takes (number w) Any (λ n. n < limit) bytes y) g.1 (record {
      parts = sym (take-append-drop (byte_len w) bytes) ∙ ap (λ (t : List ℕ). t ++ drop (byte_len w) bytes) (sym front);
      rest = IsBytes-drop (byte_len w) bytes fits;
      known = tt;
      valid = wide.below (take (byte_len w) bytes) (IsBytes-take (byte_len w) bytes fits);
    })

number_again : (w : Width) (limit : ℕ) (wide : IsWide w limit) (n : ℕ) (rest : List ℕ) → n < limit → number_at w (number w n ++ rest) ≡ Ok (n, rest)
unfolding number_at number
number_again w limit wide n rest lt =
    let len = wide.len n in
    let long : ltb (length (to_be_bytes w n ++ rest)) (byte_len w) ≡ false = le-ltb _ _ (omega (arith, length-append (to_be_bytes w n) rest)) in
    rw (long, take_at (to_be_bytes w n) rest (byte_len w) len, drop_at (to_be_bytes w n) rest (byte_len w) len, wide.again n lt) refl

number_near : (w : Width) (bytes : List ℕ) → EndsNear (byte_len w) (length bytes) (number_at w bytes)
unfolding number_at
number_near w bytes = ends (ltb (length bytes) (byte_len w)) where
  ends : (b : Bool) → EndsNear (byte_len w) (length bytes) (cond b (Err (length bytes)) (Ok (from_be_bytes w (take (byte_len w) bytes), drop (byte_len w) bytes)))
  ends true = record { within = omega arith; near = omega arith }
  ends false = record { within = omega (arith, length-drop (byte_len w) bytes); near = omega (arith, length-drop (byte_len w) bytes) }

pub number_format : {w : Width} {limit : ℕ} → IsWide w limit → IsFormat (number w) Any (λ n. n < limit) (number_at w) (byte_len w)
number_format {w} {limit} wide = record {
  again = λ n rest known lt. number_again w limit wide n rest lt;
  takes = number_takes w limit wide;
  near = number_near w;
}

-- A value that is written as another one is.
pub mapped : {A B : Type 0} {write : B → List ℕ} {IsB : B → Type 0} {read : List ℕ → Read B} {m : ℕ} {Is : A → Type 0}
    → (there : B → A) → (back : A → B) → IsFormat write Any IsB read m → ((b : B) → IsB b → back (there b) ≡ b) → ((b : B) → IsB b → Is (there b)) → ((a : A) → Is a → there (back a) ≡ a) → ((a : A) → Is a → IsB (back a))
    → IsFormat (λ a. write (back a)) Any Is (λ bytes. read bytes >>= λ b. Ok (there b.0, b.1)) m
mapped {A} {B} {write} {IsB} {read} {m} {Is} there back f same_b is_a same_a is_b = record {
  again = λ a rest known is. ap (λ (r : Read B). r >>= λ b. Ok (there b.0, b.1)) (f.again (back a) rest tt (is_b a is)) ∙ ap (λ (y : A). Ok (y, rest)) (same_a a is);
  takes = λ bytes x fits e.
      let s = bind_ok (read bytes) (λ b. Ok (there b.0, b.1)) x e in
      let t = f.takes bytes s.0 fits s.1 in
      subst (λ (y : A × List ℕ). Takes (λ a. write (back a)) Any Is bytes y) (ok_is (there s.0.0, s.0.1) x s.2) (record {
        parts = t.parts ∙ ap (λ (b : B). write b ++ s.0.1) (sym (same_b s.0.0 t.valid));
        rest = t.rest;
        known = tt;
        valid = is_a s.0.0 t.valid;
      });
  near = λ bytes. ends (length bytes) (read bytes) (f.near bytes);
} where
  ends : (size : ℕ) (r : Read B) → EndsNear m size r → EndsNear m size (r >>= λ b. Ok (there b.0, b.1))
  ends size (Ok x) p = p
  ends size (Err left) p = p

-- ---- signed numbers

pub record IsSame (w : Width) (limit : ℕ) : Type 0 where
  pub into : (n : ℕ) → n < limit → Fits w n
  pub out : (n : ℕ) → Fits w n → n < limit

pub same8 : IsSame w8 256
same8 = record { into = λ n lt. record { fits = lt }; out = λ n f. f.fits }

pub same32 : IsSame w32 (2 ^ 32)
same32 = record { into = λ n lt. record { fits = lt }; out = λ n f. f.fits }

pub same64 : IsSame w64 (2 ^ 64)
same64 = record { into = λ n lt. record { fits = lt }; out = λ n f. f.fits }

pub integer_format : {w : Width} {limit : ℕ} → IsWide w limit → IsSame w limit → IsFormat (integer w) Any (FitsSigned w) (integer_at w) (byte_len w)
unfolding integer integer_at
integer_format {w} {limit} wide s = mapped {Is = FitsSigned w} (cast_signed w) (cast_unsigned w) (number_format wide) (λ n lt. Facts.of_z-to_z (s.into n lt)) (λ n lt. Facts.sfits_to_z (s.into n lt)) (λ z f. Facts.to_z-of_z f) (λ z f. s.out (cast_unsigned w z) (Facts.Fits-of_z f))

pub small_format : IsFormat small Any (FitsSigned w8) small_at 1
unfolding small small_at
small_format = mapped {Is = FitsSigned w8} (cast_signed w8) (cast_unsigned w8) byte_format (λ n lt. Facts.of_z-to_z (same8.into n lt)) (λ n lt. Facts.sfits_to_z (same8.into n lt)) (λ z f. Facts.to_z-of_z f) (λ z f. same8.out (cast_unsigned w8 z) (Facts.Fits-of_z f))

-- ---- flags

not_zero : (b : ℕ) → eqb (suc (suc b)) 0 ≡ false
not_zero b = ne_eqb _ _ (λ e. omega (arith, e))

not_one : (b : ℕ) → eqb (suc (suc b)) 1 ≡ false
not_one b = ne_eqb _ _ (λ e. omega (arith, e))

pub other_flag : (b : ℕ) (rest : List ℕ) → flag_at (suc (suc b) ∷ rest) ≡ Err (suc (length rest))
unfolding flag_at byte_at
other_flag b rest = rw (not_zero b, not_one b) refl

pub flag_format : IsFormat flag Any Any flag_at 1
unfolding flag_at byte_at
flag_format = record { again = again; takes = takes; near = near } where
  again : (b : Bool) (rest : List ℕ) → Unit {0} → Unit {0} → flag_at (flag b ++ rest) ≡ Ok (b, rest)
  again false rest known is = refl
  again true rest known is = refl

  takes : (bytes : List ℕ) (x : Bool × List ℕ) → IsBytes bytes → flag_at bytes ≡ Ok x → Takes flag Any Any bytes x
  takes [] x fits e = absurd cc
  takes (zero ∷ bytes) x fits e = subst (λ (y : Bool × List ℕ). Takes flag Any Any (0 ∷ bytes) y) (ok_is (false, bytes) x e) (record { parts = refl; rest = IsBytes-rest 0 bytes fits; known = tt; valid = tt })
  takes (suc zero ∷ bytes) x fits e = subst (λ (y : Bool × List ℕ). Takes flag Any Any (1 ∷ bytes) y) (ok_is (true, bytes) x e) (record { parts = refl; rest = IsBytes-rest 1 bytes fits; known = tt; valid = tt })
  takes (suc (suc b) ∷ bytes) x fits e = absurd (no_value (suc (length bytes)) x (sym (other_flag b bytes) ∙ e))

  near : (bytes : List ℕ) → EndsNear 1 (length bytes) (flag_at bytes)
  near [] = record { within = omega arith; near = omega arith }
  near (zero ∷ bytes) = record { within = omega arith; near = omega arith }
  near (suc zero ∷ bytes) = record { within = omega arith; near = omega arith }
  near (suc (suc b) ∷ bytes) = subst (λ (r : Read Bool). EndsNear 1 (suc (length bytes)) r) (sym (other_flag b bytes)) (record { within = omega arith; near = omega arith })

-- ---- texts

pub long_le : (least most n : ℕ) → is_long least most n ≡ true → n ≤ most
long_le least most n e = leb-true n most (parts_true (leb least n) (leb n most) e).others

text_again : (least most : ℕ) → most < 2 ^ 16 → (s rest : List ℕ) → IsText least most s → text_at least most (text s ++ rest) ≡ Ok (s, rest)
unfolding text_at text
text_again least most lt s rest is =
    let length_format = those (is_long least most) (number_format wide16) in
    let bound : length s < 2 ^ 16 = omega (arith, long_le least most (length s) is.size) in
    let first : checked (is_long least most) (number_at w16) (number w16 (length s) ++ (s ++ rest)) ≡ Ok (length s, s ++ rest) = length_format.again (length s) (s ++ rest) tt (record { fits = bound; passed = is.size }) in
    let whole : leb (length s) (length (s ++ rest)) ≡ true = le-leb _ _ (omega (arith, length-append s rest)) in
    ap (text_at least most) (append_assoc (number w16 (length s)) s rest) ∙ rw (first, whole, take_at s rest (length s) refl, is_utf8-from_IsUtf8 s is.utf8, drop_at s rest (length s) refl) refl

text_takes : (least most : ℕ) (bytes : List ℕ) (x : List ℕ × List ℕ) → IsBytes bytes → text_at least most bytes ≡ Ok x → Takes text Any (IsText least most) bytes x
unfolding text_at text
text_takes least most bytes x fits e =
    let length_format = those (is_long least most) (number_format wide16) in
    let b = bind_ok (checked (is_long least most) (number_at w16) bytes) (λ n. cond (leb n.0 (length n.1) && is_utf8 (take n.0 n.1)) (Ok (take n.0 n.1, drop n.0 n.1)) (Err (length n.1))) x e in
    let n = b.0 in
    let t = length_format.takes bytes n fits b.1 in
    let g = guard_ok (leb n.0 (length n.1) && is_utf8 (take n.0 n.1)) (take n.0 n.1, drop n.0 n.1) x (length n.1) b.2 in
    let tests = parts_true (leb n.0 (length n.1)) (is_utf8 (take n.0 n.1)) g.0 in
    let long : n.0 ≤ length n.1 = leb-true _ _ tests.first in
    let len : length (take n.0 n.1) ≡ n.0 = omega (arith, length-take n.0 n.1) in
    let whole : bytes ≡ (number w16 (length (take n.0 n.1)) ++ take n.0 n.1) ++ drop n.0 n.1 = t.parts ∙ ap (λ (r : List ℕ). number w16 n.0 ++ r) (sym (take-append-drop n.0 n.1)) ∙ sym (append_assoc (number w16 n.0) (take n.0 n.1) (drop n.0 n.1)) ∙ ap (λ (k : ℕ). (number w16 k ++ take n.0 n.1) ++ drop n.0 n.1) (sym len) in
    subst (λ (p : List ℕ × List ℕ). Takes text Any (IsText least most) bytes p) g.1 (record {
      parts = whole;
      rest = IsBytes-drop n.0 n.1 t.rest;
      known = tt;
      valid = record { size = ap (is_long least most) len ∙ t.valid.passed; utf8 = IsUtf8-from_is_utf8 (take n.0 n.1) tests.others };
    })

near_text : (most : ℕ) (n : ℕ) (bytes : List ℕ) (b : Bool) → n ≤ most → EndsNear most (length bytes) (cond b (Ok (take n bytes, drop n bytes)) (Err (length bytes)))
near_text most n bytes true le = record { within = omega (arith, length-drop n bytes); near = omega (arith, length-drop n bytes) }
near_text most n bytes false le = record { within = omega arith; near = omega arith }

text_near : (least most : ℕ) (bytes : List ℕ) → EndsNear (2 + most) (length bytes) (text_at least most bytes)
unfolding text_at
text_near least most bytes =
    near_then 2 most (length bytes) (checked (is_long least most) (number_at w16) bytes) (λ n. cond (leb n.0 (length n.1) && is_utf8 (take n.0 n.1)) (Ok (take n.0 n.1, drop n.0 n.1)) (Err (length n.1))) ((those (is_long least most) (number_format wide16)).near bytes) (λ n e.
    let s = bind_ok (number_at w16 bytes) (λ y. cond (is_long least most y.0) (Ok y) (Err (length bytes))) n e in
    let g = guard_ok (is_long least most s.0.0) s.0 n (length bytes) s.2 in
    near_text most n.0 n.1 (leb n.0 (length n.1) && is_utf8 (take n.0 n.1)) (long_le least most n.0 (ap (λ (y : ℕ × List ℕ). is_long least most y.0) (sym g.1) ∙ g.0)))

pub text_format : (least most : ℕ) → most < 2 ^ 16 → IsFormat text Any (IsText least most) (text_at least most) (2 + most)
text_format least most lt = record {
  again = λ s rest known is. text_again least most lt s rest is;
  takes = text_takes least most;
  near = text_near least most;
}

-- ---- options

some_near : {A : Type 0} (m size : ℕ) (r : Read A) → EndsNear m size r → EndsNear m size (r >>= λ x. Ok (Some x.0, x.1))
some_near m size (Ok x) p = p
some_near m size (Err left) p = p

pub optional_format : {A : Type 0} {write : A → List ℕ} {Is : A → Type 0} {read : List ℕ → Read A} {m : ℕ} → IsFormat write Any Is read m → IsFormat (optional write) Any (λ o. IfSome o Is) (optional_at read) (1 + m)
unfolding flag_at byte_at
optional_format {A} {write} {Is} {read} {m} f = record { again = again; takes = takes; near = near } where
  again : (o : Option A) (rest : List ℕ) → Unit {0} → IfSome o Is → optional_at read (optional write o ++ rest) ≡ Ok (o, rest)
  again None rest known is = refl
  again (Some x) rest known is = ap (λ (r : Read A). r >>= λ y. Ok (Some y.0, y.1)) (f.again x rest tt is)

  takes : (bytes : List ℕ) (x : Option A × List ℕ) → IsBytes bytes → optional_at read bytes ≡ Ok x → Takes (optional write) Any (λ o. IfSome o Is) bytes x
  takes [] x fits e = absurd cc
  takes (zero ∷ bytes) x fits e = subst (λ (y : Option A × List ℕ). Takes (optional write) Any (λ o. IfSome o Is) (0 ∷ bytes) y) (ok_is (None, bytes) x e) (record { parts = refl; rest = IsBytes-rest 0 bytes fits; known = tt; valid = tt })
  takes (suc zero ∷ bytes) x fits e =
      let s = bind_ok (read bytes) (λ y. Ok (Some y.0, y.1)) x e in
      let t = f.takes bytes s.0 (IsBytes-rest 1 bytes fits) s.1 in
      subst (λ (y : Option A × List ℕ). Takes (optional write) Any (λ o. IfSome o Is) (1 ∷ bytes) y) (ok_is (Some s.0.0, s.0.1) x s.2) (record { parts = ap (λ (w : List ℕ). 1 ∷ w) t.parts; rest = t.rest; known = tt; valid = t.valid })
  takes (suc (suc b) ∷ bytes) x fits e = absurd (no_value (suc (length bytes)) x (sym (ap (λ (r : Read Bool). r >>= λ some. cond some.0 (read some.1 >>= λ y. Ok (Some y.0, y.1)) (Ok (None, some.1))) (other_flag b bytes)) ∙ e))

  both : (b : Bool) (bytes : List ℕ) → EndsNear m (length bytes) (cond b (read bytes >>= λ x. Ok (Some x.0, x.1)) (Ok (None, bytes)))
  both true bytes = some_near m (length bytes) (read bytes) (f.near bytes)
  both false bytes = record { within = omega arith; near = omega arith }

  near : (bytes : List ℕ) → EndsNear (1 + m) (length bytes) (optional_at read bytes)
  near bytes = near_then 1 m (length bytes) (flag_at bytes) (λ some. cond some.0 (read some.1 >>= λ x. Ok (Some x.0, x.1)) (Ok (None, some.1))) (flag_format.near bytes) (λ some e. both some.0 some.1)
