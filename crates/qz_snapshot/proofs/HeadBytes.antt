-- The bytes of a head: how many they are, and that they are of one head.
use Rattle.std.proofs.Common.{◌≡◌, ℕ, ℤ, ◌+◌, ◌<◌, ◌^◌, List, [], ◌++◌, length, drop, sym, ap, ◌∙◌, arith, append-nil, length-append}
use Rattle.std.specs.Int.{w32, w64}
use Rattle.std.specs.Prelude.{FitsSigned}
use Rattle.qz_values.specs.Fields.{Read, number, integer}
use Rattle.qz_values.specs.Formats.{IsFormat, Any}
use Rattle.qz_values.proofs.Formats.{ok_is}
use Rattle.qz_values.proofs.SingleFields.{wide32, wide64, same64, number_format, integer_format}
use Rattle.qz_snapshot.specs.declared.heads.Head.{Head}
use Rattle.qz_snapshot.specs.declared.heads.Numbers.{Numbers}
use Rattle.qz_snapshot.specs.Heads.{number_bytes, head_bytes, HasWidths}

long32 : (n : ℕ) (more : List ℕ) → length (number w32 n ++ more) ≡ 4 + length more
unfolding number
long32 n more = length-append (number w32 n) more

long64 : (n : ℕ) (more : List ℕ) → length (number w64 n ++ more) ≡ 8 + length more
unfolding number
long64 n more = length-append (number w64 n) more

long_signed : (z : ℤ) (more : List ℕ) → length (integer w64 z ++ more) ≡ 8 + length more
unfolding integer number
long_signed z more = length-append (integer w64 z) more

pub numbers_length : (n : Numbers) → length (number_bytes n) ≡ 40
numbers_length n =
    let last = integer w64 n.horizon in
    let fourth = integer w64 n.last_moment ++ last in
    let third = integer w64 n.threshold ++ fourth in
    let second = number w64 n.next_epoch ++ third in
    omega (arith, long64 n.next_entry second, long64 n.next_epoch third, long_signed n.threshold fourth, long_signed n.last_moment last, long_signed n.horizon [], ap length (append-nil last))

pub head_length : (h : Head) → length (head_bytes h) ≡ 53
head_length h =
    let numbers = number_bytes h.numbers in
    let third = number w32 h.pieces ++ numbers in
    let second = number w32 h.entries ++ third in
    omega (arith, long32 h.payloads second, long32 h.entries third, long32 h.pieces numbers, numbers_length h.numbers)

-- a field at the front, and what follows it
once : {A : Type 0} {write : A → List ℕ} {Is : A → Type 0} {read : List ℕ → Read A} {m : ℕ} → IsFormat write Any Is read m → (a b : A) (x y : List ℕ) → Is a → Is b → write a ++ x ≡ write b ++ y
    → (a ≡ b) × (x ≡ y)
once {A} {write} {Is} {read} f a b x y is_a is_b same =
    let both : ◌≡◌ {A = A × List ℕ} (a, x) (b, y) = ok_is (a, x) (b, y) (sym (f.again a x tt is_a) ∙ ap read same ∙ f.again b y tt is_b) in
    (ap (λ p. p.0) both, ap (λ p. p.1) both)

pub numbers_once : (n m : Numbers) → n.next_entry < 2 ^ 64 → m.next_entry < 2 ^ 64 → n.next_epoch < 2 ^ 64 → m.next_epoch < 2 ^ 64 → FitsSigned w64 n.threshold → FitsSigned w64 m.threshold
    → FitsSigned w64 n.last_moment → FitsSigned w64 m.last_moment → FitsSigned w64 n.horizon → FitsSigned w64 m.horizon → number_bytes n ≡ number_bytes m → n ≡ m
numbers_once n m entry entry' epoch epoch' threshold threshold' moment moment' horizon horizon' same =
    let a = once (number_format wide64) n.next_entry m.next_entry _ _ entry entry' same in
    let b = once (number_format wide64) n.next_epoch m.next_epoch _ _ epoch epoch' a.1 in
    let c = once (integer_format wide64 same64) n.threshold m.threshold _ _ threshold threshold' b.1 in
    let d = once (integer_format wide64 same64) n.last_moment m.last_moment _ _ moment moment' c.1 in
    let e = once (integer_format wide64 same64) n.horizon m.horizon [] [] horizon horizon' (append-nil (integer w64 n.horizon) ∙ d.1 ∙ sym (append-nil (integer w64 m.horizon))) in
    λ i. record { next_entry = a.0 i; next_epoch = b.0 i; threshold = c.0 i; last_moment = d.0 i; horizon = e.0 i }

pub heads_once : (h k : Head) → HasWidths h → HasWidths k → head_bytes h ≡ head_bytes k → h ≡ k
heads_once h k one other same =
    let a = once (number_format wide32) h.payloads k.payloads _ _ one.payloads other.payloads (ap (λ (l : List ℕ). drop 1 l) same) in
    let b = once (number_format wide32) h.entries k.entries _ _ one.entries other.entries a.1 in
    let c = once (number_format wide32) h.pieces k.pieces _ _ one.pieces other.pieces b.1 in
    let numbers = numbers_once h.numbers k.numbers one.next_entry other.next_entry one.next_epoch other.next_epoch one.threshold other.threshold one.last_moment other.last_moment one.horizon other.horizon c.1 in
    λ i. record { payloads = a.0 i; entries = b.0 i; pieces = c.0 i; numbers = numbers i }
