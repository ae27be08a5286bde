-- Names, other texts and spans of time.
use Rattle.std.proofs.Common.{◌≡◌, ℕ, ◌<◌, ℤ, Bool, true, refl, arith}
use Rattle.std.specs.Int.{Width, w64, byte_len}
use Rattle.qz_civil.specs.Timings.{is_span}
use Rattle.qz_civil.specs.declared.limits.TheConstants.{NAME_LIMIT}
use Rattle.qz_values.specs.Fields.{number, integer, text, IsName, IsNumber, IsSpan, checked, byte_at, number_at, integer_at, name_at, span_at}
use Rattle.qz_values.specs.Formats.{IsFormat, Any}
use Rattle.qz_values.proofs.Formats.{those, same}
use Rattle.qz_values.proofs.SingleFields.{IsWide, one_byte, byte_format, number_format, wide64, same64, integer_format, text_format}

pub name_format : IsFormat text Any IsName name_at 202
name_format = text_format 1 NAME_LIMIT (omega arith)

-- a signed number that a test lets pass
pub tested : (passes : ℤ → Bool) → IsFormat (integer w64) Any (IsNumber w64 passes) (checked passes (integer_at w64)) 8
tested passes = same (those passes (integer_format wide64 same64)) (λ z k. refl) (λ z k p. record { fits = p.fits; passed = p.passed }) (λ z k p. record { fits = p.fits; passed = p.passed })

pub span_format : IsFormat (integer w64) Any IsSpan span_at 8
span_format = tested is_span

-- a number of which only some values are right, and these fit its type
pub narrowed : {w : Width} {limit : ℕ} → IsWide w limit → (passes : ℕ → Bool) → ((n : ℕ) → passes n ≡ true → n < limit) → IsFormat (number w) Any (λ n. passes n ≡ true) (checked passes (number_at w)) (byte_len w)
narrowed wide passes below = same (those passes (number_format wide)) (λ n k. refl) (λ n k p. p.passed) (λ n k p. record { fits = below n p; passed = p })

pub narrow_byte : (passes : ℕ → Bool) → ((n : ℕ) → passes n ≡ true → n < 256) → IsFormat one_byte Any (λ n. passes n ≡ true) (checked passes byte_at) 1
narrow_byte passes below = same (those passes byte_format) (λ n k. refl) (λ n k p. p.passed) (λ n k p. record { fits = below n p; passed = p })
