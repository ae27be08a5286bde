-- A record of a row isn't refused.
use Rattle.std.proofs.Common.{◌≡◌, ℕ, Ok, Err}
use Rattle.qz_codec.specs.Reading.{Answers}
use Rattle.qz_codec.specs.declared.errors.ReadError.{ReadError}
use Rattle.qz_codec.specs.declared.errors.ReadError.TheVariants as errors

pub not_both : {A : Type 0} (e : ReadError) (place : ℕ) (x : A) → e ≡ errors.BadRecord place → Answers {A = A} (Err e) (Ok x) → ⊥
not_both (errors.BadRecord at) place x is both = absurd cc
not_both errors.NoMemory place x is both = absurd cc
