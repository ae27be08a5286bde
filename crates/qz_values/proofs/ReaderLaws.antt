-- What a function that reads by a format answers is right.
use Rattle.std.proofs.Common.{ℕ, List, Result, Ok, Err}
use Rattle.std.specs.Prelude.{IfOk}
use Rattle.qz_values.specs.declared.faults.Fault.{Fault}
use Rattle.qz_values.specs.Fields.{Read}
use Rattle.qz_values.specs.Reading.{Gives}
use Rattle.qz_values.specs.Formats.{IsBytes, IsFormat, Any}

pub gives_valid : {X A : Type 0} {write : A → List ℕ} {Is : A → Type 0} {read : List ℕ → Read A} {m : ℕ} → IsFormat write Any Is read m → (view : X → A × List ℕ) (bytes : List ℕ) (r : Result X Fault) → IsBytes bytes → Gives view r (read bytes) → IfOk r (λ x. Is (view x).0)
gives_valid f view bytes (Ok x) fits e = (f.takes bytes (view x) fits e).valid
gives_valid f view bytes (Err e) fits given = tt
