-- What is read of a line, up to the first fault.
use Rattle.std.specs.Prelude.{◌≡◌, Option, Some, None, Result, Ok, Err, IsOk}
use Rattle.qz_job_json.specs.declared.faults.LineError.{LineError}
use Rattle.qz_job_json.specs.declared.faults.LineError.TheVariants.{Bad, NoMemory}
use Rattle.qz_job_json.specs.declared.faults.LineFault.{LineFault}
use Rattle.qz_job_json.specs.declared.faults.LineFault.TheVariants.{Shape}

-- what is there goes on, and the first fault is the answer
infixl 10 ◌>>=◌
abbrev pub ◌>>=◌ : {A B : Type 0} → Result A LineFault → (A → Result B LineFault) → Result B LineFault
(Ok x) >>= f = f x
(Err e) >>= f = Err e

abbrev pub or_shape : {A : Type 0} → Option A → Result A LineFault
or_shape None = Err Shape
or_shape (Some x) = Ok x

-- What a reader answers of what is meant: it, or its fault. Memory runs out only where there is no fault.
abbrev pub ReadsAs : {A : Type 0} → Result A LineError → Result A LineFault → Type 0
ReadsAs (Ok x) meaning = meaning ≡ Ok x
ReadsAs (Err (Bad fault)) meaning = meaning ≡ Err fault
ReadsAs (Err NoMemory) meaning = IsOk meaning
