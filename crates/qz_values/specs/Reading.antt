-- What a function that reads answers.
use Rattle.std.specs.Prelude.{◌≡◌, ℕ, Result, Ok, Err}
use Rattle.qz_values.specs.declared.faults.Fault.{Fault}
use Rattle.qz_values.specs.declared.faults.Fault.TheVariants as faults

-- What a function answered is what reading gives, unless memory ran out.
abbrev pub Fails : {Y : Type 0} → Fault → Result Y ℕ → Type 0
Fails faults.NoMemory read = Unit {0}
Fails (faults.Wrong left) read = read ≡ Err left

abbrev pub Gives : {X Y : Type 0} → (X → Y) → Result X Fault → Result Y ℕ → Type 0
Gives view (Ok x) read = read ≡ Ok (view x)
Gives view (Err e) read = Fails e read
