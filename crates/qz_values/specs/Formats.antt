-- What a reader and the bytes of a type have to do with each other.
use Rattle.std.specs.Prelude.{◌≡◌, ℕ, ◌+◌, ◌<◌, ◌≤◌, List, ◌++◌, length, get_or, Ok, Err}
use Rattle.qz_values.specs.Fields.{Read}

-- all values alike
abbrev pub Any : {A : Type 0} → A → Type 0
Any x = Unit {0}

abbrev pub IsBytes : List ℕ → Type 0
IsBytes bytes = (i : ℕ) → get_or bytes i 0 < 256

-- How much a reader passed over: of size bytes at most most.
pub record IsNear (most size left : ℕ) : Type 0 where
  pub within : left ≤ size
  pub near : size ≤ left + most

abbrev pub EndsNear : {A : Type 0} → ℕ → ℕ → Read A → Type 0
EndsNear most size (Ok x) = IsNear most size (length x.1)
EndsNear most size (Err left) = IsNear most size left

-- what a reader took from the front
pub record Takes {A : Type 0} (write : A → List ℕ) (Known Is : A → Type 0) (bytes : List ℕ) (x : A × List ℕ) : Type 0 where
  pub parts : bytes ≡ write x.0 ++ x.1
  pub rest : IsBytes x.1
  pub known : Known x.0
  pub valid : Is x.0

-- Of the values for which Known holds, those with Is are written and read so, and none else is read.
pub record IsFormat {A : Type 0} (write : A → List ℕ) (Known Is : A → Type 0) (read : List ℕ → Read A) (most : ℕ) : Type 0 where
  pub again : (x : A) (rest : List ℕ) → Known x → Is x → read (write x ++ rest) ≡ Ok (x, rest)
  pub takes : (bytes : List ℕ) (x : A × List ℕ) → IsBytes bytes → read bytes ≡ Ok x → Takes write Known Is bytes x
  pub near : (bytes : List ℕ) → EndsNear most (length bytes) (read bytes)
