-- Whole records: the byte of a version, and then what is written in that version.
use Rattle.std.specs.Prelude.{◌≡◌, ℕ, List, ◌∷◌}
use Rattle.qz_values.specs.declared.versions.Version.{Version}
use Rattle.qz_values.specs.declared.versions.Version.TheVariants.{One, Two}

-- the byte that a record of this version begins with
abbrev pub version_byte : Version → ℕ
version_byte One = 1
version_byte Two = 2

-- a record: the byte of its version, and what is written after it
abbrev pub recorded : {A : Type 0} → (Version → A → List ℕ) → Version → A → List ℕ
recorded write version x = version_byte version ∷ write version x

-- The bytes are a record of the value, in version one or in version two.
pub record IsRecord {A : Type 0} (write : Version → A → List ℕ) (Has : Version → A → Type 0) (bytes : List ℕ) (x : A) : Type 0 where
  pub version : Version
  -- the value has a record of this version
  pub has : Has version x
  pub bytes_are : bytes ≡ recorded write version x
