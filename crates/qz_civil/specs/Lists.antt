-- A list whose free room is known.
use Rattle.std.specs.Prelude.{ℕ, List}

-- the items, and how many more the list takes without memory
pub record WithRoom (T : Type 0) : Type 0 where
  pub items : List T
  pub room : ℕ
