-- What is known of the outside of a call at one moment.
use Rattle.std.specs.Prelude.{ℕ, ℤ, List, Option, None}
use Rattle.std.specs.Io.KnownBytes.{Keeps}

-- The input that is read, the output that is written and the clock. None is what isn't known: a real object tells
-- nothing, and a call knows nothing of an object that it isn't given.
pub record Outside : Type 0 where
  -- the bytes that are left of the input
  pub left : Option (List ℕ)
  -- all bytes that the output took, and those of them that it handed on
  pub held : Option (List ℕ)
  pub handed : Option (List ℕ)
  -- the readings that the clock gave
  pub readings : Option (List ℤ)

-- all bytes that are held were handed on, where they are known
abbrev pub IsHandedOn : Option (List ℕ) → Option (List ℕ) → Type 0
IsHandedOn held handed = Keeps held handed

-- the same of a call that is given no clock
abbrev pub no_clock : Outside → Outside
no_clock o = record o { readings = None }

-- the same of a call that is given the output alone
abbrev pub only_output : Outside → Outside
only_output o = record o { left = None; readings = None }
