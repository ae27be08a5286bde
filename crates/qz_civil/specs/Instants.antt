-- The timestamps of a local time.
use Rattle.std.specs.Prelude.{◌≡◌, ℕ, ℤ, ◌<ℤ◌, ◌≤ℤ◌, List, Option, Some, None, IsTrue, IfSome, IsSomeAnd, ◌⊎◌}
use Rattle.qz_civil.specs.declared.dates.Civil.{Civil}
use Rattle.qz_civil.specs.declared.stretches.Stretch.{Stretch}
use Rattle.qz_civil.specs.Timings.{is_timestamp}
use Rattle.qz_civil.specs.Zones.{civil, local, stretch_at}

-- t is a timestamp whose local time is c
abbrev pub IsInstant : List Stretch → Civil → ℤ → Type 0
IsInstant zs c t = IsTrue (is_timestamp t) × (civil zs t ≡ c)

-- t is a timestamp at which the local clock shows n
abbrev pub IsShownAt : List Stretch → ℕ → ℤ → Type 0
IsShownAt zs n t = IsTrue (is_timestamp t) × (local zs t ≡ n)

-- t is the first timestamp of the set
pub record IsEarliest (Member : ℤ → Type 0) (t : ℤ) : Type 0 where
  pub member : Member t
  pub earliest : (s : ℤ) → Member s → t ≤ℤ s

-- the set has just these two members or fewer, ascending
pub record AreMembers (Member : ℤ → Type 0) (first second : Option ℤ) : Type 0 where
  pub first_in : IfSome first Member
  pub second_in : IfSome second Member
  pub ascending : IfSome second (λ t. IsSomeAnd first (λ s. s <ℤ t))
  pub all : (t : ℤ) → Member t → (first ≡ Some t) ⊎ (second ≡ Some t)

-- t is a timestamp of the stretch at that place, and the local clock shows n then
pub record IsShownIn (zs : List Stretch) (n place : ℕ) (t : ℤ) : Type 0 where
  pub known : IsTrue (is_timestamp t)
  pub stretch : stretch_at zs t ≡ place
  pub clock : local zs t ≡ n

-- the set has just this member, and none where the answer is None
abbrev pub IsOnly : (ℤ → Type 0) → Option ℤ → Type 0
IsOnly Member None = (t : ℤ) → Member t → ⊥
IsOnly Member (Some t) = Member t × ((s : ℤ) → Member s → s ≡ t)
