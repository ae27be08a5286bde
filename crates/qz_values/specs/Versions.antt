-- The two versions of records. They differ in few places: which years and moments they may name, and whether an
-- interval's flags are written. Version two names every year and moment that is right at all.
use Rattle.std.specs.Prelude.{ℕ, ◌-◌, ◌^◌, ℤ, Bool, true, nat_le, nat_lt, int_le, List}
use Rattle.qz_civil.specs.Fields.{is_within_words}
use Rattle.qz_civil.specs.declared.limits.TheConstants.{VERSION_ONE_LAST, VERSION_ONE_LAST_YEAR}
use Rattle.qz_values.specs.declared.versions.Version.{Version}
use Rattle.qz_values.specs.declared.versions.Version.TheVariants.{One, Two}

-- a record of this version may name this year
abbrev pub has_year : Version → ℕ → Bool
has_year One year = nat_le year VERSION_ONE_LAST_YEAR
has_year Two year = true

-- the same of a moment, in ms since 1970-01-01T00:00:00Z
abbrev pub has_moment : Version → ℤ → Bool
has_moment One t = int_le t VERSION_ONE_LAST
has_moment Two t = true

-- the same of a set of years, in words of 64 years each from 1970 on
abbrev pub has_years : Version → List ℕ → Bool
has_years One words = is_within_words (VERSION_ONE_LAST_YEAR - 1969) words
has_years Two words = true

-- the same of the third of these words alone
abbrev pub has_third_word : Version → ℕ → Bool
has_third_word One word = nat_lt word (2 ^ (VERSION_ONE_LAST_YEAR - 1969 - 128))
has_third_word Two word = true
