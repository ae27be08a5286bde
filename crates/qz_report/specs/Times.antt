-- The line that the fire times of a trigger are printed as.
use Rattle.std.specs.Prelude.{ℕ, ℤ, List, [], ◌∷◌, ◌++◌, codes}
use Rattle.std.specs.List.{flat_map}
use Rattle.std.specs.Fmt.{signed_decimal}
use Rattle.qz_types.specs.declared.keys.Key.{Key}
use Rattle.qz_report.specs.Names.{key_text}

abbrev pub time_text : ℤ → List ℕ
time_text time = 32 ∷ signed_decimal time

-- all times in their order
abbrev pub all_times_text : List ℤ → List ℕ
all_times_text [] = codes " none"
all_times_text (t ∷ ts) = flat_map time_text (t ∷ ts)

-- the key and the times, with the line feed
abbrev pub times_text : Key → List ℤ → List ℕ
times_text key times = codes "times " ++ key_text key ++ all_times_text times ++ 10 ∷ []
