-- How groups, names and keys are printed, so that each is one word and two keys are never printed alike.
use Rattle.std.specs.Prelude.{ℕ, List, [], ◌∷◌, ◌++◌, Bool, not, ◌&&◌, nat_le, ◌==◌, if◌then◌else◌}
use Rattle.std.specs.List.{flat_map}
use Rattle.percent_encoding.specs.Percent.{percent_encode_byte}
use Rattle.qz_types.specs.declared.keys.Key.{Key}

-- a byte from 21 to 7E hexadecimal other than `/` and `%`
abbrev pub is_plain : ℕ → Bool
is_plain b = nat_le 33 b && nat_le b 126 && not (b == 47) && not (b == 37)

-- a plain byte stands for itself, any other is `%` and its two upper-case hexadecimal digits
abbrev pub escaped_byte : ℕ → List ℕ
escaped_byte b = if is_plain b then b ∷ [] else percent_encode_byte b

abbrev pub escaped : List ℕ → List ℕ
escaped name = flat_map escaped_byte name

-- GROUP/NAME
abbrev pub key_text : Key → List ℕ
key_text k = escaped k.group ++ 47 ∷ escaped k.name
