-- The line on standard error that says where a history begins.
use Rattle.std.specs.Prelude.{ℕ, List, [], ◌∷◌, ◌++◌, codes}
use Rattle.std.specs.Fmt.{decimal}

abbrev pub beginning_text : ℕ → List ℕ
beginning_text number = codes "qz: begins at " ++ decimal number ++ 10 ∷ []
