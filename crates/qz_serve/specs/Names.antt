-- The names that a call has of its nodes.
use Rattle.std.specs.Prelude.{ℕ, List, [], ◌∷◌, ◌++◌}
use Rattle.qz_serve.specs.declared.names.Ours.{Ours}

-- all of them, that of the node that works at the end the last
abbrev pub ours_of : Ours → List (List ℕ)
ours_of o = o.nodes.items ++ o.main ∷ []
