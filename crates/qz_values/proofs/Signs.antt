-- A signed number that is passed on is the same number, and what was put after what was put.
use Rattle.std.proofs.Common.{append_assoc}
use Rattle.std.proofs.lemmas.Int.{to_z-of_z}

pub ruleset signs = (to_z-of_z, append_assoc)
