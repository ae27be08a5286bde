-- Groups that many payloads go through.
use Rattle.std.specs.Prelude.{◌<◌}
use Rattle.qz_journal.specs.View.{capacity_of}
use Rattle.qz_journal.specs.declared.groups.Group.{Group}
use Rattle.qz_journal.specs.declared.layout.TheConstants.{MAX_BLOCK}

-- it has memory for each payload alone
abbrev pub TakesAny : Group → Type 0
TakesAny g = MAX_BLOCK < capacity_of g
