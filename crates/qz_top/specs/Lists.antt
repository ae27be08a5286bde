-- What `list` wrote.
use Rattle.std.specs.Prelude.{◌≤◌, ℕ, List, [], length, take}
use Rattle.std.specs.Io.KnownBytes.{Appends}
use Rattle.qz_io.specs.Outside.{Outside, IsHandedOn}
use Rattle.qz_model.specs.History.{replay}
use Rattle.qz_checkin.specs.History.{replay_states}
use Rattle.qz_listing.specs.Listing.{listed}
use Rattle.qz_cluster.specs.Steps.{ClusterState}
use Rattle.qz_top.specs.declared.statuses.Status.{Status}
use Rattle.qz_top.specs.declared.statuses.Status.TheVariants as status

-- The text was written and handed on; or a part of it was written where the output failed, and nothing where there was
-- no memory for it.
abbrev pub WritesText : Status → List ℕ → Outside → Outside → Type 0
WritesText status.Ok text old new = Appends old.held new.held text × IsHandedOn new.held new.handed
WritesText status.WriteFault text old new = (n : ℕ) × (n ≤ length text) × Appends old.held new.held (take n text)
WritesText status.NoMemory text old new = Appends old.held new.held []
WritesText s text old new = ⊥

-- the lines of what both stores hold
abbrev pub lines_of : ClusterState → List ℕ
lines_of S = listed (replay S.triggers.history) (replay_states S.states.history).rows
