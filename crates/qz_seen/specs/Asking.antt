-- The entries by which the nodes of a run ask.
use Rattle.std.specs.Prelude.{ℕ, ℤ, pos, List, unwrap_or}
use Rattle.qz_types.specs.Entries.{EntryData}
use Rattle.qz_types.specs.Tables.{SchedulerTables}
use Rattle.qz_types.specs.declared.commands.Actor.{Actor}
use Rattle.qz_types.specs.declared.commands.Actor.TheVariants.{Client, Node}
use Rattle.qz_types.specs.declared.commands.Command.{Command}
use Rattle.qz_types.specs.declared.commands.Command.TheVariants.{Join, Leave, Acquire, Fire, Complete, Misfires}
use Rattle.qz_model.specs.Membership.{live_epoch}
use Rattle.qz_run.specs.declared.commands.NodeCommand.{NodeCommand}
use Rattle.qz_run.specs.declared.commands.NodeCommand.TheVariants as asks
use Rattle.qz_seen.specs.Seen.{node_name}

-- the epoch under which the node of this name is a member, or 0
unfoldable pub epoch_of : SchedulerTables → List ℕ → ℕ
epoch_of T name = unwrap_or (live_epoch T name) 0

-- who asks: a node that joins is no member yet
abbrev pub actor_of : SchedulerTables → List ℕ → NodeCommand → Actor
actor_of T name asks.Join = Client
actor_of T name asks.Leave = Node (record { node = name; epoch = epoch_of T name })
actor_of T name asks.Misfires = Node (record { node = name; epoch = epoch_of T name })
actor_of T name (asks.Acquire no_later) = Node (record { node = name; epoch = epoch_of T name })
actor_of T name (asks.Fire entry) = Node (record { node = name; epoch = epoch_of T name })
actor_of T name (asks.Complete entry code) = Node (record { node = name; epoch = epoch_of T name })

-- what it asks for: of triggers at most one, with no window
abbrev pub command_of : List ℕ → NodeCommand → Command
command_of name asks.Join = Join name
command_of name asks.Leave = Leave
command_of name asks.Misfires = Misfires
command_of name (asks.Acquire no_later) = Acquire no_later (pos 0) 1
command_of name (asks.Fire entry) = Fire entry
command_of name (asks.Complete entry code) = Complete entry code

-- the entry of node n
abbrev pub entry_of : SchedulerTables → ℤ → ℕ → NodeCommand → EntryData
entry_of T at n command = record { at = at; actor = actor_of T (node_name n) command; seat = 0; command = command_of (node_name n) command }
