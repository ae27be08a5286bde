-- The histories of both stores, as a run sees them.
use Rattle.std.specs.Prelude.{ℕ, ◌-◌, List, [], ◌∷◌, drop}
use Rattle.std.specs.Str.Parse.{digits_value}
use Rattle.qz_types.specs.Entries.{EntryData, StateEntryData}
use Rattle.qz_types.specs.Outcomes.{Outcome, accepted, refused}
use Rattle.qz_types.specs.Tables.{SchedulerTables, recorded_moment}
use Rattle.qz_types.specs.declared.commands.Actor.{Actor}
use Rattle.qz_types.specs.declared.commands.Actor.TheVariants.{Client, Node}
use Rattle.qz_types.specs.declared.commands.Command.{Command}
use Rattle.qz_types.specs.declared.commands.Command.TheVariants.{Join, Leave, Acquire, Fire, Complete}
use Rattle.qz_types.specs.declared.replies.Reply.{Reply}
use Rattle.qz_types.specs.declared.replies.Reply.TheVariants as reply
use Rattle.qz_types.specs.declared.states.StateCommand.{StateCommand}
use Rattle.qz_types.specs.declared.states.StateCommand.TheVariants.{CheckIn, Forget}
use Rattle.qz_model.specs.History.{tables_left}
use Rattle.qz_model.specs.Transaction.{transaction}
use Rattle.qz_run.specs.declared.commands.NodeCommand.{NodeCommand}
use Rattle.qz_run.specs.declared.commands.NodeCommand.TheVariants as asks
use Rattle.qz_run.specs.Stores.{Event, RowCommand, checks_in, forgets, RowEvent}
use Rattle.qz_seen.specs.Seen.{seen}

-- the number of the node of this name: 0 for n1, 1 for n2 and so on
unfoldable pub node_number : List ℕ → ℕ
node_number name = digits_value 10 (drop 1 name) - 1

-- the node that asks: a client asks in the name of a node that joins
abbrev pub asker : Actor → Command → List ℕ
asker Client (Join node) = node
asker Client other = []
asker (Node me) other = me.node

-- what it asks; the other commands aren't those of a run
abbrev pub asked : Command → NodeCommand
asked (Join node) = asks.Join
asked Leave = asks.Leave
asked (Acquire no_later window max) = asks.Acquire no_later
asked (Fire entry) = asks.Fire entry
asked (Complete entry code) = asks.Complete entry code
asked other = asks.Misfires

abbrev pub reply_of : Outcome → Reply
reply_of (accepted next reply) = reply
reply_of (refused refusal) = reply.Done

-- an entry that was accepted at these tables
abbrev pub event_of : SchedulerTables → EntryData → Event
event_of T e = record {
  before = seen T;
  node = node_number (asker e.actor e.command);
  command = asked e.command;
  reply = reply_of (transaction T e);
  moment = recorded_moment T e.at;
}

-- the entries of a history that goes on from these tables, the latest first, before those of the past
abbrev pub events_onto : List Event → SchedulerTables → List EntryData → List Event
events_onto past T [] = past
events_onto past T (e ∷ es) = events_onto (event_of T e ∷ past) (tables_left T (transaction T e)) es

-- the same of the state store
abbrev pub row_command : StateCommand → RowCommand
row_command (CheckIn node interval) = checks_in interval
row_command (Forget node last) = forgets

abbrev pub row_node : StateCommand → List ℕ
row_node (CheckIn node interval) = node
row_node (Forget node last) = node

abbrev pub row_event_of : StateEntryData → RowEvent
row_event_of e = record { node = node_number (row_node e.command); command = row_command e.command; at = e.at }

abbrev pub row_events_onto : List RowEvent → List StateEntryData → List RowEvent
row_events_onto past [] = past
row_events_onto past (e ∷ es) = row_events_onto (row_event_of e ∷ past) es
