-- The entries that a run adds to the history of the trigger store.
use Rattle.std.specs.Prelude.{⊤, ◌≡◌, ℕ, ◌<◌, ◌^◌, ℤ, List, [], ◌∷◌}
use Rattle.qz_types.specs.Entries.{EntryData}
use Rattle.qz_types.specs.Tables.{SchedulerTables}
use Rattle.qz_model.specs.History.{tables_left}
use Rattle.qz_model.specs.Transaction.{transaction}
use Rattle.qz_run.specs.declared.commands.NodeCommand.{NodeCommand}
use Rattle.qz_seen.specs.Asking.{entry_of}

-- At these tables the entry is the one by which a node of a run asks for this.
pub record IsAsked (T : SchedulerTables) (e : EntryData) : Type 0 where
  pub at : ℤ
  pub node : ℕ
  pub small : node < 2 ^ 32
  pub command : NodeCommand
  pub entry : e ≡ entry_of T at node command

-- Each of these entries is one, at the tables that those before it leave.
abbrev pub AreAsked : SchedulerTables → List EntryData → Type 0
AreAsked T [] = ⊤
AreAsked T (e ∷ es) = IsAsked T e × AreAsked (tables_left T (transaction T e)) es
