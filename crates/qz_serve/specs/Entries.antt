-- What a node's scheduler thread adds to the trigger store's history.
use Rattle.std.specs.Prelude.{⊤, ◌≡◌, ◌≤ℤ◌, ℕ, ℤ, pos}
use Rattle.std.specs.Int.{int_max}
use Rattle.qz_types.specs.Entries.{EntryData}
use Rattle.qz_types.specs.Rows.{MemberData}
use Rattle.qz_types.specs.declared.commands.Actor.TheVariants.{Node}
use Rattle.qz_types.specs.declared.commands.Command.{Command}
use Rattle.qz_types.specs.declared.commands.Command.TheVariants as asks

abbrev pub entry_by : ℤ → MemberData → ℕ → Command → EntryData
entry_by at me number command = record { at = at; actor = Node me; seat = number; command = command }

-- An Acquire takes one trigger that is due by the moment up to which the node works, or by 0 where that is later.
pub record TakesOne (until no_later window : ℤ) (max : ℕ) : Type 0 where
  pub due : no_later ≤ℤ int_max until (pos 0)
  pub no_window : window ≡ pos 0
  pub one : max ≡ 1

-- what a node that works up to this moment asks of the trigger store
abbrev pub IsWork : ℤ → Command → Type 0
IsWork until asks.Misfires = ⊤
IsWork until (asks.Acquire no_later window max) = TakesOne until no_later window max
IsWork until (asks.Fire entry) = ⊤
IsWork until (asks.Complete entry code) = ⊤
IsWork until other = ⊥

-- What a node asks for that doesn't end an execution.
abbrev pub IsPlain : Command → Type 0
IsPlain asks.Misfires = ⊤
IsPlain (asks.Acquire no_later window max) = ⊤
IsPlain (asks.Fire entry) = ⊤
IsPlain other = ⊥

-- A node's scheduler thread asked for it under this number, at a reading that its clock shows.
pub record IsScheduled (shows : ℤ → Type 0) (until : ℤ) (me : MemberData) (number : ℕ) (e : EntryData) : Type 0 where
  pub by : e.actor ≡ Node me
  pub under : e.seat ≡ number
  pub asks : IsWork until e.command
  pub shown : shows e.at
