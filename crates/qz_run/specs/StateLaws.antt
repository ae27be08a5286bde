-- The laws of what a run added to the state store's history, the latest first, and why a run stops.
use Rattle.std.specs.Prelude.{⊤, ◌≡◌, ◌⊎◌, ℕ, ◌==◌, ℤ, List, [], ◌∷◌, Bool, true, false, ◌&&◌, ◌||◌}
use Rattle.std.specs.Int.{int_max}
use Rattle.qz_run.specs.declared.commands.NodeCommand.{NodeCommand}
use Rattle.qz_run.specs.declared.commands.Declined.{Declined}
use Rattle.qz_run.specs.declared.commands.Plan.{Plan}
use Rattle.qz_run.specs.declared.stores.TheConstants.{CHECK_IN_INTERVAL}
use Rattle.qz_run.specs.Stores.{View, Event, RowCommand, checks_in, forgets, RowEvent, RunState}
use Rattle.qz_run.specs.Laws.{IsOurs, IsAllowed, IsMoment}

-- This was the last moment before one of these entries.
abbrev pub WasLastIn : ℤ → List Event → Type 0
WasLastIn m [] = ⊥
WasLastIn m (e ∷ past) = (m ≡ e.before.last) ⊎ WasLastIn m past

-- A reading that the run's clock shows: the later of FROM and the last moment, as this is or as it was before one of these entries.
pub record IsReading (p : Plan) (at : ℤ) (v : View) (log : List Event) : Type 0 where
  pub last : ℤ
  pub was : (last ≡ v.last) ⊎ WasLastIn last log
  pub reading : at ≡ int_max last p.from

-- This node's CheckIn is among these; its Forget is.
abbrev pub is_check_in : RowCommand → Bool
is_check_in (checks_in interval) = true
is_check_in forgets = false

abbrev pub is_forget : RowCommand → Bool
is_forget (checks_in interval) = false
is_forget forgets = true

abbrev pub checked_in : ℕ → List RowEvent → Bool
checked_in n [] = false
checked_in n (e ∷ past) = ((n == e.node) && is_check_in e.command) || checked_in n past

abbrev pub forgotten : ℕ → List RowEvent → Bool
forgotten n [] = false
forgotten n (e ∷ past) = ((n == e.node) && is_forget e.command) || forgotten n past

-- A node checks in at most once, with the interval of a run, and it is forgotten at most once.
abbrev pub IsRowAllowed : ℕ → RowCommand → List RowEvent → Type 0
IsRowAllowed n (checks_in interval) past = (interval ≡ CHECK_IN_INTERVAL) × (checked_in n past ≡ false)
IsRowAllowed n forgets past = forgotten n past ≡ false

-- This entry may be added to the state store.
pub record IsLawfulRow (p : Plan) (e : RowEvent) (past : List RowEvent) (v : View) (log : List Event) : Type 0 where
  pub ours : IsOurs p e.node
  pub allowed : IsRowAllowed e.node e.command past
  pub reading : IsReading p e.at v log

-- Each of these could be added.
abbrev pub LawfulRows : Plan → List RowEvent → View → List Event → Type 0
LawfulRows p [] v log = ⊤
LawfulRows p (e ∷ past) v log = IsLawfulRow p e past v log × LawfulRows p past v log

-- All that a run added to the state store is lawful.
abbrev pub LawfulStates : Plan → RunState → Type 0
LawfulStates p s = LawfulRows p s.states.log s.view s.log

-- The trigger store declines what the run may ask next, as it stands.
pub record CommandDeclined (p : Plan) (declines : ℕ → ℤ → NodeCommand → Declined → Type 0) (why : Declined) (s : RunState) : Type 0 where
  pub node : ℕ
  pub at : ℤ
  pub command : NodeCommand
  pub ours : IsOurs p node
  pub allowed : IsAllowed p node at command s.view s.log
  pub moment : IsMoment p s.view at s.log
  pub declined : declines node at command why

-- The state store does.
pub record RowDeclined (p : Plan) (declines : ℕ → ℤ → RowCommand → Declined → Type 0) (why : Declined) (s : RunState) : Type 0 where
  pub node : ℕ
  pub at : ℤ
  pub command : RowCommand
  pub ours : IsOurs p node
  pub allowed : IsRowAllowed node command s.states.log
  pub reading : IsReading p at s.view s.log
  pub declined : declines node at command why

-- Why a run stops: one of its stores, as it was left, declines what the run may ask next.
abbrev pub Stopped : Plan → (ℕ → ℤ → NodeCommand → Declined → Type 0) → (ℕ → ℤ → RowCommand → Declined → Type 0) → Declined → RunState → Type 0
Stopped p declines declines_row why s = CommandDeclined p declines why s ⊎ RowDeclined p declines_row why s
