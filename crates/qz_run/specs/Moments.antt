-- What a run comes to at one moment.
use Rattle.std.specs.Prelude.{◌≡◌, ◌⊎◌, ℕ, ◌<◌, ◌≤◌, ℤ, List, [], length, Bool, true, false, slice_index_or}
use Rattle.std.specs.Int.{int_min}
use Rattle.qz_run.specs.declared.commands.Plan.{Plan}
use Rattle.qz_run.specs.declared.stores.TheConstants.{ROOM}
use Rattle.qz_run.specs.declared.commands.Passed.{Passed}
use Rattle.qz_run.specs.declared.commands.Passed.TheVariants as passed
use Rattle.qz_run.specs.Stores.{RowState, RunState}
use Rattle.qz_run.specs.Laws.{IsOurs, fires}
use Rattle.qz_run.specs.StateLaws.{forgotten}
use Rattle.qz_run.specs.Working.{Ready, MayAsk}

-- All nodes have a state row, and none was forgotten.
pub record AllKnown (p : Plan) (states : RowState) : Type 0 where
  pub has : (n : ℕ) → IsOurs p n → states.has n ≡ true
  pub none_forgotten : (n : ℕ) → forgotten n states.log ≡ false

-- All nodes are members with free hands.
pub record Working (p : Plan) (at : ℤ) (s : RunState) : Type 0 where
  pub ready : Ready p at s
  pub free : (n : ℕ) → IsOurs p n → s.view.rows n ≡ []
  pub members : (n : ℕ) → IsOurs p n → s.view.member n ≡ true
  pub known : AllKnown p s.states

-- this node rests
abbrev pub rests : List Bool → ℕ → Bool
rests resting n = slice_index_or resting n false

-- Who doesn't rest may ask, and once all rest nothing is due.
pub record Passes (p : Plan) (at : ℤ) (resting : List Bool) (s : RunState) : Type 0 where
  pub working : Working p at s
  pub may_ask : (n : ℕ) → IsOurs p n → rests resting n ≡ false → MayAsk n at s
  pub quiet : ((n : ℕ) → IsOurs p n → rests resting n ≡ true) → s.view.due (int_min p.until at) ≡ false

-- A node that didn't rest had a round.
pub record TurnTaken (p : Plan) (at : ℤ) (fired : ℕ) (resting : List Bool) (s t : RunState) : Type 0 where
  pub passes : Passes p at resting t
  pub fired_is : fired ≡ fires t.log
  pub within : fired ≤ p.budget
  pub longer : length s.log < length t.log
  pub room : length s.log < ROOM

-- No node had a round so far, since all of them rest.
pub record NoTurn (places former fired : ℕ) (were resting : List Bool) (s t : RunState) : Type 0 where
  pub same : t ≡ s
  pub fired_is : fired ≡ former
  pub kept : resting ≡ were
  pub rest : (n : ℕ) → n < places → rests resting n ≡ true

-- Some had.
pub record SomeTurn (s t : RunState) : Type 0 where
  pub longer : length s.log < length t.log
  pub room : length s.log < ROOM

abbrev pub PassSoFar : Bool → ℕ → ℕ → ℕ → List Bool → List Bool → RunState → RunState → Type 0
PassSoFar true places former fired were resting s t = SomeTurn s t
PassSoFar false places former fired were resting s t = NoTurn places former fired were resting s t

-- What a pass over all nodes comes to: a node had a round, or all rest.
pub record PassActive (p : Plan) (at : ℤ) (fired : ℕ) (resting : List Bool) (s t : RunState) : Type 0 where
  pub taken : TurnTaken p at fired resting s t
  pub within : fired < p.budget

pub record PassSpent (p : Plan) (at : ℤ) (fired : ℕ) (resting : List Bool) (s t : RunState) : Type 0 where
  pub taken : TurnTaken p at fired resting s t
  pub spent : p.budget ≤ fired

abbrev pub HasPassed : Plan → ℤ → Passed → ℕ → ℕ → List Bool → List Bool → RunState → RunState → Type 0
HasPassed p at passed.Spent former fired were resting s t = PassSpent p at fired resting s t
HasPassed p at passed.Active former fired were resting s t = PassActive p at fired resting s t
HasPassed p at passed.Quiet former fired were resting s t = NoTurn p.nodes former fired were resting s t

-- What a moment comes to: the budget is spent, or nothing more is due.
pub record HasWorked (p : Plan) (at : ℤ) (fired : ℕ) (s t : RunState) : Type 0 where
  pub working : Working p at t
  pub fired_is : fired ≡ fires t.log
  pub within : fired ≤ p.budget
  pub quiet : fired < p.budget → t.view.due (int_min p.until at) ≡ false
  pub longer : length s.log < length t.log
  pub room : length s.log < ROOM

-- At the loop's head no node has begun to rest, or there are entries.
abbrev pub HasBegun : Plan → List Bool → RunState → RunState → Type 0
HasBegun p resting s t = (((n : ℕ) → IsOurs p n → rests resting n ≡ false) × (t ≡ s)) ⊎ SomeTurn s t
