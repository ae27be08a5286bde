-- How a run begins and ends.
use Rattle.std.specs.Prelude.{◌≡◌, ◌⊎◌, ℕ, ◌<◌, ◌≤◌, ℤ, [], length, Bool, true, false}
use Rattle.std.specs.Int.{int_min}
use Rattle.qz_run.specs.declared.commands.Plan.{Plan}
use Rattle.qz_run.specs.Stores.{RowState, RunState}
use Rattle.qz_run.specs.Laws.{IsOurs, fires, joined}
use Rattle.qz_run.specs.StateLaws.{IsReading, checked_in, forgotten}
use Rattle.qz_run.specs.Working.{Ready, MayAsk}

-- So many nodes have a state row, and no other has checked in.
pub record KnownTo (places : ℕ) (states : RowState) : Type 0 where
  pub has : (n : ℕ) → n < places → states.has n ≡ true
  pub none_checked_in : (n : ℕ) → places ≤ n → checked_in n states.log ≡ false
  pub none_forgotten : (n : ℕ) → forgotten n states.log ≡ false

-- So many nodes have joined, and so many have checked in.
pub record Joining (p : Plan) (at : ℤ) (places rows : ℕ) (s : RunState) : Type 0 where
  pub ready : Ready p at s
  pub free : (n : ℕ) → n < places → s.view.rows n ≡ []
  pub members : (n : ℕ) → n < places → s.view.member n ≡ true
  pub may_ask : (n : ℕ) → MayAsk n at s
  pub not_joined : (n : ℕ) → places ≤ n → joined n s.log ≡ false
  pub none_fired : fires s.log ≡ 0
  pub longer : places ≤ length s.log
  pub known : KnownTo rows s.states
  pub reading : IsReading p at s.view s.log

-- The state rows of so many nodes are gone, and the others have theirs.
pub record KnownFrom (p : Plan) (places : ℕ) (states : RowState) : Type 0 where
  pub gone : (n : ℕ) → n < places → states.has n ≡ false
  pub has : (n : ℕ) → IsOurs p n → places ≤ n → states.has n ≡ true
  pub none_forgotten : (n : ℕ) → places ≤ n → forgotten n states.log ≡ false

-- So many nodes have left, and so many are forgotten.
pub record Leaving (p : Plan) (at : ℤ) (places forgot : ℕ) (s : RunState) : Type 0 where
  pub ready : Ready p at s
  pub free : (n : ℕ) → IsOurs p n → s.view.rows n ≡ []
  pub gone : (n : ℕ) → n < places → s.view.member n ≡ false
  pub members : (n : ℕ) → IsOurs p n → places ≤ n → s.view.member n ≡ true
  pub known : KnownFrom p forgot s.states

-- All may ask, or nothing is due by now.
abbrev pub MayGoOn : Plan → ℤ → RunState → Type 0
MayGoOn p at s = ((n : ℕ) → IsOurs p n → MayAsk n at s) ⊎ (s.view.due (int_min p.until at) ≡ false)

-- The work has ended: the budget is spent and something is due up to the plan's end, or nothing is due.
abbrev pub IsDone : Plan → Bool → RunState → Type 0
IsDone p true s = (s.view.due p.until ≡ true) × (fires s.log ≡ p.budget)
IsDone p false s = s.view.due p.until ≡ false

-- How a run ends: its work has ended, and its nodes have left nothing behind, neither fired rows nor memberships nor state rows.
pub record Ends (p : Plan) (spent : Bool) (s : RunState) : Type 0 where
  pub done : IsDone p spent s
  pub free : (n : ℕ) → IsOurs p n → s.view.rows n ≡ []
  pub gone : (n : ℕ) → IsOurs p n → s.view.member n ≡ false
  pub forgotten : (n : ℕ) → IsOurs p n → s.states.has n ≡ false
