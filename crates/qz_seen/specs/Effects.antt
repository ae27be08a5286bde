-- What an accepted entry of a run's node does.
use Rattle.std.specs.Prelude.{◌≡◌, ◌≢◌, ℕ, ℤ, []}
use Rattle.qz_types.specs.declared.replies.Reply.{Reply}
use Rattle.qz_types.specs.declared.replies.Refusal.{Refusal}
use Rattle.qz_types.specs.declared.replies.Refusal.TheVariants.{TooMany}
use Rattle.qz_run.specs.declared.commands.NodeCommand.{NodeCommand}
use Rattle.qz_run.specs.Stores.{View, Effect}

-- An accepted entry records its moment, and gives no other node a row, nor makes or ends its membership.
pub record LeavesOthers (n : ℕ) (m : ℤ) (v w : View) : Type 0 where
  pub last : w.last ≡ m
  pub others_free : (k : ℕ) → k ≢ n → v.rows k ≡ [] → w.rows k ≡ []
  pub others_members : (k : ℕ) → k ≢ n → w.member k ≡ v.member k

-- It does to the node's part of the tables what its reply says, and leaves the others.
pub record Does (n : ℕ) (m : ℤ) (command : NodeCommand) (r : Reply) (v w : View) : Type 0 where
  pub effect : Effect n m command r v w
  pub others : LeavesOthers n m v w

-- a limit is in the way
pub record IsTooMany (x : Refusal) : Type 0 where
  pub count : ℕ
  pub refusal : x ≡ TooMany count
