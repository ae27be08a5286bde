-- What a run sees of its stores, what its nodes may ask of them, and what each call leaves.
use Rattle.std.specs.Prelude.{⊤, ◌≡◌, ◌≢◌, ℕ, ◌<◌, ℤ, pos, ◌≤ℤ◌, int_le, length, List, [], ◌∷◌, Bool, true, false, Option, Some, None}
use Rattle.qz_civil.specs.declared.limits.TheConstants.{LAST}
use Rattle.qz_types.specs.declared.commands.Code.{Code}
use Rattle.qz_types.specs.declared.commands.Code.TheVariants.{ReExecuteJob}
use Rattle.qz_types.specs.declared.replies.Taken.{Taken}
use Rattle.qz_types.specs.declared.replies.Reply.{Reply}
use Rattle.qz_types.specs.declared.replies.Reply.TheVariants as reply
use Rattle.qz_run.specs.declared.stores.TheConstants.{ROOM, CHECK_IN_INTERVAL}
use Rattle.qz_run.specs.declared.commands.NodeCommand.{NodeCommand}
use Rattle.qz_run.specs.declared.commands.NodeCommand.TheVariants as asks

-- a moment, in ms since 1970-01-01T00:00:00Z
pub record IsTime (m : ℤ) : Type 0 where
  pub low : pos 0 ≤ℤ m
  pub high : m ≤ℤ LAST

-- What a node has acquired or executes: its entry number, which of the two, and the fire time for which it was acquired.
pub record Row : Type 0 where
  pub entry : ℕ
  pub executing : Bool
  pub scheduled : ℤ

abbrev pub acquired : ℕ → ℤ → Row
acquired entry next = record { entry = entry; executing = false; scheduled = next }

abbrev pub executing : ℕ → ℤ → Row
executing entry next = record { entry = entry; executing = true; scheduled = next }

-- What a run sees of the tables: the fired rows of each node; whether a WAITING trigger has a next time up to a moment; whether a
-- WAITING trigger is misfired at a moment; whether a node is a member under the epoch that it holds; and the last moment.
pub record View : Type 0 where
  pub rows : ℕ → List Row
  pub due : ℤ → Bool
  pub misfired : ℤ → Bool
  pub member : ℕ → Bool
  pub last : ℤ

-- an entry that the trigger store accepted, with the tables before it
pub record Event : Type 0 where
  pub before : View
  pub node : ℕ
  pub command : NodeCommand
  pub reply : Reply
  pub moment : ℤ

-- What is asked of a node's state row: its node checks in with an interval, in ms, or it is forgotten.
pub data RowCommand : Type 0 where
  checks_in : ℤ → RowCommand
  forgets : RowCommand

-- an entry that the state store accepted, with its reading of the clock
pub record RowEvent : Type 0 where
  pub node : ℕ
  pub command : RowCommand
  pub at : ℤ

-- Which nodes have a state row, and what the state store accepted since it was opened, the latest first.
pub record RowState : Type 0 where
  pub has : ℕ → Bool
  pub log : List RowEvent

-- What a run sees of the tables, what the trigger store accepted since it was opened, the latest first, and the state rows.
pub record RunState : Type 0 where
  pub view : View
  pub log : List Event
  pub states : RowState

-- the least next time of a WAITING trigger
abbrev pub IsNextDue : View → Option ℤ → Type 0
IsNextDue v None = (t : ℤ) → v.due t ≡ false
IsNextDue v (Some m) = (t : ℤ) → v.due t ≡ int_le m t

-- A member that has left nothing behind may leave.
pub record CanLeave (n : ℕ) (v : View) : Type 0 where
  pub member : v.member n ≡ true
  pub free : v.rows n ≡ []

-- A member with free hands may acquire, where nothing is misfired.
pub record CanAcquire (n : ℕ) (m no_later : ℤ) (v : View) : Type 0 where
  pub time : IsTime no_later
  pub member : v.member n ≡ true
  pub free : v.rows n ≡ []
  pub settled : v.misfired m ≡ false

-- A member may fire the one thing that it has acquired, once it is due.
pub record CanFire (n entry : ℕ) (m : ℤ) (v : View) : Type 0 where
  pub next : ℤ
  pub member : v.member n ≡ true
  pub row : v.rows n ≡ acquired entry next ∷ []
  pub due : next ≤ℤ m

-- A member may complete the one thing that it executes.
pub record CanComplete (n entry : ℕ) (v : View) : Type 0 where
  pub next : ℤ
  pub member : v.member n ≡ true
  pub row : v.rows n ≡ executing entry next ∷ []

-- What node n of a run may ask at moment m.
abbrev pub CanAsk : ℕ → ℤ → NodeCommand → View → Type 0
CanAsk n m asks.Join v = ⊤
CanAsk n m asks.Leave v = CanLeave n v
CanAsk n m asks.Misfires v = v.member n ≡ true
CanAsk n m (asks.Acquire no_later) v = CanAcquire n m no_later v
CanAsk n m (asks.Fire entry) v = CanFire n entry m v
CanAsk n m (asks.Complete entry code) v = CanComplete n entry v

-- The node's part of the tables is as it was.
pub record Keeps (n : ℕ) (v w : View) : Type 0 where
  pub rows : w.rows n ≡ v.rows n
  pub member : w.member n ≡ v.member n

-- The triggers too are as they were.
pub record KeepsAll (n : ℕ) (v w : View) : Type 0 where
  pub rows : w.rows n ≡ v.rows n
  pub member : w.member n ≡ v.member n
  pub due : w.due ≡ v.due
  pub misfired : w.misfired ≡ v.misfired

-- The node is a member, with free hands.
pub record Joins (n : ℕ) (w : View) : Type 0 where
  pub free : w.rows n ≡ []
  pub member : w.member n ≡ true

-- The node is a member no more, and the triggers are as they were.
pub record Leaves (n : ℕ) (v w : View) : Type 0 where
  pub free : w.rows n ≡ []
  pub member : w.member n ≡ false
  pub due : w.due ≡ v.due

-- No WAITING trigger is misfired.
pub record NoneMisfired (n : ℕ) (m : ℤ) (v w : View) : Type 0 where
  pub same : KeepsAll n v w
  pub none : v.misfired m ≡ false

-- No WAITING trigger is due.
pub record TakesNone (n : ℕ) (no_later : ℤ) (v w : View) : Type 0 where
  pub same : KeepsAll n v w
  pub none : v.due no_later ≡ false

-- The node has acquired this.
pub record Takes (n : ℕ) (no_later : ℤ) (taken : Taken) (v w : View) : Type 0 where
  pub due : taken.next ≤ℤ no_later
  pub row : w.rows n ≡ acquired taken.entry taken.next ∷ []
  pub member : w.member n ≡ v.member n

-- The node executes what it had acquired.
pub record Fires (n entry told : ℕ) (m fired scheduled : ℤ) (v w : View) : Type 0 where
  pub entry_is : told ≡ entry
  pub moment : fired ≡ m
  pub row : w.rows n ≡ executing entry scheduled ∷ []
  pub member : w.member n ≡ v.member n

-- It is executed again, exactly where its job asked for that.
pub record Repeats (n entry told : ℕ) (code : Code) (v w : View) : Type 0 where
  pub entry_is : told ≡ entry
  pub asked : code ≡ ReExecuteJob
  pub same : Keeps n v w

-- The node's hands are free again.
pub record Completes (n entry told : ℕ) (code : Code) (v w : View) : Type 0 where
  pub entry_is : told ≡ entry
  pub final : code ≢ ReExecuteJob
  pub free : w.rows n ≡ []
  pub member : w.member n ≡ v.member n

-- What a reply says of its node's part of the tables.
abbrev pub Effect : ℕ → ℤ → NodeCommand → Reply → View → View → Type 0
Effect n m asks.Join (reply.Joined epoch executions triggers) v w = Joins n w
Effect n m asks.Leave reply.Done v w = Leaves n v w
Effect n m asks.Misfires (reply.Misfired []) v w = NoneMisfired n m v w
Effect n m asks.Misfires (reply.Misfired (moved ∷ more)) v w = Keeps n v w
Effect n m (asks.Acquire no_later) (reply.Acquired []) v w = TakesNone n no_later v w
Effect n m (asks.Acquire no_later) (reply.Acquired (taken ∷ [])) v w = Takes n no_later taken v w
Effect n m (asks.Fire entry) (reply.Fired told scheduled fired next trigger job) v w = Fires n entry told m fired scheduled v w
Effect n m (asks.Complete entry code) (reply.Again told) v w = Repeats n entry told code v w
Effect n m (asks.Complete entry code) (reply.Completed told) v w = Completes n entry told code v w
Effect n m command other v w = ⊥

-- The trigger store accepted what the node asked: the entry stands in its history, and the other nodes have acquired nothing.
pub record Accepts (at : ℤ) (n : ℕ) (command : NodeCommand) (reply : Reply) (s t : RunState) : Type 0 where
  pub log : t.log ≡ record { before = s.view; node = n; command = command; reply = reply; moment = at } ∷ s.log
  pub room : length s.log < ROOM
  pub last : t.view.last ≡ at
  pub effect : Effect n at command reply s.view t.view
  pub others_free : (k : ℕ) → k ≢ n → s.view.rows k ≡ [] → t.view.rows k ≡ []
  pub others_members : (k : ℕ) → k ≢ n → t.view.member k ≡ s.view.member k
  pub states : t.states ≡ s.states

-- The state store accepted what was asked of the node's row: afterwards there is one, or there is none.
pub record RowAsked (at : ℤ) (n : ℕ) (command : RowCommand) (stands : Bool) (s t : RunState) : Type 0 where
  pub rest : t ≡ record { view = s.view; log = s.log; states = t.states }
  pub states_log : t.states.log ≡ record { node = n; command = command; at = at } ∷ s.states.log
  pub has : t.states.has n ≡ stands
  pub others : (k : ℕ) → k ≢ n → t.states.has k ≡ s.states.has k

abbrev pub ChecksIn : ℤ → ℕ → RunState → RunState → Type 0
ChecksIn at n s t = RowAsked at n (checks_in CHECK_IN_INTERVAL) true s t

abbrev pub Forgets : ℤ → ℕ → RunState → RunState → Type 0
Forgets at n s t = RowAsked at n forgets false s t
