-- What holds of a run that is at work.
use Rattle.std.specs.Prelude.{⊤, ◌≡◌, ◌≢◌, ℕ, ◌<◌, ◌≤◌, ℤ, ◌≤ℤ◌, List, [], ◌∷◌, true, false, length}
use Rattle.qz_node.specs.Jobs.{JobMeaning}
use Rattle.qz_run.specs.declared.commands.Plan.{Plan}
use Rattle.qz_run.specs.declared.stores.TheConstants.{ROOM, NODES}
use Rattle.qz_run.specs.Stores.{IsTime, Event, RunState}
use Rattle.qz_run.specs.Laws.{IsMoment, Lawful, fresh, Ran}
use Rattle.qz_run.specs.StateLaws.{LawfulStates}

-- What a run may be told to do.
pub record IsPlan (p : Plan) : Type 0 where
  pub some : 1 ≤ p.nodes
  pub few : p.nodes ≤ NODES
  pub from : IsTime p.from
  pub until : IsTime p.until

-- Nothing was added yet.
pub record IsFresh (s : RunState) : Type 0 where
  pub log : s.log ≡ []
  pub states : s.states.log ≡ []

-- All of these are of this moment or an earlier one.
abbrev pub AreUpTo : ℤ → List Event → Type 0
AreUpTo m [] = ⊤
AreUpTo m (e ∷ past) = (e.moment ≤ℤ m) × AreUpTo m past

-- All that was added is lawful.
pub record IsLawfulRun (p : Plan) (s : RunState) : Type 0 where
  pub entries : Lawful p s.log
  pub states : LawfulStates p s

-- An entry may be added now.
pub record Ready (p : Plan) (now : ℤ) (s : RunState) : Type 0 where
  pub lawful : IsLawfulRun p s
  pub moment : IsMoment p s.view now s.log
  pub clock : s.view.last ≤ℤ now
  pub time : IsTime now
  pub up_to_now : AreUpTo now s.log

-- This node may ask for misfires, and then acquire.
pub record MayAsk (n : ℕ) (now : ℤ) (s : RunState) : Type 0 where
  pub misfires : fresh n now true s.log ≡ true
  pub acquire : fresh n now false s.log ≡ true

-- One node added entries now, but no Join or Leave.
pub record Moves (p : Plan) (n : ℕ) (now : ℤ) (s t : RunState) : Type 0 where
  pub ready : Ready p now t
  pub last : t.view.last ≡ now
  pub free : (k : ℕ) → k ≢ n → s.view.rows k ≡ [] → t.view.rows k ≡ []
  pub members : (k : ℕ) → t.view.member k ≡ s.view.member k
  pub may_ask : (k : ℕ) → k ≢ n → MayAsk k now s → MayAsk k now t
  pub states : t.states ≡ s.states
  pub longer : length s.log < length t.log
  pub room : length s.log < ROOM

-- No job was called.
abbrev pub CallsNone : RunState → RunState → Type 0
CallsNone s t = (before after : List JobMeaning) → Ran s.log before after → Ran t.log before after
