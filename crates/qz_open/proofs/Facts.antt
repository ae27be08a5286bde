-- What one accepted transaction does to executions, as the law needs it.
use Rattle.std.proofs.Common.{◌≡◌, ◌⊎◌, inl, ℕ, ℤ, Bool, true, false, List, Option, sym, ap, ◌∙◌, subst}
use Rattle.qz_types.specs.Rows.{JobData, MemberData, FiredData}
use Rattle.qz_types.specs.States.{is_acquired}
use Rattle.qz_types.specs.Tables.{SchedulerTables}
use Rattle.qz_types.specs.Outcomes.{accepted}
use Rattle.qz_types.specs.Words.{same_text}
use Rattle.qz_types.specs.declared.keys.Key.{Key}
use Rattle.qz_types.specs.declared.commands.Actor.{Actor}
use Rattle.qz_types.specs.declared.commands.Actor.TheVariants.{Node}
use Rattle.qz_types.specs.declared.commands.Code.{Code}
use Rattle.qz_types.specs.declared.commands.Command.{Command}
use Rattle.qz_types.specs.declared.commands.Command.TheVariants.{Join, Complete, Recover}
use Rattle.qz_types.specs.declared.replies.Reply.{Reply}
use Rattle.qz_types.specs.declared.replies.Reply.TheVariants as reply
use Rattle.qz_open.proofs.Lists.{Has}

-- what ends the execution of a row
pub data Ends (who : Actor) (c : Command) (r : Reply) (f : FiredData) : Type 0 where
  completes : (me : MemberData) (entry : ℕ) (code : Code) → who ≡ Node me → c ≡ Complete entry code → r ≡ reply.Completed f.entry → Ends who c r f
  recovers : (me : MemberData) (node : List ℕ) → who ≡ Node me → c ≡ Recover node → same_text node f.node ≡ true → Ends who c r f
  joins : (node : List ℕ) → c ≡ Join node → same_text node f.node ≡ true → Ends who c r f

-- an execution begins under this entry number, of this job
pub record Begins (T : SchedulerTables) (who : Actor) (x : ℕ) (j : JobData) (U : SchedulerTables) : Type 0 where
  pub me : MemberData
  pub by : who ≡ Node me
  pub row : FiredData
  pub stands : Has row U.fired
  pub entry : row.entry ≡ x
  pub node : same_text me.node row.node ≡ true
  pub job : row.job ≡ j.key
  pub executes : is_acquired row.state ≡ false
  pub no_concurrent : row.no_concurrent ≡ j.no_concurrent
  pub is_new : (f : FiredData) → Has f T.fired → x ≡ f.entry → is_acquired f.state ≡ true

-- The row of an execution stands on as it is, or the execution ends; and where the reply says that one begins, one does.
pub record ExecutionFacts (T : SchedulerTables) (who : Actor) (c : Command) (r : Reply) (U : SchedulerTables) : Type 0 where
  pub stays : (f : FiredData) → Has f T.fired → is_acquired f.state ≡ false → Has f U.fired ⊎ Ends who c r f
  pub begins : (x : ℕ) (scheduled at : ℤ) (next : Option ℤ) (trigger : Key) (j : JobData) → r ≡ reply.Fired x scheduled at next trigger j → Begins T who x j U

-- the reply says that an execution begins
abbrev pub is_begun : Reply → Bool
is_begun (reply.Fired x scheduled at next trigger j) = true
is_begun r = false

-- where none does, that is all
pub none_begins : (T U : SchedulerTables) (who : Actor) (r : Reply) → is_begun r ≡ false
    → (x : ℕ) (scheduled at : ℤ) (next : Option ℤ) (trigger : Key) (j : JobData) → r ≡ reply.Fired x scheduled at next trigger j → Begins T who x j U
none_begins T U who r none x scheduled at next trigger j is = let wrong : true ≡ false = ap is_begun (sym is) ∙ none in absurd (cc)

-- where all rows of executions stand on, and none begins
pub steady : (T : SchedulerTables) (who : Actor) (c : Command) (r : Reply) (U : SchedulerTables) → is_begun r ≡ false
    → ((f : FiredData) → Has f T.fired → is_acquired f.state ≡ false → Has f U.fired) → ExecutionFacts T who c r U
steady T who c r U none rows = record { stays = λ f has executes. inl (rows f has executes); begins = none_begins T U who r none }

-- the tables and the reply of an accepted outcome
pub accepted_facts : (T U T' : SchedulerTables) (who : Actor) (c : Command) (s r : Reply) → accepted U s ≡ accepted T' r → ExecutionFacts T who c s U → ExecutionFacts T who c r T'
accepted_facts T U T' who c s r is facts =
    let tables : U ≡ T' = cc in
    let reply : s ≡ r = cc in
    subst (λ (q : Reply). ExecutionFacts T who c q T') reply (subst (λ (V : SchedulerTables). ExecutionFacts T who c s V) tables facts)
