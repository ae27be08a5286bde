-- The laws of what a run added to the trigger store's history, the latest first.
use Rattle.std.specs.Prelude.{⊤, ◌≡◌, ◌⊎◌, ℕ, ◌+◌, ◌<◌, ◌==◌, ℤ, ◌<ℤ◌, ◌≤ℤ◌, List, [], ◌∷◌, Bool, true, false, not, ◌&&◌, ◌||◌, if◌then◌else◌, Option, Some, None, IfSome}
use Rattle.std.specs.Option.{option_map}
use Rattle.std.specs.Int.{int_max, int_min}
use Rattle.std.specs.Ordering.{int_eq}
use Rattle.qz_types.specs.declared.commands.Code.{Code}
use Rattle.qz_types.specs.declared.replies.Reply.{Reply}
use Rattle.qz_types.specs.declared.replies.Reply.TheVariants as reply
use Rattle.qz_node.specs.declared.contexts.JobContext.{JobContext}
use Rattle.qz_node.specs.declared.executing.TheConstants.{REFIRE_LIMIT}
use Rattle.qz_node.specs.Contexts.{context_of}
use Rattle.qz_node.specs.Jobs.{JobMeaning, Executes}
use Rattle.qz_run.specs.declared.commands.NodeCommand.{NodeCommand}
use Rattle.qz_run.specs.declared.commands.NodeCommand.TheVariants as asks
use Rattle.qz_run.specs.declared.commands.Plan.{Plan}
use Rattle.qz_run.specs.Stores.{View, Event}

-- The node is one of the run's.
pub record IsOurs (p : Plan) (n : ℕ) : Type 0 where
  pub below : n < p.nodes

-- how many Fires are among these
abbrev pub fire_in : NodeCommand → ℕ → ℕ
fire_in (asks.Fire entry) n = n + 1
fire_in other n = n

abbrev pub fires : List Event → ℕ
fires [] = 0
fires (e ∷ past) = fire_in e.command (fires past)

-- This node's Join is among these.
abbrev pub is_join : NodeCommand → Bool
is_join asks.Join = true
is_join other = false

abbrev pub joined : ℕ → List Event → Bool
joined n [] = false
joined n (e ∷ past) = ((n == e.node) && is_join e.command) || joined n past

-- An Acquire asks for what is due by now and up to the plan's end, with free hands and where nothing is misfired.
pub record MayAcquire (p : Plan) (n : ℕ) (m no_later : ℤ) (v : View) : Type 0 where
  pub by_now : no_later ≡ int_min p.until m
  pub settled : v.misfired m ≡ false
  pub free_hands : v.rows n ≡ []

-- What a node may ask next: it joins once, and the budget isn't passed.
abbrev pub IsAllowed : Plan → ℕ → ℤ → NodeCommand → View → List Event → Type 0
IsAllowed p n m asks.Join v past = joined n past ≡ false
IsAllowed p n m asks.Leave v past = ⊤
IsAllowed p n m asks.Misfires v past = ⊤
IsAllowed p n m (asks.Acquire no_later) v past = MayAcquire p n m no_later v
IsAllowed p n m (asks.Fire entry) v past = fires past < p.budget
IsAllowed p n m (asks.Complete entry code) v past = ⊤

-- The moment rises only where nothing is left to do up to the former one, and then to the least next time of a WAITING trigger.
pub record Rises (p : Plan) (v : View) (m : ℤ) : Type 0 where
  pub free : (n : ℕ) → IsOurs p n → v.rows n ≡ []
  pub none_due : v.due v.last ≡ false
  pub later : v.last <ℤ m
  pub due : v.due m ≡ true
  pub least : (t : ℤ) → t <ℤ m → v.due t ≡ false
  pub within : m ≤ℤ p.until

-- At which moment an entry may be added: the first one at the later of FROM and the last moment.
abbrev pub IsMoment : Plan → View → ℤ → List Event → Type 0
IsMoment p v m [] = m ≡ int_max v.last p.from
IsMoment p v m (e ∷ past) = (m ≡ v.last) ⊎ Rises p v m

-- which of the two the reply is, a Misfired (true) or an Acquired (false), where it is empty
abbrev pub idle_kind : Reply → Option Bool
idle_kind (reply.Misfired []) = Some true
idle_kind (reply.Acquired []) = Some false
idle_kind other = None

abbrev pub same_kind : Bool → Bool → Bool
same_kind true b = b
same_kind false b = not b

abbrev pub fresh_at : ℕ → ℤ → Bool → Event → Option Bool → Bool → Bool
fresh_at n m kind e None further = true
fresh_at n m kind e (Some k) further = not ((n == e.node) && int_eq m e.moment && same_kind kind k) && further

-- This node had no empty reply of this kind at this moment, or behind it stands a reply that is neither an empty Misfired nor an
-- empty Acquired.
abbrev pub fresh : ℕ → ℤ → Bool → List Event → Bool
fresh n m kind [] = true
fresh n m kind (e ∷ past) = fresh_at n m kind e (idle_kind e.reply) (fresh n m kind past)

-- once more
abbrev pub again : JobContext → JobContext
again context = record context { refires = context.refires + 1 }

abbrev pub context_by : ℕ → Reply → Option JobContext → Option JobContext
context_by x (reply.Fired y scheduled fired next trigger job) before =
    if x == y then context_of (reply.Fired y scheduled fired next trigger job) else before
context_by x (reply.Again y) before = if x == y then option_map again before else before
context_by x other before = before

-- What a job is told at the next execution of this entry: what it was fired with, and how often it was asked for again.
abbrev pub context_in : ℕ → List Event → Option JobContext
context_in x [] = None
context_in x (e ∷ past) = context_by x e.reply (context_in x past)

-- A firing is executed again at most so often.
abbrev pub IsWithin : Reply → List Event → Type 0
IsWithin (reply.Again y) past = IfSome (context_in y past) (λ context. context.refires < REFIRE_LIMIT)
IsWithin other past = ⊤

-- This entry may be added.
pub record IsLawful (p : Plan) (e : Event) (past : List Event) : Type 0 where
  pub ours : IsOurs p e.node
  pub allowed : IsAllowed p e.node e.moment e.command e.before past
  pub moment : IsMoment p e.before e.moment past
  pub no_repeat : IfSome (idle_kind e.reply) (λ kind. fresh e.node e.moment kind past ≡ true)
  pub refires : IsWithin e.reply past

-- Each of these could be added when it was.
abbrev pub Lawful : Plan → List Event → Type 0
Lawful p [] = ⊤
Lawful p (e ∷ past) = IsLawful p e past × Lawful p past

-- For a Complete the first job of its class was called with what it is told next, and its answer counts as the Complete's code.
pub record Calls (x : ℕ) (code : Code) (past : List Event) (ran : List JobMeaning → Type 0) (after : List JobMeaning) : Type 0 where
  pub context : JobContext
  pub mid : List JobMeaning
  pub told : context_in x past ≡ Some context
  pub before : ran mid
  pub executes : Executes context code mid after

abbrev pub RanBy : NodeCommand → List Event → (List JobMeaning → Type 0) → List JobMeaning → Type 0
RanBy (asks.Complete x code) past ran after = Calls x code past ran after
RanBy other past ran after = ran after

-- The jobs became these: one call was made for each Complete.
abbrev pub Ran : List Event → List JobMeaning → List JobMeaning → Type 0
Ran [] before after = after ≡ before
Ran (e ∷ past) before after = RanBy e.command past (Ran past before) after

-- Maybe a last call was made whose Complete wasn't accepted.
abbrev pub RanOrMore : List Event → List JobMeaning → List JobMeaning → Type 0
RanOrMore log before after = Ran log before after ⊎ ((x : ℕ) × (code : Code) × Calls x code log (Ran log before) after)
