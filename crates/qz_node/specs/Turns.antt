-- What a node has learnt, and what it does next.
use Rattle.std.specs.Prelude.{⊤, ◌≡◌, ◌≤◌, ℕ, ℤ, pos, ◌+ℤ◌, Bool, true, false, int_le, ◌||◌, if◌then◌else◌, List, [], ◌∷◌, length, Option, Some, None}
use Rattle.std.specs.Int.{int_max, int_min}
use Rattle.qz_types.specs.declared.replies.Taken.{Taken}
use Rattle.qz_types.specs.declared.replies.MovedRow.{MovedRow}
use Rattle.qz_types.specs.declared.replies.Reply.{Reply}
use Rattle.qz_types.specs.declared.replies.Reply.TheVariants as reply
use Rattle.qz_types.specs.declared.replies.Refusal.{Refusal}
use Rattle.qz_types.specs.declared.replies.Refusal.TheVariants as refusal
use Rattle.qz_node.specs.declared.turns.LastHeard.{LastHeard}
use Rattle.qz_node.specs.declared.turns.LastHeard.TheVariants as last
use Rattle.qz_node.specs.declared.turns.Held.{Held}
use Rattle.qz_node.specs.declared.turns.Idle.{Idle}
use Rattle.qz_node.specs.declared.turns.Idle.TheVariants as idle
use Rattle.qz_node.specs.declared.turns.Heard.{Heard}
use Rattle.qz_node.specs.declared.turns.Heard.TheVariants as hears
use Rattle.qz_node.specs.declared.turns.Want.{Want}
use Rattle.qz_node.specs.declared.turns.Want.TheVariants as want

-- What a node has learnt: the moment up to which it works; the entry that it holds, if any, with the last thing heard of
-- it; what it does next while it holds none; and whether it was fenced.
pub record TurnData : Type 0 where
  pub until : ℤ
  pub held : Option Held
  pub idle : Idle
  pub fenced : Bool

-- nothing was learnt
abbrev pub new_turn : ℤ → TurnData
new_turn until = record { until = until; held = None; idle = idle.Misfires; fenced = false }

-- What is wanted of a held entry: after it was acquired it is fired, then executed, once more for each Again, and each
-- execution is completed with the code that it asks for.
abbrev pub wanted_of : ℕ → LastHeard → Want
wanted_of entry last.Acquired = want.Fire entry
wanted_of entry last.Fired = want.Execute entry
wanted_of entry last.Again = want.Execute entry
wanted_of entry (last.Executed code) = want.Complete entry code

abbrev pub wanted_held : Held → Want
wanted_held held = wanted_of held.entry held.last

-- What is wanted while no entry is held: the misfires; or what is due by now, and by `until`; or a rest of at most a second,
-- and nothing more from `until` on.
abbrev pub wanted_idle : ℤ → Idle → ℤ → Want
wanted_idle until idle.Misfires now = want.Misfires
wanted_idle until idle.Acquire now = want.Acquire (int_max (int_min until now) (pos 0))
wanted_idle until idle.Rest now = if int_le until now then want.End else want.Rest (int_min until (now +ℤ pos 1000))

-- what is wanted with this entry in hand, or with none
abbrev pub wanted_with : Option Held → TurnData → ℤ → Want
wanted_with (Some held) turn now = wanted_held held
wanted_with None turn now = wanted_idle turn.until turn.idle now

-- What a node wants at this moment. One that was fenced wants to end.
abbrev pub wanted : TurnData → ℤ → Want
wanted turn now = if turn.fenced then want.End else wanted_with turn.held turn now

-- The entry is held, and this was heard of it last.
abbrev pub holding : ℕ → LastHeard → TurnData → TurnData
holding entry last turn = record turn { held = Some (record { entry = entry; last = last }) }

-- The held entry has ended.
abbrev pub ended : TurnData → TurnData
ended turn = record turn { held = None; idle = idle.Misfires }

-- Where none is due the node rests; else it holds the one that it acquired.
abbrev pub learnt_taken : TurnData → List Taken → TurnData
learnt_taken turn [] = record turn { idle = idle.Rest }
learnt_taken turn (taken ∷ more) = holding taken.entry last.Acquired turn

-- Misfires are asked for until there are none.
abbrev pub learnt_moved : TurnData → List MovedRow → TurnData
learnt_moved turn [] = record turn { idle = idle.Acquire }
learnt_moved turn (moved ∷ more) = turn

-- A reply to what no node core wants changes nothing.
abbrev pub learnt_reply : TurnData → Reply → TurnData
learnt_reply turn (reply.Misfired moved) = learnt_moved turn moved
learnt_reply turn (reply.Acquired taken) = learnt_taken turn taken
learnt_reply turn (reply.Fired entry scheduled fired next trigger job) = holding entry last.Fired turn
learnt_reply turn (reply.Again entry) = holding entry last.Again turn
learnt_reply turn (reply.Completed entry) = ended turn
learnt_reply turn other = turn

-- What is refused of a held entry is its Fire or its Complete.
abbrev pub ends_at_refusal : LastHeard → Bool
ends_at_refusal last.Acquired = true
ends_at_refusal (last.Executed code) = true
ends_at_refusal last.Fired = false
ends_at_refusal last.Again = false

-- A refusal of its Fire or Complete ends a held entry.
abbrev pub refused_with : Option Held → TurnData → TurnData
refused_with None turn = turn
refused_with (Some held) turn = if ends_at_refusal held.last then ended turn else turn

-- the node isn't a member under its epoch
abbrev pub is_fenced : Refusal → Bool
is_fenced (refusal.Fenced live) = true
is_fenced other = false

abbrev pub learnt_refusal : TurnData → Refusal → TurnData
learnt_refusal turn refusal = refused_with turn.held (record turn { fenced = is_fenced refusal || turn.fenced })

-- What a node has learnt after it heard this.
abbrev pub learnt : TurnData → Heard → TurnData
learnt turn (hears.Reply reply) = learnt_reply turn reply.now
learnt turn (hears.Refused refusal) = learnt_refusal turn refusal.now
learnt turn (hears.Executed entry code) = holding entry (last.Executed code) turn
learnt turn hears.Rested = record turn { idle = idle.Misfires }

-- The entry is the held one.
abbrev pub IsHeld : ℕ → Option Held → Type 0
IsHeld entry None = ⊥
IsHeld entry (Some held) = held.entry ≡ entry

-- No entry is held, and this is wanted.
pub record IsIdle (turn : TurnData) (idle : Idle) : Type 0 where
  pub free : turn.held ≡ None
  pub wants : turn.idle ≡ idle

-- Which replies a node may hear: misfired triggers while it wants the misfires, and at most one acquired trigger while it wants
-- to acquire one.
abbrev pub CanHearReply : TurnData → Reply → Type 0
CanHearReply turn (reply.Misfired moved) = IsIdle turn idle.Misfires
CanHearReply turn (reply.Acquired taken) = IsIdle turn idle.Acquire × (length taken ≤ 1)
CanHearReply turn (reply.Fired entry scheduled fired next trigger job) = IsHeld entry turn.held
CanHearReply turn (reply.Again entry) = IsHeld entry turn.held
CanHearReply turn (reply.Completed entry) = IsHeld entry turn.held
CanHearReply turn other = ⊤

-- What a node may hear: an answer to what it wants, and of no entry but the one that it holds.
abbrev pub CanHear : TurnData → Heard → Type 0
CanHear turn (hears.Reply reply) = CanHearReply turn reply.now
CanHear turn (hears.Refused refusal) = ⊤
CanHear turn (hears.Executed entry code) = IsHeld entry turn.held
CanHear turn hears.Rested = ⊤
