-- The reply that a prepared transaction will give.
use Rattle.std.specs.Prelude.{◌≡◌, ⊤, ℤ, Bool, true, false, IsTrue, Option, Some, None}
use Rattle.qz_types.specs.declared.replies.Reply.{Reply}
use Rattle.qz_types.specs.declared.replies.Reply.TheVariants.{Triggered, Acquired, Fired, Misfired}
use Rattle.qz_types.specs.Outcomes.{Outcome, accepted, refused}
use Rattle.qz_schedule.specs.declared.changes.Change.{Change}
use Rattle.qz_schedule.specs.declared.changes.Change.TheVariants.{Manual}

-- the reply has numbers alone, and so takes no memory
abbrev pub is_of_numbers : Reply → Bool
is_of_numbers (Triggered trigger next) = false
is_of_numbers (Acquired taken) = false
is_of_numbers (Fired entry scheduled fired next trigger job) = false
is_of_numbers (Misfired rows) = false
is_of_numbers reply = true

-- the copy is the reply; where there is none, the reply has numbers alone
abbrev pub IsCopyOf : Option Reply → Reply → Type 0
IsCopyOf (Some copy) reply = copy ≡ reply
IsCopyOf None reply = IsTrue (is_of_numbers reply)

-- the copy is that of the reply that an accepted transaction gives
abbrev pub CopiesReply : Option Reply → Outcome → Type 0
CopiesReply copy (accepted T reply) = IsCopyOf copy reply
CopiesReply copy (refused refusal) = ⊤

-- the copy of the reply of a client's command at this moment
abbrev pub triggered : ℤ → Change → Option Reply
triggered m (Manual row key) = Some (Triggered key m)
triggered m change = None
