-- The line that a reply is printed as.
use Rattle.std.specs.Prelude.{ℕ, ℤ, List, [], ◌∷◌, ◌++◌, Option, Some, None, codes}
use Rattle.std.specs.List.{flat_map}
use Rattle.std.specs.Fmt.{decimal, signed_decimal}
use Rattle.qz_types.specs.Refusals.{number_of}
use Rattle.qz_types.specs.Rows.{MemberData}
use Rattle.qz_types.specs.declared.replies.Taken.{Taken}
use Rattle.qz_types.specs.declared.replies.MovedRow.{MovedRow}
use Rattle.qz_types.specs.declared.keys.Key.{Key}
use Rattle.qz_types.specs.declared.replies.Refusal.{Refusal}
use Rattle.qz_types.specs.declared.replies.Refusal.TheVariants.{Fenced, InUse, Circle, FlagInUse, NotYours, Early, StillFresh, TooMany, Renewed}
use Rattle.qz_types.specs.declared.replies.Reply.{Reply}
use Rattle.qz_types.specs.declared.replies.Reply.TheVariants.{Done, Added, Deleted, Triggered, Joined, Acquired, Fired, Completed, Again, Misfired, Recovered}
use Rattle.qz_steps.specs.declared.steps.StepReply.{StepReply}
use Rattle.qz_steps.specs.declared.steps.StepReply.TheVariants.{Ok, Refused, Fault, Closed, Stopped, Restarted, Shown, Marked, Room}
use Rattle.qz_report.specs.Names.{escaped, key_text}
use Rattle.qz_report.specs.Optional.{next_text}
use Rattle.qz_report.specs.Rooms.{marked_text, room_text}
use Rattle.qz_report.specs.Shown.{shown_text}

-- an epoch, if there is one
abbrev pub live_text : Option ℕ → List ℕ
live_text None = codes "none"
live_text (Some epoch) = decimal epoch

abbrev pub taken_text : Taken → List ℕ
taken_text t = 32 ∷ decimal t.entry ++ 32 ∷ key_text t.trigger ++ 32 ∷ signed_decimal t.next

-- all that were taken, in their order
abbrev pub all_taken_text : List Taken → List ℕ
all_taken_text [] = codes " none"
all_taken_text (t ∷ ts) = flat_map taken_text (t ∷ ts)

-- a trigger that was moved, with its next time
abbrev pub moved_text : MovedRow → List ℕ
moved_text row = 32 ∷ key_text row.trigger ++ 32 ∷ next_text row.next

-- all that were moved, in their order
abbrev pub all_moved_text : List MovedRow → List ℕ
all_moved_text [] = codes " none"
all_moved_text (row ∷ rows) = flat_map moved_text (row ∷ rows)

-- the executions that were ended with their node, and the recovery triggers added for them
abbrev pub recovery_text : ℕ → ℕ → List ℕ
recovery_text executions triggers =
    codes " executions " ++ decimal executions ++ codes " triggers " ++ decimal triggers

abbrev pub joined_text : ℕ → ℕ → ℕ → List ℕ
joined_text epoch executions triggers = codes "joined " ++ decimal epoch ++ recovery_text executions triggers

abbrev pub triggered_text : Key → ℤ → List ℕ
triggered_text trigger next = codes "triggered " ++ key_text trigger ++ 32 ∷ signed_decimal next

abbrev pub fired_text : ℕ → ℤ → ℤ → Option ℤ → List ℕ
fired_text entry scheduled fired next =
    codes "fired " ++ decimal entry ++ codes " scheduled " ++ signed_decimal scheduled
    ++ codes " at " ++ signed_decimal fired ++ codes " next " ++ next_text next

abbrev pub ok_text : Reply → List ℕ
ok_text Done = codes "ok"
ok_text (Added next) = codes "ok next " ++ signed_decimal next
ok_text (Joined epoch executions triggers) = joined_text epoch executions triggers
ok_text (Acquired taken) = codes "acquired" ++ all_taken_text taken
ok_text (Fired entry scheduled fired next trigger job) = fired_text entry scheduled fired next
ok_text (Completed entry) = codes "completed " ++ decimal entry
ok_text (Deleted triggers) = codes "deleted " ++ decimal triggers
ok_text (Triggered trigger next) = triggered_text trigger next
ok_text (Again entry) = codes "again " ++ decimal entry
ok_text (Misfired rows) = codes "misfired" ++ all_moved_text rows
ok_text (Recovered executions triggers) = codes "recovered" ++ recovery_text executions triggers

-- the member whose row it is
abbrev pub owner_text : MemberData → List ℕ
owner_text m = codes " owner " ++ escaped m.node ++ 32 ∷ decimal m.epoch

-- what a refusal has beside its number
abbrev pub refusal_field : Refusal → List ℕ
refusal_field (Fenced live) = codes " live " ++ live_text live
refusal_field (InUse by) = codes " by " ++ decimal by
refusal_field (Circle at) = codes " at " ++ decimal at
refusal_field (FlagInUse entry) = codes " entry " ++ decimal entry
refusal_field (NotYours owner) = owner_text owner
refusal_field (Early next) = codes " next " ++ signed_decimal next
refusal_field (StillFresh until) = codes " until " ++ signed_decimal until
refusal_field (TooMany count) = codes " count " ++ decimal count
refusal_field (Renewed last) = codes " last " ++ signed_decimal last
refusal_field refusal = []

abbrev pub refusal_text : Refusal → List ℕ
refusal_text refusal = codes "refused " ++ decimal (number_of refusal) ++ refusal_field refusal

abbrev pub step_text : StepReply → List ℕ
step_text (Ok reply) = ok_text reply
step_text (Refused refusal) = refusal_text refusal
step_text Fault = codes "fault"
step_text Closed = codes "closed"
step_text Stopped = codes "stopped"
step_text Restarted = codes "restarted"
step_text (Shown shown) = shown_text shown
step_text (Marked marked) = marked_text marked
step_text (Room room) = room_text room

-- the text with its line feed
abbrev pub reply_text : StepReply → List ℕ
reply_text reply = step_text reply ++ 10 ∷ []
