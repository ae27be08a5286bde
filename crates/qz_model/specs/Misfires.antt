-- The transaction of a node that moves the triggers that are misfired.
use Rattle.std.specs.Prelude.{ℤ, List, ◌&&◌, fold, filter, map, take}
use Rattle.qz_civil.specs.declared.timings.Moved.{Moved}
use Rattle.qz_misfire.specs.Table.{moved}
use Rattle.qz_types.specs.Rows.{TriggerData, MemberData}
use Rattle.qz_types.specs.declared.limits.TheConstants.{MISFIRE_LIMIT}
use Rattle.qz_types.specs.declared.replies.MovedRow.{MovedRow}
use Rattle.qz_types.specs.declared.replies.Reply.TheVariants as reply
use Rattle.qz_types.specs.Changes.{moved_trigger}
use Rattle.qz_types.specs.Due.{is_waiting, in_due_order}
use Rattle.qz_types.specs.Tables.{SchedulerTables}
use Rattle.qz_types.specs.Outcomes.{Outcome, accepted, unless}
use Rattle.qz_types.specs.Words.{with_trigger}
use Rattle.qz_model.specs.Acquiring.{next_time}
use Rattle.qz_model.specs.Due.{is_misfired}
use Rattle.qz_model.specs.Membership.{node_refusal}
use Rattle.qz_model.specs.Plan.{next_after}

-- the triggers that a Misfires moves: the first misfired ones that wait, in due order
unfoldable pub misfired_triggers : SchedulerTables → ℤ → List TriggerData
misfired_triggers T m = take MISFIRE_LIMIT (in_due_order (filter (λ t. is_waiting t.state && is_misfired T m t) T.triggers))

-- what the misfire table makes of the trigger
unfoldable pub move_of : SchedulerTables → ℤ → TriggerData → Moved
move_of T m t = moved t.spec.timing (next_after T t.spec m) (next_time t) t.times m

-- the triggers, this one moved
unfoldable pub with_moved : SchedulerTables → ℤ → List TriggerData → TriggerData → List TriggerData
with_moved T m triggers t = with_trigger t.spec.key (moved_trigger (move_of T m t)) triggers

abbrev pub moved_row : SchedulerTables → ℤ → TriggerData → MovedRow
moved_row T m t = record { trigger = t.spec.key; next = (move_of T m t).next }

-- each of these is moved
abbrev pub move_each : SchedulerTables → ℤ → List TriggerData → Outcome
move_each T m ts = accepted (record T { triggers = fold (with_moved T m) T.triggers ts; last_moment = m }) (reply.Misfired (map (moved_row T m) ts))

abbrev pub misfires : SchedulerTables → ℤ → MemberData → Outcome
misfires T m me = unless (node_refusal T me) (move_each T m (misfired_triggers T m))
