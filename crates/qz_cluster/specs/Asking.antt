-- What questions about the stored rows are answered, and which node goes on under an epoch that it kept.
use Rattle.std.specs.Prelude.{ℕ, ℤ, List, Bool, false, ◌&&◌, is_none, is_some, Option, Some, None, if◌then◌else◌}
use Rattle.qz_types.specs.Rows.{TriggerData, FiredData, MemberData}
use Rattle.qz_types.specs.Tables.{SchedulerTables}
use Rattle.qz_types.specs.Words.{job_of, trigger_of, fired_of, member_of, put_member}
use Rattle.qz_types.specs.declared.replies.Refusal.{Refusal}
use Rattle.qz_types.specs.declared.replies.Refusal.TheVariants.{Fenced}
use Rattle.qz_steps.specs.declared.questions.Question.{Question}
use Rattle.qz_steps.specs.declared.questions.Question.TheVariants.{Job, Trigger, Entry, Next}
use Rattle.qz_steps.specs.declared.questions.Shown.{Shown}
use Rattle.qz_steps.specs.declared.questions.Shown.TheVariants as shown
use Rattle.qz_steps.specs.declared.questions.ShownEntry.{ShownEntry}
use Rattle.qz_model.specs.Membership.{live_epoch, is_live}
use Rattle.qz_tables.specs.Due.{due_first}

-- Questions.

-- a row with its job, which may be deleted
abbrev pub with_job : SchedulerTables → Option FiredData → Option ShownEntry
with_job T None = None
with_job T (Some f) = Some (record { row = f; job = job_of f.job T.jobs })

abbrev pub time_of : Option TriggerData → Option ℤ
time_of None = None
time_of (Some t) = t.next

-- what a question is answered at these tables: the row as it is stored, or none
abbrev pub answer_to : SchedulerTables → Question → Shown
answer_to T (Job key) = shown.Job (job_of key T.jobs)
answer_to T (Trigger key) = shown.Trigger (trigger_of key T.triggers)
answer_to T (Entry entry) = shown.Entry (with_job T (fired_of entry T.fired))
answer_to T Next = shown.Next (time_of (due_first T.triggers))

-- the answer has a row, and so takes memory
abbrev pub has_row : Shown → Bool
has_row (shown.Job job) = is_some job
has_row (shown.Trigger trigger) = is_some trigger
has_row (shown.Entry entry) = is_some entry
has_row (shown.Next next) = false

-- Nodes that go on.

-- the node holds no epoch, and is a member under this one
abbrev pub may_resume : SchedulerTables → List MemberData → List ℕ → ℕ → Bool
may_resume T held node epoch = is_none (member_of node held) && is_live epoch (live_epoch T node)

-- any other is fenced
unfoldable pub resume_refusal : SchedulerTables → List MemberData → List ℕ → ℕ → Option Refusal
resume_refusal T held node epoch = if may_resume T held node epoch then None else Some (Fenced (live_epoch T node))

-- the node holds that epoch then
abbrev pub held_after_resume : List ℕ → ℕ → List MemberData → List MemberData
held_after_resume node epoch held = put_member (record { node = node; epoch = epoch }) held
