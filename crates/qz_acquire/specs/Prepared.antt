-- What is prepared of a command of a node that takes triggers, and what comes of it.
use Rattle.std.specs.Prelude.{◌≡◌, ⊤, ◌+◌, ◌≤◌, ℤ, List, fold, length, Option, Some, None}
use Rattle.qz_types.specs.Changes.{in_state, after_fire, begun}
use Rattle.qz_types.specs.Rows.{TriggerData, FiredData}
use Rattle.qz_types.specs.Entries.{EntryData}
use Rattle.qz_types.specs.declared.limits.TheConstants.{NUMBER_LIMIT}
use Rattle.qz_types.specs.declared.replies.Reply.TheVariants as reply
use Rattle.qz_types.specs.declared.triggers.TriggerState.TheVariants as state
use Rattle.qz_types.specs.Tables.{SchedulerTables, recorded_moment}
use Rattle.qz_types.specs.Outcomes.{Outcome, accepted}
use Rattle.qz_types.specs.Words.{with_trigger, fired_of, with_fired, without_fired}
use Rattle.qz_tables.specs.Contents.{TablesData}
use Rattle.qz_model.specs.Firing.{fired_state, with_blocked, without_siblings}
use Rattle.qz_model.specs.Transaction.{transaction}
use Rattle.qz_acquire.specs.Choosing.{with_row, AreNew}
use Rattle.qz_acquire.specs.Moves.{with_move, AreMovable}
use Rattle.qz_acquire.specs.declared.changes.Change.{Change}
use Rattle.qz_acquire.specs.declared.changes.Change.TheVariants.{Acquire, Misfires, Release, Fire}

-- the triggers, where that of the row waits again, if there is a row
abbrev pub given_back : Option FiredData → List TriggerData → List TriggerData
given_back None triggers = triggers
given_back (Some f) triggers = with_trigger f.trigger (in_state state.Waiting) triggers

-- what the change comes to when it is committed at this moment
abbrev pub committed : SchedulerTables → ℤ → Change → Outcome
committed T m (Acquire rows taken) = accepted (record (fold with_row T rows) { last_moment = m }) (reply.Acquired taken)
committed T m (Misfires moves rows) = accepted (record T { triggers = fold with_move T.triggers moves; last_moment = m }) (reply.Misfired rows)
committed T m (Release entry) = accepted (record T {
  triggers = given_back (fired_of entry T.fired) T.triggers;
  fired = without_fired entry T.fired;
  last_moment = m;
}) reply.Done
committed T m (Fire one) = accepted (record T {
  triggers = with_trigger one.trigger (after_fire one.next (fired_state one.next one.job.no_concurrent)) (with_blocked one.job.no_concurrent one.job.key T.triggers);
  fired = without_siblings one.job.no_concurrent one.job.key (with_fired one.entry (begun m one.job.no_concurrent one.job.requests_recovery) T.fired);
  last_moment = m;
}) (reply.Fired one.entry one.scheduled m one.next one.trigger one.job)

-- each row has a new entry number, the numbers stay within their limit, and there is memory for the rows
pub record CanGrant (T : TablesData) (rows : List FiredData) : Type 0 where
  pub new : AreNew T.tables rows
  pub numbers : T.tables.next_entry + length rows ≤ NUMBER_LIMIT
  pub room : length rows ≤ T.spare.fired

-- the change can be committed to these tables without memory
abbrev pub CanCommit : TablesData → Change → Type 0
CanCommit T (Acquire rows taken) = CanGrant T rows
CanCommit T (Misfires moves rows) = AreMovable T.tables.triggers moves
CanCommit T (Release entry) = ⊤
CanCommit T (Fire one) = ⊤

-- the entry's transaction is accepted and comes to just what the change comes to, which can be committed
pub record Prepares (T : TablesData) (e : EntryData) (change : Change) : Type 0 where
  pub outcome : transaction T.tables e ≡ committed T.tables (recorded_moment T.tables e.at) change
  pub possible : CanCommit T change
