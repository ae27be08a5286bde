-- What a new trigger store has of a stream.
use Rattle.std.specs.Prelude.{ℕ, List, Bool, true, false}
use Rattle.qz_types.specs.Entries.{EntryData}
use Rattle.qz_types.specs.Tables.{SchedulerTables}
use Rattle.qz_model.specs.History.{replay_from}
use Rattle.qz_follow.specs.Promoting.{list_from}
use Rattle.qz_trigger_store.specs.Bytes.{Whole}
use Rattle.qz_trigger_store.specs.Compacting.{compacted_list}
use Rattle.qz_standby.specs.declared.forms.Form.{Form}
use Rattle.qz_standby.specs.declared.forms.Form.TheVariants as form

-- a store of this form has the payloads of records that a follower kept
abbrev pub needs_payloads : Form → Bool
needs_payloads form.Entries = true
needs_payloads form.Snapshot = false

-- the tables that these entries leave, from these on
abbrev pub left_by : SchedulerTables → List EntryData → SchedulerTables
left_by start entries = replay_from start entries

-- the whole list of a store of this form and version: this start and all these entries; or a start with the tables that they leave, and
-- no entries
abbrev pub list_in : Form → ℕ → SchedulerTables → List EntryData → Whole
list_in form.Entries version start entries = list_from version start entries
list_in form.Snapshot version start entries = compacted_list version (left_by start entries)
