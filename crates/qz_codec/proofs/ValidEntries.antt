-- An entry that has a record is valid.
use Rattle.std.proofs.Common.{◌≡◌, ℕ, ℤ, List, [], ◌∷◌, length, nat_le, nat_lt, ◌&&◌, true, IsTrue, Some, None, refl, arith}
use Rattle.std.specs.Prelude.{Option, IfSome}
use Rattle.std.specs.List.{AllByRecursion}
use Rattle.std.proofs.lemmas.Bool.{and_parts, and_from}
use Rattle.qz_civil.specs.Timings.{is_name, is_span, is_every, is_daily_time, is_day_set, is_kind, is_misfire, is_end, is_timing}
use Rattle.qz_civil.specs.declared.limits.TheConstants.{NAME_LIMIT}
use Rattle.qz_civil.specs.Fields.{is_cron_fields}
use Rattle.qz_civil.specs.declared.timings.Kind.{Kind}
use Rattle.qz_civil.specs.declared.timings.Kind.TheVariants.{Simple, Cron, Interval, Daily}
use Rattle.qz_civil.specs.declared.timings.Timing.{Timing}
use Rattle.qz_types.specs.Rows.{is_calendar, is_key, is_node, is_trigger_spec}
use Rattle.qz_types.specs.Entries.{EntryData, is_command, is_of_node, has_actor, is_entry}
use Rattle.qz_types.specs.declared.limits.TheConstants.{ACQUIRE_LIMIT, NODE_LIMIT}
use Rattle.qz_types.specs.declared.keys.Key.{Key}
use Rattle.qz_types.specs.declared.triggers.TriggerSpec.{TriggerSpec}
use Rattle.qz_types.specs.declared.commands.Command.{Command}
use Rattle.qz_types.specs.declared.commands.Command.TheVariants as command
use Rattle.qz_values.specs.declared.versions.Version.{Version}
use Rattle.qz_values.specs.Fields.{is_long, IsText, IsName, IsSpan}
use Rattle.qz_values.specs.Timings.{IsKind, IsTiming}
use Rattle.qz_codec.specs.Values.{IsKey, IsSpec, IsCommand, IsEntry}

-- a text that isn't empty, and no longer than this
not_empty : (n most : ℕ) → is_long 1 most n ≡ true → (nat_lt 0 n && nat_le n most) ≡ true
not_empty n most is =
    let parts = and_parts (nat_le 1 n) (nat_le n most) is in
    and_from (nat_lt 0 n) (nat_le n most) (let some : nat_le 1 n ≡ true = parts.0 in grind arith) parts.1

name_valid : (s : List ℕ) → IsName s → is_name s ≡ true
name_valid s is = not_empty (length s) NAME_LIMIT is.size

node_valid : (s : List ℕ) → IsText 1 NODE_LIMIT s → is_node s ≡ true
node_valid s is = not_empty (length s) NODE_LIMIT is.size

key_valid : (k : Key) → IsKey k → is_key k ≡ true
key_valid k is = and_from (is_name k.group) (is_name k.name) (name_valid k.group is.group) (name_valid k.name is.name)

calendar_valid : (o : Option (List ℕ)) → IfSome o IsName → is_calendar o ≡ true
calendar_valid None is = refl
calendar_valid (Some name) is = name_valid name is

end_valid : (o : Option ℤ) → IfSome o IsSpan → is_end o ≡ true
end_valid None is = refl
end_valid (Some end) is = is.passed

kind_valid : (version : Version) (k : Kind) → IsKind version k → is_kind k ≡ true
kind_valid version (Simple interval count) is = is.1.passed
kind_valid version (Cron fields zone) is = and_from (is_cron_fields fields) (is_name zone) is.fields (name_valid zone is.zone)
kind_valid version (Interval unit every zone preserve skip) is = and_from (is_every every) (is_name zone) is.every (name_valid zone is.zone)
kind_valid version (Daily unit every from to days zone) is =
    and_from (is_daily_time unit every from to) (is_day_set days && is_name zone) is.time (and_from (is_day_set days) (is_name zone) is.days (name_valid zone is.zone))

timing_valid : (version : Version) (t : Timing) → IsTiming version t → is_timing t ≡ true
timing_valid version t is =
    let first = and_from (is_kind t.kind) (is_misfire t.kind t.misfire) (kind_valid version t.kind is.kind) is.misfire.passed in
    let begun = and_from (is_kind t.kind && is_misfire t.kind t.misfire) (is_span t.start) first is.start.passed in
    and_from (is_kind t.kind && is_misfire t.kind t.misfire && is_span t.start) (is_end t.end) begun (end_valid t.end is.end)

spec_valid : (version : Version) (s : TriggerSpec) → IsSpec version s → is_trigger_spec s ≡ true
spec_valid version s is =
    let keys = and_from (is_key s.key) (is_key s.job) (key_valid s.key is.key) (key_valid s.job is.job) in
    let named = and_from (is_key s.key && is_key s.job) (is_calendar s.calendar) keys (calendar_valid s.calendar is.calendar) in
    and_from (is_key s.key && is_key s.job && is_calendar s.calendar) (is_timing s.timing) named (timing_valid version s.timing is.timing)

command_valid : (version : Version) (c : Command) → IsCommand version c → is_command c ≡ true
command_valid version (command.AddJob job replace) is = refl
command_valid version (command.DeleteJob key) is = key_valid key is
command_valid version (command.AddTrigger spec replace) is = spec_valid version spec is
command_valid version (command.DeleteTrigger key) is = key_valid key is
command_valid version (command.PauseTrigger key) is = key_valid key is
command_valid version (command.ResumeTrigger key) is = key_valid key is
command_valid version (command.PauseGroup group) is = name_valid group is
command_valid version (command.ResumeGroup group) is = name_valid group is
command_valid version (command.AddCalendar calendar replace) is = refl
command_valid version (command.DeleteCalendar name) is = name_valid name is
command_valid version (command.AddZone zone) is = refl
command_valid version (command.DeleteZone name) is = name_valid name is
command_valid version (command.TriggerNow job) is = key_valid job is
command_valid version (command.Threshold ms) is = is.passed
command_valid version (command.Join node) is = node_valid node is
command_valid version command.Leave is = refl
command_valid version (command.Acquire no_later window max) is =
    let size = and_parts (nat_le 1 max) (nat_le max ACQUIRE_LIMIT) is.3 in
    let spans = and_from (is_span no_later) (is_span window) is.0.passed is.1.passed in
    and_from (is_span no_later && is_span window && nat_le 1 max) (nat_le max ACQUIRE_LIMIT) (and_from (is_span no_later && is_span window) (nat_le 1 max) spans size.0) size.1
command_valid version (command.Release entry) is = refl
command_valid version (command.Fire entry) is = refl
command_valid version (command.Complete entry code) is = refl
command_valid version command.Misfires is = refl
command_valid version (command.Recover node) is = node_valid node is
command_valid version command.Upgrade is = refl
command_valid version (command.ResetTrigger key) is = key_valid key is.1
command_valid version (command.PauseJobGroup group) is = name_valid group is.1
command_valid version (command.ResumeJobGroup group) is = name_valid group is.1

pub entry_valid : (version : Version) (e : EntryData) → IsEntry version e → IsTrue (is_entry e)
unfolding is_entry
entry_valid version e is = and_from (is_command e.command) (has_actor (is_of_node e.command) e.actor) (command_valid version e.command is.command) is.asked

pub entries_valid : (version : Version) (es : List EntryData) → AllByRecursion (IsEntry version) es → AllByRecursion (λ e. IsTrue (is_entry e)) es
entries_valid version [] all = tt
entries_valid version (e ∷ es) all = (entry_valid version e all.0, entries_valid version es all.1)
