-- What contracts see of rows, and which rows are valid. Limits are the constants of `limits`.
use Rattle.std.specs.Prelude.{ℕ, ℤ, pos, List, Bool, true, Option, Some, None, is_none, nat_lt, nat_le, ◌&&◌, length}
use Rattle.qz_civil.specs.Timings.{is_name, is_timing, is_within}
use Rattle.qz_civil.specs.Calendars.{is_calendar_kind}
use Rattle.qz_civil.specs.Zones.{bad_zone}
use Rattle.qz_civil.specs.declared.calendars.CalendarKind.{CalendarKind}
use Rattle.qz_civil.specs.declared.stretches.Stretch.{Stretch}
use Rattle.qz_types.specs.declared.limits.TheConstants.{INTERVAL_LIMIT, NODE_LIMIT, PAYLOAD_LIMIT, TIMES_LIMIT}
use Rattle.qz_types.specs.declared.keys.Key.{Key}
use Rattle.qz_types.specs.declared.triggers.TriggerSpec.{TriggerSpec}
use Rattle.qz_types.specs.declared.triggers.TriggerState.{TriggerState}
use Rattle.qz_types.specs.declared.fired.FiredState.{FiredState}

-- A job: its key, the class that runs it, its flags and its payload.
pub record JobData : Type 0 where
  pub key : Key
  pub class : List ℕ
  pub durable : Bool
  pub no_concurrent : Bool
  pub requests_recovery : Bool
  pub payload : List ℕ

-- A trigger: what it was stored with, its next and last fire times, how often it fired, and its state.
pub record TriggerData : Type 0 where
  pub spec : TriggerSpec
  pub next : Option ℤ
  pub prev : Option ℤ
  pub times : ℕ
  pub state : TriggerState

-- A fired row: the entry number, the member that has it, its trigger and job, the time for which it was acquired, and the
-- moment at which its execution began.
pub record FiredData : Type 0 where
  pub entry : ℕ
  pub node : List ℕ
  pub epoch : ℕ
  pub trigger : Key
  pub job : Key
  pub priority : ℤ
  pub state : FiredState
  pub scheduled : ℤ
  pub fired : Option ℤ
  pub no_concurrent : Bool
  pub requests_recovery : Bool

-- A member: a node and the epoch that its join gave it.
pub record MemberData : Type 0 where
  pub node : List ℕ
  pub epoch : ℕ

-- A calendar: its name, that of the calendar below it, the zone of its local times, and what it excludes.
pub record CalendarData : Type 0 where
  pub name : List ℕ
  pub base : Option (List ℕ)
  pub zone : List ℕ
  pub kind : CalendarKind

-- A zone: its name and its stretches.
pub record ZoneData : Type 0 where
  pub name : List ℕ
  pub stretches : List Stretch

-- A row of the state store: a node, its last check-in, and how often it means to check in.
pub record StateData : Type 0 where
  pub node : List ℕ
  pub last : ℤ
  pub interval : ℤ

-- Why a node is taken for failed: its last check-in, and until when it wasn't late.
pub record EvidenceData : Type 0 where
  pub node : List ℕ
  pub last : ℤ
  pub until : ℤ

-- a node's name
abbrev pub is_node : List ℕ → Bool
is_node s = nat_lt 0 (length s) && nat_le (length s) NODE_LIMIT

-- Each row is valid where its names and numbers are within their limits.
abbrev pub is_key : Key → Bool
is_key k = is_name k.group && is_name k.name

abbrev pub is_job : JobData → Bool
is_job j = is_key j.key && is_name j.class && nat_le (length j.payload) PAYLOAD_LIMIT

-- none, or a name
abbrev pub is_calendar : Option (List ℕ) → Bool
is_calendar None = true
is_calendar (Some name) = is_name name

abbrev pub is_trigger_spec : TriggerSpec → Bool
is_trigger_spec s = is_key s.key && is_key s.job && is_calendar s.calendar && is_timing s.timing

abbrev pub is_trigger : TriggerData → Bool
is_trigger t = is_trigger_spec t.spec && nat_le t.times TIMES_LIMIT

abbrev pub is_fired : FiredData → Bool
is_fired f = is_node f.node && is_key f.trigger && is_key f.job

abbrev pub is_member : MemberData → Bool
is_member m = is_node m.node

abbrev pub is_calendar_row : CalendarData → Bool
is_calendar_row c = is_name c.name && is_calendar c.base && is_name c.zone && is_calendar_kind c.kind

abbrev pub is_zone_row : ZoneData → Bool
is_zone_row z = is_name z.name && is_none (bad_zone z.stretches)

-- a check-in interval or a threshold, in ms
abbrev pub is_interval : ℤ → Bool
is_interval ms = is_within (pos 1) INTERVAL_LIMIT ms

abbrev pub is_state : StateData → Bool
is_state s = is_node s.node && is_interval s.interval
