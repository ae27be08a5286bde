-- Names, other texts and spans of time.
use Rattle.std.proofs.Common.{◌≡◌, refl, arith}
use Rattle.qz_types.specs.declared.limits.TheConstants.{NODE_LIMIT, PAYLOAD_LIMIT}
use Rattle.qz_values.specs.declared.versions.Version.{Version}
use Rattle.qz_values.specs.Fields.{text, IsText, text_at}
use Rattle.qz_codec.specs.Reading.{node_at, key_at, job_at, spec_at, member_at}
use Rattle.qz_values.specs.Formats.{IsFormat, Any}
use Rattle.qz_values.proofs.Formats.{same, Also, field, last}
use Rattle.qz_values.proofs.SingleFields.{number_format, wide64, integer_format, text_format, wide32, same32, flag_format, optional_format}
use Rattle.qz_types.specs.Rows.{JobData, MemberData, ZoneData, CalendarData}
use Rattle.qz_types.specs.declared.keys.Key.{Key}
use Rattle.qz_types.specs.declared.triggers.TriggerSpec.{TriggerSpec}
use Rattle.qz_codec.specs.Layout.{key, job, spec, member}
use Rattle.qz_codec.specs.Values.{IsKey, IsJob, IsSpec, IsMember}
use Rattle.qz_values.proofs.NameFormats.{name_format}
use Rattle.qz_codec.specs.Zones.{zone_row, IsZoneRow, zone_row_at}
use Rattle.qz_codec.specs.Calendars.{calendar_row, IsCalendarRow, calendar_row_at}
use Rattle.qz_values.proofs.ZoneFormats.{table_format}
use Rattle.qz_values.proofs.CalendarFormats.{calendar_kind_format}
use Rattle.qz_values.proofs.TimingFormats.{timing_format}

pub node_format : IsFormat text Any (IsText 1 NODE_LIMIT) node_at 122
node_format = text_format 1 NODE_LIMIT (omega arith)

pub payload_format : IsFormat text Any (IsText 0 PAYLOAD_LIMIT) (text_at 0 PAYLOAD_LIMIT) 4098
payload_format = text_format 0 PAYLOAD_LIMIT (omega arith)

abbrev Free : {A : Type 0} → A → Type 0
Free x = Unit {0}

pub key_format : IsFormat key Any IsKey key_at 404
unfolding key key_at
key_format = same {write' = key} {Is' = IsKey}
    (field Free (λ (k : Key). k.group) name_format (λ group.
    last (λ (k : Key). Also (Unit {0}) (k.group ≡ group)) (λ (k : Key). k.name) name_format (λ name. record { group = group; name = name }) (λ name. record { before = tt; now = refl }) (λ name. refl) (λ k h. rw (← h.now) refl)))
    (λ k h. refl) (λ k h p. record { group = p.first; name = p.others }) (λ k h p. record { first = p.group; others = p.name })

pub member_format : IsFormat member Any IsMember member_at 130
unfolding member member_at
member_format = same {write' = member} {Is' = IsMember}
    (field Free (λ (k : MemberData). k.node) node_format (λ node.
    last (λ (k : MemberData). Also (Unit {0}) (k.node ≡ node)) (λ (k : MemberData). k.epoch) (number_format wide64) (λ epoch. record { node = node; epoch = epoch }) (λ epoch. record { before = tt; now = refl }) (λ epoch. refl) (λ k h. rw (← h.now) refl)))
    (λ k h. refl) (λ k h p. record { node = p.first; epoch = p.others }) (λ k h p. record { first = p.node; others = p.epoch })

pub job_format : IsFormat job Any IsJob job_at 4707
unfolding job job_at
job_format = same {write' = job} {Is' = IsJob}
    (field Free (λ (j : JobData). j.key) key_format (λ k.
    field (λ (j : JobData). Also (Unit {0}) (j.key ≡ k)) (λ (j : JobData). j.class) name_format (λ class.
    field (λ (j : JobData). Also (Also (Unit {0}) (j.key ≡ k)) (j.class ≡ class)) (λ (j : JobData). j.durable) flag_format (λ durable.
    field (λ (j : JobData). Also (Also (Also (Unit {0}) (j.key ≡ k)) (j.class ≡ class)) (j.durable ≡ durable)) (λ (j : JobData). j.no_concurrent) flag_format (λ alone.
    field (λ (j : JobData). Also (Also (Also (Also (Unit {0}) (j.key ≡ k)) (j.class ≡ class)) (j.durable ≡ durable)) (j.no_concurrent ≡ alone)) (λ (j : JobData). j.requests_recovery) flag_format (λ recovery.
    last (λ (j : JobData). Also (Also (Also (Also (Also (Unit {0}) (j.key ≡ k)) (j.class ≡ class)) (j.durable ≡ durable)) (j.no_concurrent ≡ alone)) (j.requests_recovery ≡ recovery)) (λ (j : JobData). j.payload) payload_format
    (λ payload. record { key = k; class = class; durable = durable; no_concurrent = alone; requests_recovery = recovery; payload = payload })
    (λ payload. record { before = record { before = record { before = record { before = record { before = tt; now = refl }; now = refl }; now = refl }; now = refl }; now = refl })
    (λ payload. refl) (λ j h. rw (← h.now, ← h.before.now, ← h.before.before.now, ← h.before.before.before.now, ← h.before.before.before.before.now) refl)))))))
    (λ j h. refl)
    (λ j h p. record { key = p.first; class = p.others.first; payload = p.others.others.others.others.others })
    (λ j h p. record { first = p.key; others = record { first = p.class; others = record { first = tt; others = record { first = tt; others = record { first = tt; others = p.payload } } } } })

pub spec_format : (version : Version) → IsFormat (spec version) Any (IsSpec version) (spec_at version) 1298
unfolding spec spec_at
spec_format version = same {write' = spec version} {Is' = IsSpec version}
    (field Free (λ (s : TriggerSpec). s.key) key_format (λ k.
    field (λ (s : TriggerSpec). Also (Unit {0}) (s.key ≡ k)) (λ (s : TriggerSpec). s.job) key_format (λ j.
    field (λ (s : TriggerSpec). Also (Also (Unit {0}) (s.key ≡ k)) (s.job ≡ j)) (λ (s : TriggerSpec). s.priority) (integer_format wide32 same32) (λ priority.
    field (λ (s : TriggerSpec). Also (Also (Also (Unit {0}) (s.key ≡ k)) (s.job ≡ j)) (s.priority ≡ priority)) (λ (s : TriggerSpec). s.calendar) (optional_format name_format) (λ calendar.
    last (λ (s : TriggerSpec). Also (Also (Also (Also (Unit {0}) (s.key ≡ k)) (s.job ≡ j)) (s.priority ≡ priority)) (s.calendar ≡ calendar)) (λ (s : TriggerSpec). s.timing) (timing_format version)
    (λ t. record { key = k; job = j; priority = priority; calendar = calendar; timing = t })
    (λ t. record { before = record { before = record { before = record { before = tt; now = refl }; now = refl }; now = refl }; now = refl })
    (λ t. refl) (λ s h. rw (← h.now, ← h.before.now, ← h.before.before.now, ← h.before.before.before.now) refl))))))
    (λ s h. refl)
    (λ s h p. record { key = p.first; job = p.others.first; priority = p.others.others.first; calendar = p.others.others.others.first; timing = p.others.others.others.others })
    (λ s h p. record { first = p.key; others = record { first = p.job; others = record { first = p.priority; others = record { first = p.calendar; others = p.timing } } } })

pub zone_row_format : (version : Version) → IsFormat zone_row Any (IsZoneRow version) (zone_row_at version) 6348
unfolding zone_row zone_row_at
zone_row_format version = same {write' = zone_row} {Is' = IsZoneRow version}
    (field (λ (z : ZoneData). Unit {0}) (λ (z : ZoneData). z.name) name_format (λ name.
    last (λ (z : ZoneData). Also (Unit {0}) (z.name ≡ name)) (λ (z : ZoneData). z.stretches) (table_format version) (λ stretches. record { name = name; stretches = stretches }) (λ stretches. record { before = tt; now = refl }) (λ stretches. refl) (λ z h. rw (← h.now) refl)))
    (λ z h. refl) (λ z h p. record { name = p.first; stretches = p.others }) (λ z h p. record { first = p.name; others = p.stretches })

pub calendar_row_format : (version : Version) → IsFormat calendar_row Any (IsCalendarRow version) (calendar_row_at version) 16994
unfolding calendar_row calendar_row_at
calendar_row_format version = same {write' = calendar_row} {Is' = IsCalendarRow version}
    (field (λ (c : CalendarData). Unit {0}) (λ (c : CalendarData). c.name) name_format (λ name.
    field (λ (c : CalendarData). Also (Unit {0}) (c.name ≡ name)) (λ (c : CalendarData). c.base) (optional_format name_format) (λ base.
    field (λ (c : CalendarData). Also (Also (Unit {0}) (c.name ≡ name)) (c.base ≡ base)) (λ (c : CalendarData). c.zone) name_format (λ zone.
    last (λ (c : CalendarData). Also (Also (Also (Unit {0}) (c.name ≡ name)) (c.base ≡ base)) (c.zone ≡ zone)) (λ (c : CalendarData). c.kind) (calendar_kind_format version)
    (λ kind. record { name = name; base = base; zone = zone; kind = kind })
    (λ kind. record { before = record { before = record { before = tt; now = refl }; now = refl }; now = refl })
    (λ kind. refl) (λ c h. rw (← h.now, ← h.before.now, ← h.before.before.now) refl)))))
    (λ c h. refl)
    (λ c h p. record { name = p.first; base = p.others.first; zone = p.others.others.first; kind = p.others.others.others })
    (λ c h p. record { first = p.name; others = record { first = p.base; others = record { first = p.zone; others = p.kind } } })
