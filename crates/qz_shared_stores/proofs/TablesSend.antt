-- The tables of the trigger store can be sent to threads: by their fields, since the check doesn't find it by itself.
use denote.Param.Send.{IsSend, sendable, view_send}
use denote.Param.SendFields.{declared_send}
use Rattle.std.proofs.Crossing.{crosses}
use Rattle.qz_types.proofs.calendars.CalendarRow.TheSendSync as calendars
use Rattle.qz_types.proofs.fired.FiredRow.TheSendSync as fired
use Rattle.qz_types.proofs.jobs.JobRow.TheSendSync as jobs
use Rattle.qz_types.proofs.triggers.TriggerRow.TheSendSync as triggers
use Rattle.qz_types.proofs.zones.ZoneRow.TheSendSync as zones
use Rattle.qz_tables.proofs.indexed.Indexed.TheSendSync as indexed
use Rattle.qz_tables.specs.contracts.linked.Linked as Linked
use Rattle.qz_tables.specs.contracts.linked.Linked.TheInside as InsideLinked
use Rattle.qz_tables.specs.contracts.tables.Tables as Tables
use Rattle.qz_tables.specs.contracts.tables.Tables.TheInside as InsideTables
use Rattle.qz_tables.specs.contracts.timed.Timed as Timed
use Rattle.qz_tables.specs.contracts.timed.Timed.TheInside as InsideTimed

-- the triggers, in due order and by their jobs
timed_send : IsSend Timed.the_row
timed_send = view_send _ _ _ _ _ (declared_send InsideTimed.the_type (search (sendable, crosses, indexed.the_send, triggers.the_send) depth 20))

linked_send : IsSend Linked.the_row
linked_send = view_send _ _ _ _ _ (declared_send InsideLinked.the_type (search (sendable, crosses, timed_send) depth 20))

pub tables_send : IsSend Tables.the_row
tables_send = view_send _ _ _ _ _ (declared_send InsideTables.the_type (search (sendable, crosses, indexed.the_send, jobs.the_send, calendars.the_send, zones.the_send, fired.the_send, linked_send) depth 20))
