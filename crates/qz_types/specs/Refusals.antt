-- The number under which reply lines name a refusal. It is fixed for each refusal, whichever others there are.
use Rattle.std.specs.Prelude.{ℕ}
use Rattle.qz_types.specs.declared.replies.Refusal.{Refusal}
use Rattle.qz_types.specs.declared.replies.Refusal.TheVariants.{Fenced, ReservedGroup, UnknownJob, UnknownTrigger, UnknownCalendar, UnknownZone, JobExists, TriggerExists, CalendarExists, ZoneExists, InUse, Circle, FlagInUse, NeverFires, UnknownEntry, NotYours, NotAcquired, NotExecuting, Early, NotMember, StillFresh, TooMany, UnknownNode, RowsFull, StillMember, Renewed, OldStore, Current, NotInError}

abbrev pub number_of : Refusal → ℕ
number_of (Fenced live) = 1
number_of ReservedGroup = 2
number_of UnknownJob = 3
number_of UnknownTrigger = 4
number_of UnknownCalendar = 5
number_of UnknownZone = 6
number_of JobExists = 7
number_of TriggerExists = 8
number_of CalendarExists = 9
number_of ZoneExists = 10
number_of (InUse by) = 11
number_of (Circle at) = 12
number_of (FlagInUse entry) = 13
number_of NeverFires = 14
number_of UnknownEntry = 15
number_of (NotYours owner) = 16
number_of NotAcquired = 17
number_of NotExecuting = 18
number_of (Early next) = 19
number_of NotMember = 20
number_of (StillFresh until) = 21
number_of (TooMany count) = 22
number_of UnknownNode = 23
number_of RowsFull = 24
number_of StillMember = 25
number_of (Renewed last) = 26
number_of OldStore = 27
number_of Current = 28
number_of NotInError = 29
