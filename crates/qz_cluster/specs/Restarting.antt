-- What comes of a restart that couldn't read a store.
use Rattle.std.specs.Prelude.{Ok, Err}
use Rattle.std.specs.declared.result.Result.{Result}
use Rattle.qz_types.specs.declared.stores.Store.{Store}
use Rattle.qz_journal.specs.declared.errors.MountError.{MountError}
use Rattle.qz_journal.specs.declared.errors.MountError.TheVariants as mount
use Rattle.qz_steps.specs.declared.steps.StepReply.{StepReply}
use Rattle.qz_steps.specs.declared.steps.StepReply.TheVariants as reply
use Rattle.qz_cluster.specs.declared.errors.StepEnd.{StepEnd}
use Rattle.qz_cluster.specs.declared.errors.StepEnd.TheVariants as ends

abbrev pub unread : Store → MountError → Result StepReply StepEnd
unread store mount.Fault = Ok reply.Fault
unread store mount.NotAStore = Err (ends.NotAStore store)
unread store (mount.Damaged at) = Err (ends.Damaged store at)
unread store mount.NoMemory = Err ends.NoMemory
