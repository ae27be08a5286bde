use Rattle.std.proofs.Common.{refl}
use Rattle.qz_trigger_store.specs.Kinds.{trigger_kind}
use Rattle.qz_trigger_store.specs.Laws.{trigger_lawful}
use Rattle.qz_follow.proofs.Gathering.{trigger_gathered}
use Rattle.qz_follow.proofs.Told.{all_taken, first_taken, one_taken, store_taken}
use Rattle.qz_follow.proofs.laws.entries_are_those_of_the_bytes.Goals as goal

pub returns-clause-taken : goal.returns-clause-taken
returns-clause-taken c = all_taken trigger_kind trigger_lawful trigger_gathered

pub returns-clause-first : goal.returns-clause-first
returns-clause-first c = first_taken trigger_kind trigger_lawful trigger_gathered

pub returns-clause-once : goal.returns-clause-once
returns-clause-once c = one_taken trigger_kind trigger_lawful trigger_gathered

pub returns-clause-store : goal.returns-clause-store
returns-clause-store c w bytes whole way = store_taken trigger_kind trigger_lawful trigger_gathered w.version w.start bytes w.entries refl whole way
