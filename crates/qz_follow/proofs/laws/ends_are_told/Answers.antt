use Rattle.qz_trigger_store.specs.Kinds.{trigger_kind}
use Rattle.qz_trigger_store.specs.Laws.{trigger_lawful}
use Rattle.qz_follow.proofs.Gathering.{trigger_gathered}
use Rattle.qz_follow.proofs.Told.{end_taken, end_found, header_told, short_told}
use Rattle.qz_follow.proofs.laws.ends_are_told.Goals as goal

pub returns-clause-ended : goal.returns-clause-ended
returns-clause-ended c fed f is ended = end_taken trigger_kind trigger_lawful trigger_gathered fed f is ended.0 ended.1

pub returns-clause-end : goal.returns-clause-end
returns-clause-end c fed f payloads gate is none end = (none, end_found trigger_kind trigger_lawful trigger_gathered fed f payloads gate is none end)

pub returns-clause-header : goal.returns-clause-header
returns-clause-header c = header_told trigger_kind trigger_lawful trigger_gathered

pub returns-clause-short : goal.returns-clause-short
returns-clause-short c = short_told trigger_kind trigger_lawful trigger_gathered
