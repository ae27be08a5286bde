use Rattle.qz_journal.proofs.Once.{holds_once, version_once, not_damaged, damaged_once}
use Rattle.qz_journal.proofs.Headers.{one_kind, header_store}
use Rattle.qz_journal.proofs.laws.layout_is_unique.Goals as goal

pub returns-clause-one_list : goal.returns-clause-one_list
returns-clause-one_list c = holds_once

pub returns-clause-one_version : goal.returns-clause-one_version
returns-clause-one_version c = version_once

pub returns-clause-one_place : goal.returns-clause-one_place
returns-clause-one_place c = damaged_once

pub returns-clause-not_both : goal.returns-clause-not_both
returns-clause-not_both c bytes version kind at ps = not_damaged bytes version kind at ps

pub returns-clause-one_kind : goal.returns-clause-one_kind
returns-clause-one_kind c = one_kind

pub returns-clause-header : goal.returns-clause-header
returns-clause-header c = header_store
