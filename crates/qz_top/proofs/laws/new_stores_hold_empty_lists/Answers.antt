use Rattle.qz_top.proofs.TurnLaws.{new_entries, new_rows}
use Rattle.qz_top.proofs.laws.new_stores_hold_empty_lists.Goals as goal

pub returns-clause-triggers : goal.returns-clause-triggers
returns-clause-triggers g c = new_entries g.D.Disk

pub returns-clause-states : goal.returns-clause-states
returns-clause-states g c = new_rows g.D.Disk
