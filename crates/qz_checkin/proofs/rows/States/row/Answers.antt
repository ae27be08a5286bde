use Rattle.std.proofs.Common.{◌∙◌, List, ap}
use Rattle.qz_types.specs.Rows.{StateData}
use Rattle.qz_types.specs.Sorted.{row_of}
use Rattle.qz_types.specs.Words.{text_cmp}
use Rattle.qz_checkin.specs.Rows.{state_of}
use Rattle.qz_checkin.specs.InMemory.{tables_in}
use Rattle.qz_checkin.proofs.Looking.{found_if}
use Rattle.qz_checkin.proofs.rows.States.row.Goals as goal

pub returns-clause-moment : goal.returns-clause-moment
unfolding state_of
returns-clause-moment c =
    found_if (tables_in c.args.self.now) c.args.node.now c.find.result c.args.self.now.valid
    (c.find.ensures ∙ ap (λ (xs : List StateData). row_of text_cmp (λ (r : StateData). r.node) c.args.node.now xs) c.deref.ensures.value)
