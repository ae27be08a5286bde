use Rattle.std.proofs.Common.{◌∙◌, sym, ap, subst}
use Rattle.qz_tables.specs.Contents.{TablesData}
use Rattle.qz_model.specs.Invariant.{TablesValid}
use Rattle.qz_trigger_store.specs.declared.triggers.Triggers.{Triggers}
use Rattle.qz_trigger_store.proofs.Kept.{tables_valid}
use Rattle.qz_trigger_store.proofs.stores.TriggerStore.tables.Goals as goal

pub returns-clause-valid : goal.returns-clause-valid
returns-clause-valid g c =
    subst TablesValid (sym (ap (λ (d : TablesData). d.tables) c.tables.ensures ∙ ap (λ (t : Triggers). t.tables.tables) c.state.ensures.kept)) (tables_valid c.args.self.now)
