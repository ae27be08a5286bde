use Rattle.std.proofs.Common.{sym, ◌∙◌, ap}
use Rattle.qz_follow.proofs.NewTables.{nothing_taken, keeps_first}
use Rattle.qz_follow.proofs.Records.{legal_new, replayed_new}
use Rattle.qz_tables.specs.Contents.{TablesData}
use Rattle.qz_follow.proofs.holding.Taken.renew.Goals as goal

pub invariant_of-self-clause-legal : goal.invariant_of-self-clause-legal
invariant_of-self-clause-legal c =
    let s = c.args.self.now in
    legal_new c.of.result.value.tables s.entries.items (nothing_taken s.version s.stage s.start.value.tables s.entries.items s.kept s.base c.requires.first s.based).0

pub invariant_of-self-clause-replayed : goal.invariant_of-self-clause-replayed
invariant_of-self-clause-replayed c =
    let s = c.args.self.now in
    replayed_new c.of.result.value.tables _ s.entries.items (sym (ap (λ (t : TablesData). t.tables) c.of.ensures)) (nothing_taken s.version s.stage s.start.value.tables s.entries.items s.kept s.base c.requires.first s.based).0

pub invariant_of-self-clause-based : goal.invariant_of-self-clause-based
invariant_of-self-clause-based c =
    let s = c.args.self.now in
    keeps_first s.version c.args.version s.stage s.start.value.tables c.of.result.value.tables s.entries.items s.kept s.base c.requires.first (ap (λ (t : TablesData). t.tables) (c.of.ensures ∙ c.replace-old.ensures.after) ∙ c.new.ensures) s.based
