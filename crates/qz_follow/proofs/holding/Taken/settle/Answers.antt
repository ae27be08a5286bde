use Rattle.std.proofs.Common.{sym, ◌∙◌, ap}
use Rattle.qz_follow.proofs.NewTables.{none_taken, keeps_base}
use Rattle.qz_follow.proofs.Records.{legal_new, replayed_new}
use Rattle.qz_tables.specs.Contents.{TablesData}
use Rattle.qz_follow.proofs.holding.Taken.settle.Goals as goal

pub invariant_of-self-clause-legal : goal.invariant_of-self-clause-legal
invariant_of-self-clause-legal c =
    let s = c.args.self.now in
    legal_new c.of.result.value.tables s.entries.items (none_taken s.version c.requires.awaited.0 s.stage s.start.value.tables s.entries.items s.kept s.base c.requires.awaited.1 s.based)

pub invariant_of-self-clause-replayed : goal.invariant_of-self-clause-replayed
invariant_of-self-clause-replayed c =
    let s = c.args.self.now in
    replayed_new c.of.result.value.tables c.replace-old.new.dest.tables s.entries.items (sym (ap (λ (t : TablesData). t.tables) c.of.ensures)) (none_taken s.version c.requires.awaited.0 s.stage s.start.value.tables s.entries.items s.kept s.base c.requires.awaited.1 s.based)

pub invariant_of-self-clause-based : goal.invariant_of-self-clause-based
invariant_of-self-clause-based c =
    let s = c.args.self.now in
    let start = ap (λ (t : TablesData). t.tables) (c.of.ensures ∙ c.replace-old.ensures.after) in
    keeps_base s.version c.of.result.value.tables c.args.tables.tables s.entries.items s.kept c.replace-none.new.dest c.in-Ok.base start c.replace-none.ensures.after c.in-Ok.ensures.base
