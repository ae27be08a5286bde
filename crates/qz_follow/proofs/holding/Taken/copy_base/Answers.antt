use Rattle.std.proofs.Common.{◌≡◌, true, false, ◌∙◌, sym, ap}
use Rattle.qz_tables.specs.Contents.{TablesData}
use Rattle.qz_follow.proofs.Joined.{found_in, none_in, read_again}
use Rattle.qz_follow.proofs.holding.Taken.copy_base.Goals as goal

-- what was read before is read again
pub unreachable-requires : goal.unreachable-requires
unreachable-requires c = none_in c.args.self.now.parts c.in-Ok-None.field-0 c.in-Ok-None.field-0-is c.in-Ok-None.ensures.none c.args.tables.now.tables c.requires.0 c.requires.1

pub returns-in-Ok-Some-clause-base : goal.returns-in-Ok-Some-clause-base
returns-in-Ok-Some-clause-base c some =
    let s = c.args.self.now in
    read_again s.version s.parts c.from_tables.result c.args.tables.now.tables
    (found_in s.parts c.in-Ok-Some.field-0 c.in-Ok-Some.tables _ c.from_tables.result c.in-Ok-Some.field-0-is c.from_tables.ensures c.in-Ok-Some.ensures.found)
    c.requires (λ new. let yes : true ≡ false = sym (c.is_new.ensures.1 (ap (λ (t : TablesData). t.tables) c.tables.ensures ∙ new)) ∙ c.if-is_new.false in absurd cc)
