use Rattle.std.proofs.Common.{◌≡◌, true, false, ◌∙◌, sym, subst}
use Rattle.qz_snapshot.specs.Opening.{AreCutShort}
use Rattle.qz_follow.proofs.Joined.{found_in, none_in, joins_base, unjoined_each, stays_each, no_base}
use Rattle.qz_follow.specs.View.{held}
use Rattle.qz_follow.proofs.holding.Taken.join.Goals as goal

pub returns-in-Ok-Some-clause-ok : goal.returns-in-Ok-Some-clause-ok
returns-in-Ok-Some-clause-ok c =
    let mid = c.add_part.new.self in
    joins_base c.args.slot c.args.payload.now (held c.args.self.now) (held mid) (held c.settle.new.self) c.in_ok-add_part.ensures.ok c.settle.result c.from_tables.result.tables
    (λ cut. let yes : true ≡ false = sym (c.are_cut_short.ensures.1 (subst AreCutShort (sym c.as_slice.ensures) cut)) ∙ c.if-are_cut_short.false in absurd cc)
    (found_in mid.parts c.in-Ok-Some.field-0 c.in-Ok-Some.tables c.in-Ok-Some.field-0-0-1 c.from_tables.result c.in-Ok-Some.field-0-is c.from_tables.ensures c.in-Ok-Some.ensures.found)
    c.settle.ensures.ok c.settle.ensures.same

pub returns-in-Ok-Some-clause-err : goal.returns-in-Ok-Some-clause-err
returns-in-Ok-Some-clause-err c = unjoined_each c.args.slot c.args.payload.now c.args.self.now.parts c.settle.result c.settle.ensures.err

pub returns-in-Ok-Some-clause-unchanged : goal.returns-in-Ok-Some-clause-unchanged
returns-in-Ok-Some-clause-unchanged c =
    stays_each c.args.slot c.args.payload.now (held c.args.self.now) (held c.add_part.new.self) (held c.settle.new.self) c.in_ok-add_part.ensures.ok c.settle.result c.settle.ensures.unchanged

pub returns-in-Ok-None-clause-err : goal.returns-in-Ok-None-clause-err
returns-in-Ok-None-clause-err c =
    let mid = c.add_part.new.self in
    no_base c.args.slot c.args.payload.now (held c.args.self.now) (held mid) (held mid) c.in_ok-add_part.ensures.ok
    (λ cut. let yes : true ≡ false = sym (c.are_cut_short.ensures.1 (subst AreCutShort (sym c.as_slice.ensures) cut)) ∙ c.if-are_cut_short.false in absurd cc)
    (none_in mid.parts c.in-Ok-None.field-0 c.in-Ok-None.field-0-is c.in-Ok-None.ensures.none)
