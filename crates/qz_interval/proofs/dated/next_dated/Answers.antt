use Rattle.std.proofs.Common.{◌≡◌, ◌∙◌, arith, rules, pos, w64, FitsSigned}
use Rattle.std.proofs.lemmas.Int.{ints, to_z-of_z}
use Rattle.qz_interval.proofs.DatedLemmas.{turn_next, turn_none}
use Rattle.qz_interval.proofs.dated.next_dated.Goals as goal

pub returns-in-Some : goal.returns-in-Some
returns-in-Some c =
    let f : FitsSigned w64 c.in-Some.ms = search rules in
    let start = to_z-of_z w64 c.args.start c.ranges.start in
    let after = to_z-of_z w64 c.args.after c.ranges.after in
    let ms = to_z-of_z w64 c.in-Some.ms f in
    let moments = rw start at c.new-clock.ensures.moments in
    let clock = rw start at c.at.ensures.value ∙ rw start at c.new-clock.ensures.start in
    let turns = rw clock at c.from_clock.ensures in
    let natural : pos c.to_unsigned-in-Some.result ≡ c.in-Some.ms = c.to_unsigned-in-Some.ensures.value ∙ ms in
    turn_next _ _ _ _ moments turns c.args.start c.args.end c.args.after c.in-Some.ms c.to_unsigned-in-Some.result c.before_end-in-Some.result (omega (arith, ints)) natural (rw after at c.in-Some.ensures) c.before_end-in-Some.ensures.kept c.before_end-in-Some.ensures.gone

pub returns-in-None : goal.returns-in-None
returns-in-None c =
    let start = to_z-of_z w64 c.args.start c.ranges.start in
    let after = to_z-of_z w64 c.args.after c.ranges.after in
    let moments = rw start at c.new-clock.ensures.moments in
    let clock = rw start at c.at.ensures.value ∙ rw start at c.new-clock.ensures.start in
    let turns = rw clock at c.from_clock.ensures in
    turn_none _ _ _ _ moments turns c.args.start c.args.end c.args.after (omega (arith, ints)) (rw after at c.in-None.ensures)
