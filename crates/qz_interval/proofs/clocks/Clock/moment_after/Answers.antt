use Rattle.std.proofs.Common.{arith}
use Rattle.std.proofs.lemmas.Int.{ints}
use Rattle.qz_civil.proofs.InstantLemmas.{to_timestamp}
use Rattle.qz_interval.proofs.ClockLemmas.{moment-one}
use Rattle.qz_interval.proofs.TurnLemmas.{shown_before}
use Rattle.qz_interval.proofs.clocks.Clock.moment_after.Goals as goal

pub returns-then-clock-now-clause-none : goal.returns-then-clock-now-clause-none
returns-then-clock-now-clause-none c =
    let known = to_timestamp c.args.after c.requires.low c.requires.high in
    λ none t moment. shown_before c.args.self c.requires.valid c.args.after c.args.clock t known (omega (arith, c.requires.now)) moment

pub returns-in_default-clause-none : goal.returns-in_default-clause-none
returns-in_default-clause-none c = λ none t moment.
    let same = moment-one c.args.self c.args.clock t c.in-Some.ms c.requires.valid moment c.in-Some.ensures.some in
    omega (arith, ints)
