use Rattle.std.proofs.Common.{ℕ, ◌+◌, Bool, arith}
use Rattle.qz_civil.specs.declared.limits.TheConstants.{SECONDS}
use Rattle.qz_cron.specs.Search.{meets_at, meets_second}
use Rattle.qz_cron.proofs.Clocks.{meets_at-shown, meets_at-shifts}
use Rattle.qz_cron.proofs.Firsts.{first_before, first_then, none_then}
use Rattle.qz_cron.proofs.moments.next_whole.Goals as goal

pub returns-in-Some-clause-first : goal.returns-in-Some-clause-first
returns-in-Some-clause-first c =
    let p : ℕ → Bool = meets_second c.args.fields.now in
    let q : ℕ → Bool = meets_at c.args.fields.now c.args.zone.now in
    let here = c.in-Some.ensures p q c.loop-start.start (omega arith)
    (λ s a b. meets_at-shown c.args.fields.now c.args.zone.now s (s + c.span_from-shift.result.shift) (c.span_from-shift.ensures.clock s a b))
    c.next_local-found.ensures in
    first_before q c.args.from c.span_from-shift.result.end SECONDS c.in-Some.second
    (first_then q c.args.from c.loop-start.start c.span_from-shift.result.end c.in-Some.second c.loop-start.invariant.1 c.loop-start.invariant.0 here)
    (let high = here.high in omega arith)

pub loop-start-preserved : goal.loop-start-preserved
loop-start-preserved c =
    let p : ℕ → Bool = meets_second c.args.fields.now in
    let q : ℕ → Bool = meets_at c.args.fields.now c.args.zone.now in
    let here = c.in_default.ensures p q c.loop-start.start (omega arith)
    (λ s a b. meets_at-shown c.args.fields.now c.args.zone.now s (s + c.span_from-shift.result.shift) (c.span_from-shift.ensures.clock s a b))
    c.next_local-found.ensures in
    let skipped = c.resume-start.ensures.none p q (meets_at-shifts c.args.fields.now c.args.zone.now c.span_from-shift.ensures.valid) c.next_local-found.ensures here in
    (none_then q c.args.from c.loop-start.start c.resume-start.result c.loop-start.invariant.0 skipped, omega (arith, c.loop-start.invariant.1), c.next_local-found.ensures)

pub returns-in-Some-clause-bound : goal.returns-in-Some-clause-bound
returns-in-Some-clause-bound c = (returns-in-Some-clause-first c).high
