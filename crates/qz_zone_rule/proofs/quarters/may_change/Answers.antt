use Rattle.std.proofs.Common.{◌≡◌, suc, arith, Some, None, inl, inr, ap}
use Rattle.std.proofs.lemmas.Bool.Decides.{leb_tells}
use Rattle.jiff_tz.specs.PosixRule.{transition_view, next_at}
use Rattle.jiff_tz.specs.declared.timezone.TimeZone.TheVariants.{Posix}
use Rattle.qz_zone_rule.specs.Tables.{nanosecond, offset}
use Rattle.qz_zone_rule.proofs.Windows.{quarter_stays}
use Rattle.qz_zone_rule.proofs.quarters.may_change.Goals as goal

pub returns-in-Some-clause-same : goal.returns-in-Some-clause-same
returns-in-Some-clause-same c i h k =
    let next : Some (transition_view c.in-Some.transition) ≡ next_at c.args.rule.now (nanosecond c.args.place) = rw c.instant.ensures at c.in-Some.ensures in
    elim (leb_tells (suc c.args.place) i) [
      | inl after ↦
          let later = after.1 in
          quarter_stays c.args.rule.now c.args.place i (Some (transition_view c.in-Some.transition)) h (omega arith) (c.next_year.ensures.same i h (omega arith)) next (c.first_from.ensures.before i (omega arith))
      | inr first ↦
          let same : i ≡ c.args.place = omega (arith, first.1) in
          ap (offset (Posix c.args.rule.now)) same
    ]

pub returns-in-None-clause-same : goal.returns-in-None-clause-same
returns-in-None-clause-same c i h k =
    let next : None ≡ next_at c.args.rule.now (nanosecond c.args.place) = rw c.instant.ensures at c.in-None.ensures in
    quarter_stays c.args.rule.now c.args.place i None h (omega arith) (c.next_year.ensures.same i h (omega arith)) next tt
