use Rattle.std.proofs.Common.{◌≡◌, rules, Some, pos, sym, subst, ◌∙◌, w64, FitsSigned}
use Rattle.std.proofs.lemmas.Int.{by_lt_z, to_z-of_z}
use Rattle.qz_interval.specs.Interval.{IsGapEnd}
use Rattle.qz_interval.proofs.ClockLemmas.{gap-next}
use Rattle.qz_interval.proofs.clocks.gap_end.Goals as goal

pub returns-in_default-clause-none : goal.returns-in_default-clause-none
returns-in_default-clause-none c = λ none t gap. by_lt_z (pos 0) t
    (λ over. let next = gap-next c.args.zone.now c.args.clock t c.next_stretch.ensures.valid over gap in
    let e : Some c.in-Some.end ≡ Some t = sym c.in-Some.is ∙ (c.next_stretch.ensures.next ∙ next) in
    let same : t ≡ c.in-Some.end = cc in
    let f : FitsSigned w64 c.in-Some.end = search rules in
    let ends = rw (to_z-of_z w64 c.in-Some.end f) at c.ends_gap.ensures in
    let is = ends.1 (subst (λ u. IsGapEnd c.args.zone.now c.args.clock u) same gap) in
    absurd cc)
    (λ le. le)

pub returns-in_default-2-clause-none : goal.returns-in_default-2-clause-none
returns-in_default-2-clause-none c = λ none t gap. by_lt_z (pos 0) t
    (λ over. let next = gap-next c.args.zone.now c.args.clock t c.next_stretch.ensures.valid over gap in
    let e = sym c.in_default.is ∙ (c.next_stretch.ensures.next ∙ next) in
    absurd cc)
    (λ le. le)
