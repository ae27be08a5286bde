use Rattle.std.proofs.Common.{◌≡◌, ◌≢◌, ◌∷◌, arith, ap, sym, ◌∙◌, true≢false}
use Rattle.std.proofs.lemmas.Bool.Decides.{Decides-int_eq}
use Rattle.jiff_tz.specs.declared.timezone.TimeZone.TheVariants.{Posix}
use Rattle.qz_zone_rule.specs.Tables.{later, offset}
use Rattle.qz_zone_rule.proofs.Runs.{to_same, to_change, to_end}
use Rattle.qz_zone_rule.proofs.changes.Changes.next.Goals as goal

pub returns-then-not-has_same_offset : goal.returns-then-not-has_same_offset
returns-then-not-has_same_offset c =
    let kept = c.loop-place.invariant in
    let z = offset (Posix c.loop-place.self-inside.rule) in
    let now : c.stretch_at-stretch.result.offset ≡ z c.loop-place.place = ap (λ s. s.offset) c.stretch_at-stretch.ensures in
    let other : z c.loop-place.place ≢ z c.loop-place.self-inside.place = λ e. true≢false (sym ((Decides-int_eq _ _).1 (now ∙ e ∙ sym kept.known)) ∙ sym c.has_same_offset.ensures ∙ c.if-not-has_same_offset.true) in
    sym c.self.view_is ∙ kept.to_come
    ∙ to_change z c.loop-place.self-inside.place c.loop-place.place kept.ahead c.loop-place-test.true kept.same other
    ∙ ap (λ s. s ∷ later z c.loop-place.place) (sym c.stretch_at-stretch.ensures)

pub loop-place-preserved : goal.loop-place-preserved
loop-place-preserved c =
    let kept = c.loop-place.invariant in
    let z = offset (Posix c.loop-place.self-inside.rule) in
    let now : c.stretch_at-stretch.result.offset ≡ z c.loop-place.place = ap (λ s. s.offset) c.stretch_at-stretch.ensures in
    let same : z c.loop-place.place ≡ z c.loop-place.self-inside.place = sym now ∙ (Decides-int_eq _ _).0 (sym c.has_same_offset.ensures ∙ c.if-not-has_same_offset.false) ∙ kept.known in
    record {
      rule = kept.rule;
      to_come = kept.to_come ∙ to_same z c.loop-place.self-inside.place c.loop-place.place (omega arith) c.loop-place-test.true kept.same same;
      known = kept.known ∙ sym same;
      ahead = c.may_change-place-in-loop-place.ensures.later;
      bound = c.may_change-place-in-loop-place.ensures.bound;
      same = c.may_change-place-in-loop-place.ensures.same;
    }

pub returns : goal.returns
returns c =
    sym c.self.view_is ∙ c.loop-place.invariant.to_come
    ∙ to_end (offset (Posix c.loop-place.self-inside.rule)) c.loop-place.self-inside.place c.loop-place.place c.loop-place.invariant.ahead (omega arith) c.loop-place.invariant.same
