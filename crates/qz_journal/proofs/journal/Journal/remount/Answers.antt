use Rattle.std.proofs.Common.{sym, ap, ◌∙◌, subst, List, [], ℕ, arith}
use Rattle.std.proofs.lemmas.Result.{err_from_is_err_and}
use Rattle.qz_journal.specs.Layout.{Holds}
use Rattle.qz_journal.specs.Slots.{slot}
use Rattle.qz_journal.proofs.Once.{holds_once, version_once, only_outside, refused_behind}
use Rattle.qz_journal.specs.declared.errors.MountError.TheVariants as mount
use Rattle.qz_journal.proofs.journal.Journal.remount.Goals as goal

pub returns-then-not-is_whole-clause-whole : goal.returns-then-not-is_whole-clause-whole
returns-then-not-is_whole-clause-whole g c h version payloads holds =
    only_outside _ version c.args.self.now.kind payloads (mount.Damaged c.in_ok-version.field-0.gate) holds
    (refused_behind _ _ c.in_ok-version.field-0.payloads (mount.Damaged c.in_ok-version.field-0.gate) (c.in_ok-version.ensures.damaged h c.if-not-is_whole.true))

pub returns-clause-whole : goal.returns-clause-whole
returns-clause-whole g c h version payloads holds =
    let stands = c.in_ok-version.ensures.whole h c.if-not-is_whole.false in
    (version_once _ c.in_ok-version.field-0.version version _ c.in_ok-version.field-0.payloads payloads stands holds, holds_once _ c.in_ok-version.field-0.version version _ c.in_ok-version.field-0.payloads payloads stands holds)

pub returns-clause-stands : goal.returns-clause-stands
returns-clause-stands g c h =
    subst (λ (b : List ℕ). Holds b c.in_ok-version.field-0.version c.args.self.now.kind c.in_ok-version.field-0.payloads) (sym (c.in_ok-version.ensures.reads h).content) (c.in_ok-version.ensures.whole h c.if-not-is_whole.false)

pub returns-then-not-is_whole-clause-refused : goal.returns-then-not-is_whole-clause-refused
returns-then-not-is_whole-clause-refused g c h = record { payloads = c.in_ok-version.field-0.payloads; behind = c.in_ok-version.ensures.damaged h c.if-not-is_whole.true }

pub invariant_of-self-2 : goal.invariant_of-self-2
invariant_of-self-2 g c = record {
  has_room = c.args.self.now.has_room;
  known = c.in_ok-version.ensures.version;
  inside = λ _. c.in_ok-version.ensures.inside c.if-not-is_whole.false;
  durable = λ h _. c.in_ok-version.ensures.durable h;
  after_header = omega (arith, c.in_ok-version.ensures.gate);
  slot_a = λ h _. ap (λ s. s.a) (c.in_ok-version.ensures.slots h) ∙ ap (slot 6) (sym (c.in_ok-version.ensures.reads h).content);
  slot_b = λ h _. ap (λ s. s.b) (c.in_ok-version.ensures.slots h) ∙ ap (slot 11) (sym (c.in_ok-version.ensures.reads h).content);
}

pub returns-in_err-version-clause-refused : goal.returns-in_err-version-clause-refused
returns-in_err-version-clause-refused g c h =
    let p = err_from_is_err_and c.from_residual.result c.from_residual.ensures.1 in
    rw (p.1, p.2) (refused_behind _ _ [] c.in_err-version.field-0.0 (c.in_err-version.ensures.refused h []))

pub returns-in_err-version-clause-whole : goal.returns-in_err-version-clause-whole
returns-in_err-version-clause-whole g c h version payloads holds =
    let p = err_from_is_err_and c.from_residual.result c.from_residual.ensures.1 in
    rw (p.1, p.2) (only_outside _ version c.args.self.now.kind payloads c.in_err-version.field-0.0 holds (refused_behind _ _ [] c.in_err-version.field-0.0 (c.in_err-version.ensures.refused h [])))
