use Rattle.std.proofs.Common.{ℕ, List, ap, ◌∙◌, sym, subst, arith}
use Rattle.qz_journal.proofs.Opened.{damaged_anywhere}
use Rattle.qz_journal.specs.Layout.{Holds}
use Rattle.qz_journal.specs.Slots.{slot}
use Rattle.qz_journal.proofs.journal.Journal.mount_or_salvage.Goals as goal

pub returns-clause-stands : goal.returns-clause-stands
returns-clause-stands g c h =
    subst (λ (b : List ℕ). Holds b c.in-Ok.found.version c.args.kind c.in-Ok.found.payloads) (sym (c.in-Ok.ensures.reads h).content) (c.in-Ok.ensures.whole h c.if-not-is_whole.false)

pub invariant_of-journal : goal.invariant_of-journal
invariant_of-journal g c = record {
  has_room = omega (arith, c.in-Ok-with_capacity.ensures.capacity);
  known = c.in-Ok.ensures.version;
  inside = λ _. c.in-Ok.ensures.inside c.if-not-is_whole.false;
  durable = λ h _. c.in-Ok.ensures.durable h;
  after_header = omega (arith, c.in-Ok.ensures.gate);
  slot_a = λ h _. ap (λ s. s.a) (c.in-Ok.ensures.slots h) ∙ ap (slot 6) (sym (c.in-Ok.ensures.reads h).content);
  slot_b = λ h _. ap (λ s. s.b) (c.in-Ok.ensures.slots h) ∙ ap (slot 11) (sym (c.in-Ok.ensures.reads h).content);
}

pub returns-in-Err-clause-refused : goal.returns-in-Err-clause-refused
returns-in-Err-clause-refused g c h = c.in-Err.ensures.refused h _

pub returns-in-Err-clause-version : goal.returns-in-Err-clause-version
returns-in-Err-clause-version g c h at is = absurd (damaged_anywhere c.in-Err.error _ c.args.kind at is (c.in-Err.ensures.refused h))

pub returns-then-not-is_whole-clause-version : goal.returns-then-not-is_whole-clause-version
returns-then-not-is_whole-clause-version g c h at is = c.in-Ok.ensures.header h
