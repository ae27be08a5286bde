use Rattle.std.proofs.Common.{arith, inl, inr, true, false, ℕ, ◌≡◌, ◌∷◌, ◌∙◌, ap, length, length-append}
use Rattle.std.proofs.lemmas.List.{nil_from_length}
use Rattle.qz_journal.specs.Layout.{body_of}
use Rattle.qz_journal.proofs.Walk.{walked, all_payloads}
use Rattle.qz_journal.proofs.parsing.take_blocks.Goals as goal

pub walk-preserved : goal.walk-preserved
walk-preserved c =
    let w = c.walk.invariant in
    let opened : c.in-Some.first.now ≡ 165 = grind arith in
    let more = c.in_ok-add.ensures.ok in
    let block = c.in-Some-split_block.ensures.some in
    record {
      whole = walked _ _ _ _ _ _ _ more w.whole (c.in-Some.ensures.cases.0 ∙ ap (λ (n : ℕ). n ∷ c.in-Some.behind.now) opened) block.1;
      shorter = omega (arith, w.shorter, ap length c.in-Some.ensures.cases.0, ap length block.1, length-append (body_of c.in-Some-split_block.payload.now) c.in-Some-split_block.after.now);
      sizes = λ all. all_payloads _ _ _ more (w.sizes all) block.0;
    }

pub returns-then-not-open-clause-shut : goal.returns-then-not-open-clause-shut
returns-then-not-open-clause-shut c said =
    (_, _, c.in-Some.ensures.cases.0, λ is. let opened : false ≡ true = c.if-not-open.ensures.1 is in cc)

pub returns-in_default-split_block-clause-stuck : goal.returns-in_default-split_block-clause-stuck
returns-in_default-split_block-clause-stuck c said =
    let opened : c.in-Some.first.now ≡ 165 = grind arith in
    inr (_, c.in-Some.ensures.cases.0 ∙ ap (λ (n : ℕ). n ∷ c.in-Some.behind.now) opened, c.in_default-split_block.ensures.none)

pub returns-clause-stuck : goal.returns-clause-stuck
returns-clause-stuck c said = inl (nil_from_length _ c.in_default.ensures.cases)
