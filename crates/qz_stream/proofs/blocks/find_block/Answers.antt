use Rattle.std.proofs.Common.{rules, ◌≡◌, ⊎_elim, ◌+◌, arith, length, subst}
use Rattle.qz_stream.proofs.Parts.{block_here}
use Rattle.qz_stream.specs.Blocks.{IsNoLonger, MayFollow, announced}
use Rattle.qz_stream.proofs.blocks.find_block.Goals as goal

pub returns : goal.returns
returns c =
    let split = c.in-Some.ensures.cases.0 in
    let opened : c.in-Some.first.now ≡ 165 = grind arith in
    let said : c.announced-size.result ≡ announced c.in-Some.behind.now = c.announced-size.ensures in
    let may : MayFollow c.args.gate (announced c.in-Some.behind.now) = subst (MayFollow c.args.gate) said (c.may_follow.ensures.0 (search rules)) in
    let no_longer = subst (IsNoLonger c.args.gate) split c.requires in
    let size : length c.in-Some.behind.now ≡ 4 + announced c.in-Some.behind.now = ⊎_elim (λ h. omega (arith, h, may.some, said, c.if-behind-size.false, c.if-behind-lt-SIZE_LENGTH.false)) (λ h. omega (arith, h, may.some, said, c.if-behind-size.false, c.if-behind-lt-SIZE_LENGTH.false)) no_longer in
    block_here _ _ _ _ split opened (λ i. omega (arith, c.type_inv.tail i)) (omega arith) may size
