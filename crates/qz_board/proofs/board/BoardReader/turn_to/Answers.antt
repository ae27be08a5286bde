use Rattle.std.proofs.Common.{ap, subst, arith}
use mathlib.Core.List.{IsPrefix}
use Rattle.qz_board.proofs.Showing.{shown_shorter}
use Rattle.qz_board.proofs.board.BoardReader.turn_to.Goals as goal

pub returns-then-self-page-clause-later : goal.returns-then-self-page-clause-later
returns-then-self-page-clause-later g c =
    let s = g.K.Subject in
    let old = c.args.self.now.last in
    let all = c.learn.new.self.log in
    let seen : IsPrefix old.sheet.front.log all = subst (λ l. IsPrefix l all) (ap (λ s. s.log) c.again-both.ensures) c.learn.ensures.2 in
    shown_shorter s.before s.glance_of s.counted old.sheet.front.log c.args.page.sheet.front.log all _ _ old.begun c.args.page.begun old.shows c.args.page.shows seen c.learn.ensures.3 (omega (arith, c.if-self-page.true))

pub returns-else-self-page-clause-told : goal.returns-else-self-page-clause-told
returns-else-self-page-clause-told g c =
    let s = g.K.Subject in
    let old = c.args.self.now.last in
    let all = c.learn.new.self.log in
    let seen : IsPrefix old.sheet.front.log all = subst (λ l. IsPrefix l all) (ap (λ s. s.log) c.again-both.ensures) c.learn.ensures.2 in
    shown_shorter s.before s.glance_of s.counted c.args.page.sheet.front.log old.sheet.front.log all _ _ c.args.page.begun old.begun c.args.page.shows old.shows c.learn.ensures.3 seen c.if-self-page.false
