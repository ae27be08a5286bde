use Rattle.std.proofs.Common.{◌≡◌, ◌∙◌, ◌++◌, List, ℕ, rules, take, drop, sym, ap, arith, take-append-drop}
use Rattle.std.specs.Prelude.{None, Some}
use Rattle.std.proofs.Math.Seq.{take-add}
use Rattle.qz_follow.proofs.Feeding.{follows_both, follows_over, keeps_both}
use Rattle.qz_follow.specs.Following.{Following}
use Rattle.qz_follow.specs.View.{view}
use Rattle.qz_follow.proofs.follower.Follower.feed.Goals as goal

pub loop-used-preserved : goal.loop-used-preserved
loop-used-preserved c =
    let v = c.loop-used.invariant in
    let e = c.read_some-used.ensures in
    let piece = c.args.piece.now in
    let none : c.loop-used.self.fault ≡ None = search rules in
    let old = view c.args.self.now in
    let mid = view c.loop-used.self in
    let new = view c.read_some-used.new.self in
    record {
      used = omega (arith, e.used, c.split_at.ensures.back_len);
      follows = follows_both _ _ _ old mid new
          (take-add c.loop-used.used c.read_some-used.result piece ∙ ap (λ (l : List ℕ). take c.loop-used.used piece ++ take c.read_some-used.result l) (sym c.split_at.ensures.back)) v.follows e.follows;
      kept = keeps_both old mid new v.kept e.kept;
      keeps = e.keeps ∙ v.keeps;
      sticky = λ x is. let no : None ≡ Some x = sym none ∙ ap (λ (f : Following). f.fault) (v.sticky x is) ∙ is in absurd (cc);
    }

pub returns-in-Some-clause-follows : goal.returns-in-Some-clause-follows
returns-in-Some-clause-follows c =
    let v = c.loop-used.invariant in
    follows_over (take c.loop-used.used c.args.piece.now) (drop c.loop-used.used c.args.piece.now) c.args.piece.now (view c.args.self.now) (view c.loop-used.self) _ (sym (take-append-drop c.loop-used.used c.args.piece.now)) c.in-Some.is v.follows

pub returns-in-Some-clause-sticky : goal.returns-in-Some-clause-sticky
returns-in-Some-clause-sticky c = c.loop-used.invariant.sticky

pub returns-in-None-clause-sticky : goal.returns-in-None-clause-sticky
returns-in-None-clause-sticky c = c.loop-used.invariant.sticky
