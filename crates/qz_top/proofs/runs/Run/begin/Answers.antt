use Rattle.std.proofs.Common.{◌∷◌, [], ◌++◌, ap, ◌∙◌, sym, subst, arith}
use Rattle.qz_disk.proofs.Causes.{on_ok}
use Rattle.qz_cluster.specs.View.{IsTold}
use Rattle.qz_top.proofs.runs.Run.begin.Goals as goal

pub returns-clause-shown : goal.returns-clause-shown
returns-clause-shown g c =
    (c.of.result, c.push_reserved.ensures.items ∙ ap (λ l. l ++ c.of.result ∷ []) (c.reserve.ensures.items ∙ c.new-trail.ensures.items), c.of.ensures)

pub push_reserved-requires : goal.push_reserved-requires
push_reserved-requires g c = omega (arith, on_ok _ _ (sym c.if-is_err.ensures.value) c.reserve.ensures.ok)

pub invariant_of-result : goal.invariant_of-result
invariant_of-result g c = record { told = λ was. ∣ subst IsTold c.of-begun.ensures was ∣₁ }
