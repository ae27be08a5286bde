use Rattle.std.proofs.Common.{◌≡◌, ◌∙◌, ap, subst, ℕ, List, map, IfOk, IfNone}
use Rattle.qz_types.specs.Tables.{SchedulerTables}
use Rattle.qz_snapshot.specs.Opening.{BeginWell}
use Rattle.qz_snapshot.proofs.bases.read_base.Goals as goal

pub returns-clause-none : goal.returns-clause-none
returns-clause-none c =
    let same : map (λ p. p.now) c.deref.result.now ≡ c.args.payloads.now = ap (λ (ps : List _). map (λ p. p.now) ps) c.deref.ensures.value ∙ c.in_ok-slices.ensures ∙ c.as_slice.ensures in
    subst (λ (xs : List (List ℕ)). IfOk c.read_slices.result (λ o. IfNone o ((T : SchedulerTables) (entries : ℕ) → BeginWell xs T entries → ⊥))) same c.read_slices.ensures.none
