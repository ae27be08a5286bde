use Rattle.std.proofs.Common.{rules, ◌≢◌, ap, length, List, ℕ}
use Rattle.qz_stream.proofs.Steps.{feeds-none, feeds-passed, handed-none}
use Rattle.qz_stream.specs.declared.place.Place.TheVariants as place
use Rattle.qz_stream.proofs.stream.Stream.pass_payload.Goals as goal

pub returns-then-eq-clause-fed : goal.returns-then-eq-clause-fed
returns-then-eq-clause-fed c = rw (← c.self.view_is) (feeds-passed _ _ _ _ _ _ _ (search rules) (ap (λ (l : List ℕ). length l) c.deref-block.ensures.value) c.clear.ensures.items)

pub returns-else-eq-clause-fed : goal.returns-else-eq-clause-fed
returns-else-eq-clause-fed c =
    let other : c.args.self.now.place ≢ place.Whole = search rules in
    feeds-none c.args.self.now (handed-none c.args.self.now other)
