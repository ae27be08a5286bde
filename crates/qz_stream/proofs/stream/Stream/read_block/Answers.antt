use Rattle.std.proofs.Common.{◌≡◌, ◌∙◌, ap, subst}
use Rattle.qz_stream.specs.Standing.{Standing, IsFound}
use Rattle.qz_stream.specs.declared.place.Place.TheVariants as place
use Rattle.qz_stream.proofs.Steps.{feeds-found}
use Rattle.qz_stream.proofs.stream.Stream.read_block.Goals as goal

pub returns-clause-fed : goal.returns-clause-fed
returns-clause-fed c =
    let here : c.self.inside.place ≡ place.Block = ap (λ (s : Standing). s.place) c.self.view_is ∙ c.requires.place in
    rw (← c.self.view_is) (feeds-found _ _ _ _ _ _ _ _ here c.put.ensures.items (subst (IsFound c.find_block-self-inside.result c.self.inside.gate) c.deref-2.ensures.value c.find_block-self-inside.ensures))
