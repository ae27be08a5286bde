use Rattle.std.proofs.Common.{◌≡◌, ◌⊎◌, ◌∙◌, ap, arith}
use Rattle.qz_stream.specs.Standing.{Standing}
use Rattle.qz_stream.specs.declared.place.Place.TheVariants as place
use Rattle.qz_stream.proofs.Steps.{feeds-over, over_of}
use Rattle.qz_stream.proofs.stream.Stream.read_some.Goals as goal

pub returns-in_default : goal.returns-in_default
returns-in_default c =
    let same = ap (λ (s : Standing). s.place) c.self.view_is in
    let over : (c.args.self.now.place ≡ place.Ended) ⊎ (c.args.self.now.place ≡ place.Bad) =
    over_of _ (λ is. c.in_default.not-Header (same ∙ is)) (λ is. c.in_default.not-Block (same ∙ is)) c.requires.place in
    record { some = c.requires.some; used = omega arith; fed = feeds-over c.args.self.now _ over }
