use Rattle.std.proofs.Common.{rules, ◌≡◌, ◌≢◌, ◌∙◌, ℕ, List, [], ◌++◌, take, length, refl, sym, ap, subst, arith}
use Rattle.std.specs.Prelude.{Result}
use Rattle.std.proofs.lemmas.List.{take_all}
use Rattle.qz_stream.specs.Standing.{Feeds, fed_of}
use Rattle.qz_stream.specs.declared.place.BadStream.{BadStream}
use Rattle.qz_stream.specs.declared.place.Next.{Next}
use Rattle.qz_stream.specs.declared.place.Place.TheVariants as place
use Rattle.qz_stream.proofs.Steps.{feeds-both, handed-none}
use Rattle.qz_stream.proofs.stream.Stream.next.Goals.{in-Header, in-Whole, in-Ended, in-Bad}
use Rattle.qz_stream.proofs.stream.Stream.next.Goals as goal

pub returns-clause-fed : goal.returns-clause-fed
returns-clause-fed c =
    let p = c.args.piece.now in
    let mid = c.pass_payload.new.self in
    let new = c.read-used.new.self in
    let all : new.place ≢ place.Whole → take c.read-used.result p ≡ p = λ other. take_all c.read-used.result p (omega (arith, c.read-used.ensures.all other)) in
    let read : (x : Result Next BadStream) → c.match-self.result ≡ x → take c.read-used.result p ≡ fed_of x p → Feeds (fed_of c.match-self.result p) mid new =
    λ x is same. subst (λ (y : Result Next BadStream). Feeds (fed_of y p) mid new) (sym is) (subst (λ (l : List ℕ). Feeds l mid new) same c.read-used.ensures.fed) in
    let second : Feeds (fed_of c.match-self.result p) mid new = elim c.match-self.branch [
      | in-Header w ↦ let other : new.place ≢ place.Whole = search rules in read _ w.result-is (all other)
      | in-Whole w ↦ read _ w.result-is refl
      | in-Ended w ↦ let other : new.place ≢ place.Whole = search rules in read _ w.result-is (all other)
      | in-Bad w ↦ let other : new.place ≢ place.Whole = search rules in read _ w.result-is (all other)
    ] in
    feeds-both [] (fed_of c.match-self.result p) (fed_of c.match-self.result p) c.args.self.now mid new (handed-none mid c.pass_payload.ensures.passed) refl c.pass_payload.ensures.fed second
