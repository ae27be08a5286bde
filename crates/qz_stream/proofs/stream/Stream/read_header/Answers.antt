use Rattle.std.proofs.Common.{◌≡◌, ℕ, ◌<◌, List, length, ◌∙◌, ap, subst, arith, length-append, length-take, take}
use Rattle.qz_journal.specs.Slots.{slots_of}
use Rattle.qz_stream.specs.Front.{MayBegin, IsBadFront, IsVersionOf}
use Rattle.qz_stream.specs.Standing.{Standing, IsSoundAt}
use Rattle.qz_stream.specs.declared.place.Place.{Place}
use Rattle.qz_stream.specs.declared.place.Place.TheVariants as place
use Rattle.qz_stream.proofs.Steps.{header-bad, header-whole, header-more, feeds-placed}
use Rattle.qz_stream.proofs.stream.Stream.read_header.Goals as goal

pub returns-then-len-eq-HEADER_LENGTH-clause-fed : goal.returns-then-len-eq-HEADER_LENGTH-clause-fed
returns-then-len-eq-HEADER_LENGTH-clause-fed c =
    let here : c.self.inside.place ≡ place.Header = ap (λ (s : Standing). s.place) c.self.view_is ∙ c.requires.place in
    let version : IsVersionOf c.put.new.tail.items c.version_of-self-inside.result = subst (λ (l : List ℕ). IsVersionOf l c.version_of-self-inside.result) c.deref.ensures.value c.version_of-self-inside.ensures in
    let now : c.slots_in-self-inside.result ≡ slots_of c.put.new.tail.items = c.slots_in-self-inside.ensures ∙ ap slots_of c.deref-then-len-eq-HEADER_LENGTH.ensures.value in
    rw (← c.self.view_is) (header-whole _ _ _ _ _ here _ _ _ c.put.ensures.items version _ now _ c.clear.ensures.items (subst MayBegin c.deref-2.ensures.value c.in_default.ensures.none) (omega arith))

pub returns-else-len-eq-HEADER_LENGTH-clause-fed : goal.returns-else-len-eq-HEADER_LENGTH-clause-fed
returns-else-len-eq-HEADER_LENGTH-clause-fed c =
    let here : c.self.inside.place ≡ place.Header = ap (λ (s : Standing). s.place) c.self.view_is ∙ c.requires.place in
    let version : IsVersionOf c.put.new.tail.items c.version_of-self-inside.result = subst (λ (l : List ℕ). IsVersionOf l c.version_of-self-inside.result) c.deref.ensures.value c.version_of-self-inside.ensures in
    let front : MayBegin c.put.new.tail.items = subst MayBegin c.deref-2.ensures.value c.in_default.ensures.none in
    let sound = subst (λ (p : Place). IsSoundAt p c.self.inside.gate c.self.inside.tail.items) here c.self.invariant.0 in
    let short : length c.put.new.tail.items < 16 = omega (arith, sound, ap (λ (l : List ℕ). length l) c.deref.ensures.value, ap (λ (l : List ℕ). length l) c.put.ensures.items, length-append c.self.inside.tail.items (take c.min-used.result c.args.bytes.now), length-take c.min-used.result c.args.bytes.now) in
    let fed = header-more _ _ _ _ _ here _ _ _ c.put.ensures.items version front short in
    rw (← c.self.view_is) (feeds-placed _ _ _ _ _ _ _ _ here fed)

pub returns-in-Some-clause-fed : goal.returns-in-Some-clause-fed
returns-in-Some-clause-fed c =
    let here : c.self.inside.place ≡ place.Header = ap (λ (s : Standing). s.place) c.self.view_is ∙ c.requires.place in
    let version : IsVersionOf c.put.new.tail.items c.version_of-self-inside.result = subst (λ (l : List ℕ). IsVersionOf l c.version_of-self-inside.result) c.deref.ensures.value c.version_of-self-inside.ensures in
    let bad : IsBadFront c.put.new.tail.items c.in-Some.at = subst (λ (l : List ℕ). IsBadFront l c.in-Some.at) c.deref-2.ensures.value c.in-Some.ensures.some in
    rw (← c.self.view_is) (header-bad _ _ _ _ _ here _ _ _ c.put.ensures.items version _ bad)
