-- What is said to lines, one behind the other.
use Rattle.std.proofs.Common.{ℕ, List, [], ◌∷◌, ◌++◌, refl, sym, ap, ◌∙◌, subst, append_assoc}
use Rattle.std.proofs.lemmas.List.{append-nil}
use Rattle.qz_times.specs.declared.queries.Query.{Query}
use Rattle.qz_times.specs.Known.{Known}
use Rattle.qz_times.specs.Said.{LineSaid, AllSaid}

pub AllSaid-none : (q : Query) (known : Known) → AllSaid q known [] [] known
AllSaid-none q known = (refl, refl)

pub AllSaid-one : (q : Query) (known : Known) (line text : List ℕ) (known' : Known) → LineSaid q known line text known' → AllSaid q known (line ∷ []) text known'
AllSaid-one q known line text known' said = (text, [], known', said, (refl, refl), sym (append-nil text))

pub AllSaid-append : (q : Query) (xs ys : List (List ℕ)) (known between behind : Known) (s t : List ℕ)
    → AllSaid q known xs s between → AllSaid q between ys t behind → AllSaid q known (xs ++ ys) (s ++ t) behind
AllSaid-append q [] ys known between behind s t first later =
    subst (λ text. AllSaid q known ys (text ++ t) behind) (sym first.0) (subst (λ z. AllSaid q z ys t behind) first.1 later)
AllSaid-append q (x ∷ xs) ys known between behind s t (text, rest, middle, said, others, all) later =
    (text, rest ++ t, middle, said, AllSaid-append q xs ys middle between behind rest t others later, ap (λ w. w ++ t) all ∙ append_assoc text rest t)
