-- Whether a snapshot goes on after some payloads is seen by its head.
use Rattle.std.proofs.Common.{◌≡◌, ◌↔◌, ◌&&◌, ℕ, ◌<◌, nat_lt, Bool, true, false, IsTrue, List, ◌∷◌, length, refl, sym, ap, ◌∙◌, subst, arith}
use Rattle.std.proofs.lemmas.Bool.Decides.{nat_tests}
use Rattle.std.specs.List.{list_all}
use Rattle.qz_snapshot.specs.declared.heads.Head.{Head}
use Rattle.qz_snapshot.specs.Heads.{head_bytes, HasWidths}
use Rattle.qz_snapshot.specs.Opening.{is_piece, AreCutShort}
use Rattle.qz_snapshot.proofs.HeadBytes.{heads_once}

same_first : {A : Type 0} (x y : A) (xs ys : List A) → x ∷ xs ≡ y ∷ ys → x ≡ y
same_first x y xs ys same = cc

same_rest : {A : Type 0} (x y : A) (xs ys : List A) → x ∷ xs ≡ y ∷ ys → xs ≡ ys
same_rest x y xs ys same = cc

pub none_without_head : (payloads : List (List ℕ)) (first : List ℕ) (rest : List (List ℕ)) → payloads ≡ first ∷ rest → ((head : Head) → first ≡ head_bytes head → ⊥) → AreCutShort payloads → ⊥
none_without_head payloads first rest is none cut = none cut.head (same_first first (head_bytes cut.head) rest cut.pieces (sym is ∙ cut.parts))

-- what is known of payloads that begin with a head
pub record IsAfterHead (payloads : List (List ℕ)) (head : Head) (rest : List (List ℕ)) : Type 0 where
  pub widths : HasWidths head
  pub is : payloads ≡ head_bytes head ∷ rest

back : (payloads : List (List ℕ)) (head : Head) (rest : List (List ℕ)) → IsAfterHead payloads head rest → AreCutShort payloads → (list_all is_piece rest ≡ true) × (length rest < head.pieces)
back payloads head rest h cut =
    let both : head_bytes head ∷ rest ≡ head_bytes cut.head ∷ cut.pieces = sym h.is ∙ cut.parts in
    let pieces : rest ≡ cut.pieces = same_rest (head_bytes head) (head_bytes cut.head) rest cut.pieces both in
    let one : head ≡ cut.head = heads_once head cut.head h.widths cut.widths (same_first (head_bytes head) (head_bytes cut.head) rest cut.pieces both) in
    (ap (list_all is_piece) pieces ∙ cut.are_pieces, subst (λ (x : Head). length rest < x.pieces) (sym one) (subst (λ (l : List (List ℕ)). length l < cut.head.pieces) (sym pieces) cut.short))

never : {A : Type 0} → false ≡ true → A
never is = absurd (cc)

decide : (payloads : List (List ℕ)) (head : Head) (rest : List (List ℕ)) (short all : Bool) → IsAfterHead payloads head rest → nat_lt (length rest) head.pieces ≡ short → list_all is_piece rest ≡ all → IsTrue (short && all) ↔ AreCutShort payloads
decide payloads head rest true true h short all = (λ _. record { head = head; pieces = rest; parts = h.is; widths = h.widths; are_pieces = all; short = grind (arith, nat_tests) }, λ _. refl)
decide payloads head rest true false h short all = (λ f. never f, λ cut. let b = back payloads head rest h cut in let both : true ≡ false = sym b.0 ∙ all in absurd (cc))
decide payloads head rest false true h short all = (λ f. never f, λ cut. let b = back payloads head rest h cut in let lt = b.1 in absurd (grind (arith, nat_tests)))
decide payloads head rest false false h short all = (λ f. never f, λ cut. let b = back payloads head rest h cut in let both : true ≡ false = sym b.0 ∙ all in absurd (cc))

pub by_head : (payloads : List (List ℕ)) (first : List ℕ) (rest : List (List ℕ)) (head : Head) (b : Bool) → payloads ≡ first ∷ rest → HasWidths head → first ≡ head_bytes head → b ≡ (nat_lt (length rest) head.pieces && list_all is_piece rest)
    → IsTrue b ↔ AreCutShort payloads
by_head payloads first rest head b is widths head_is b_is =
    subst (λ (x : Bool). IsTrue x ↔ AreCutShort payloads) (sym b_is)
    (decide payloads head rest (nat_lt (length rest) head.pieces) (list_all is_piece rest) (record { widths = widths; is = is ∙ ap (λ (x : List ℕ). x ∷ rest) head_is }) refl refl)
