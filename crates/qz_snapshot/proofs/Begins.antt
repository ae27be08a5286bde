-- Payloads that begin with a head and its pieces do so in one way.
use Rattle.std.proofs.Common.{◌≡◌, ℕ, ◌<◌, List, [], ◌∷◌, ◌++◌, length, take, drop, get_or, sym, ap, subst, ◌∙◌, arith, length-append}
use Rattle.std.proofs.lemmas.List.{take_at}
use Rattle.qz_pieces.specs.Pieces.{RowBytes}
use Rattle.qz_pieces.specs.Payloads.{ArePiecesOf}
use Rattle.qz_snapshot.specs.declared.heads.Head.{Head}
use Rattle.qz_snapshot.specs.Heads.{head_bytes, HasWidths}
use Rattle.qz_snapshot.specs.Snapshots.{BeginsPieces}
use Rattle.qz_snapshot.proofs.HeadBytes.{heads_once}

-- the head that was read is that one, and what follows it begins with those pieces
record IsThat (h k : Head) (rest pieces more : List (List ℕ)) : Type 0 where
  pub same : k ≡ h
  pub rest_is : rest ≡ pieces ++ more

is_that : (payloads : List (List ℕ)) (first : List ℕ) (rest : List (List ℕ)) (h k : Head) (rows : List RowBytes) (more : List (List ℕ)) → payloads ≡ first ∷ rest → HasWidths h → first ≡ head_bytes h
    → (b : BeginsPieces payloads k rows more) → IsThat h k rest b.pieces more
is_that payloads first rest h k rows more is widths first_is b =
    let whole : head_bytes k ∷ (b.pieces ++ more) ≡ first ∷ rest = sym b.parts ∙ is in
    record {
      same = heads_once k h b.widths widths (ap (λ (l : List (List ℕ)). get_or l 0 []) whole ∙ first_is);
      rest_is = sym (ap (λ (l : List (List ℕ)). drop 1 l) whole);
    }

pub no_head : (payloads : List (List ℕ)) (first : List ℕ) (rest : List (List ℕ)) → payloads ≡ first ∷ rest → ((h : Head) → first ≡ head_bytes h → ⊥)
    → (k : Head) (rows : List RowBytes) (more : List (List ℕ)) → BeginsPieces payloads k rows more → ⊥
no_head payloads first rest is none k rows more b = none k (sym (ap (λ (l : List (List ℕ)). get_or l 0 []) (sym b.parts ∙ is)))

pub no_payload : (payloads : List (List ℕ)) → length payloads ≡ 0 → (k : Head) (rows : List RowBytes) (more : List (List ℕ)) → BeginsPieces payloads k rows more → ⊥
no_payload payloads is k rows more b = omega (arith, is, ap length b.parts)

pub too_few : (payloads : List (List ℕ)) (first : List ℕ) (rest : List (List ℕ)) (h : Head) → payloads ≡ first ∷ rest → HasWidths h → first ≡ head_bytes h → length rest < h.pieces
    → (k : Head) (rows : List RowBytes) (more : List (List ℕ)) → BeginsPieces payloads k rows more → ⊥
too_few payloads first rest h is widths first_is few k rows more b =
    let t = is_that payloads first rest h k rows more is widths first_is b in
    omega (arith, few, ap (λ (x : Head). x.pieces) t.same, b.pieces_is, ap length t.rest_is, length-append b.pieces more)

pub not_cut : (payloads : List (List ℕ)) (first : List ℕ) (rest pieces : List (List ℕ)) (h : Head) → payloads ≡ first ∷ rest → HasWidths h → first ≡ head_bytes h → pieces ≡ take h.pieces rest
    → ((rows : List RowBytes) → ArePiecesOf pieces rows → ⊥) → (k : Head) (rows : List RowBytes) (more : List (List ℕ)) → BeginsPieces payloads k rows more → ⊥
not_cut payloads first rest pieces h is widths first_is pieces_are none k rows more b =
    let t = is_that payloads first rest h k rows more is widths first_is b in
    let count : length b.pieces ≡ h.pieces = sym b.pieces_is ∙ ap (λ (x : Head). x.pieces) t.same in
    let those : pieces ≡ b.pieces = pieces_are ∙ ap (λ (l : List (List ℕ)). take h.pieces l) t.rest_is ∙ take_at b.pieces more h.pieces count in
    none rows (subst (λ (l : List (List ℕ)). ArePiecesOf l rows) (sym those) b.cut)

pub begins : (payloads : List (List ℕ)) (first : List ℕ) (rest pieces more : List (List ℕ)) (h : Head) (rows : List RowBytes) → payloads ≡ first ∷ rest → HasWidths h → first ≡ head_bytes h → rest ≡ pieces ++ more
    → h.pieces ≡ length pieces → ArePiecesOf pieces rows → (after : List (List ℕ)) × BeginsPieces payloads h rows after
begins payloads first rest pieces more h rows is widths first_is rest_is count cut = (
  more,
  record {
    widths = widths;
    pieces = pieces;
    parts = is ∙ (λ i. first_is i ∷ rest_is i);
    pieces_is = count;
    cut = cut;
  },
)
