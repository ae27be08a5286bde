-- The parts of a stream's bytes.
use Rattle.std.proofs.Common.{◌≡◌, ⊎_elim, lit<, add-one, ℕ, ◌+◌, ◌<◌, ◌≤◌, List, [], ◌∷◌, ◌++◌, length, get_or, take, drop, refl, sym, ◌∙◌, ap, subst, arith, append_assoc, append-nil, length-append, length-take, length-drop, take-append-drop}
use Rattle.std.specs.Int.{w32, to_be_bytes}
use Rattle.std.proofs.lemmas.Bool.{cases_lt}
use Rattle.std.proofs.lemmas.List.{drop_at, get_or-take, get_or_past}
use Rattle.std.proofs.lemmas.List.Elements.{All-push}
use Rattle.std.proofs.lemmas.Nat.{be_bytes_4}
use Rattle.qz_journal.proofs.Stands.{blocks-push}
use Rattle.qz_journal.specs.Layout.{IsPayload, body_of, blocks}
use Rattle.qz_stream.specs.Blocks.{Splits, MayFollow, IsBlock, announced}

-- the payload of a block
pub drop-block : (p : List ℕ) → drop 5 (165 ∷ body_of p) ≡ p
drop-block p = drop_at (to_be_bytes w32 (length p)) p 4 refl

-- further bytes are put to the tail
pub splits-append : (bytes more : List ℕ) (ps : List (List ℕ)) (tail : List ℕ) → Splits bytes ps tail → Splits (bytes ++ more) ps (tail ++ more)
splits-append bytes more ps tail s = record {
  head = s.head;
  long = s.long;
  front = s.front;
  sizes = s.sizes;
  whole = ap (λ (l : List ℕ). l ++ more) s.whole ∙ append_assoc s.head (blocks ps ++ tail) more ∙ ap (λ (l : List ℕ). s.head ++ l) (append_assoc (blocks ps) tail more);
}

-- a tail that is just a block is one payload more
pub splits-push : (bytes : List ℕ) (ps : List (List ℕ)) (p tail : List ℕ) → Splits bytes ps tail → IsPayload p → tail ≡ 165 ∷ body_of p → Splits bytes (ps ++ p ∷ []) []
splits-push bytes ps p tail s size is = record {
  head = s.head;
  long = s.long;
  front = s.front;
  sizes = All-push IsPayload ps p s.sizes size;
  whole = s.whole ∙ ap (λ (l : List ℕ). s.head ++ l) (ap (λ (l : List ℕ). blocks ps ++ l) is ∙ sym (blocks-push ps p) ∙ sym (append-nil (blocks (ps ++ p ∷ []))));
}

pub splits-long : (bytes : List ℕ) (ps : List (List ℕ)) (tail : List ℕ) → Splits bytes ps tail → 16 ≤ length bytes
splits-long bytes ps tail s = omega (arith, ap length s.whole, length-append s.head (blocks ps ++ tail), s.long)

-- four bytes of a list of bytes
small_take : (xs : List ℕ) → ((i : ℕ) → get_or xs i 0 < 256) → (i : ℕ) → get_or (take 4 xs) i 0 < 256
small_take xs small i = ⊎_elim
    (λ early. subst (λ (n : ℕ). n < 256) (sym (get_or-take 4 xs i 0 early)) (small i))
    (λ late. subst (λ (n : ℕ). n < 256) (sym (get_or_past (take 4 xs) i 0 (omega (arith, length-take 4 xs)))) (lit< tt)) (cases_lt i 4)

get_or-next : (x : ℕ) (xs : List ℕ) (i : ℕ) → get_or (x ∷ xs) (i + 1) 0 ≡ get_or xs i 0
get_or-next x xs i = rw add-one refl

-- an open gate, four bytes, and as many as these announce
pub block_here : (tail behind : List ℕ) (gate first : ℕ) → tail ≡ first ∷ behind → first ≡ 165 → ((i : ℕ) → get_or tail i 0 < 256) → 4 ≤ length behind → MayFollow gate (announced behind) → length behind ≡ 4 + announced behind → IsBlock gate tail
block_here tail behind gate first tail_is opened bytes long may size =
    let payload = drop 4 behind in
    let size_is : length payload ≡ announced behind = omega (arith, length-drop 4 behind, size) in
    let small : (i : ℕ) → get_or behind i 0 < 256 = λ i. subst (λ (n : ℕ). n < 256) (ap (λ (l : List ℕ). get_or l (i + 1) 0) tail_is ∙ get_or-next first behind i) (bytes (i + 1)) in
    let four : to_be_bytes w32 (length payload) ≡ take 4 behind = be_bytes_4 (take 4 behind) (length payload) (omega (arith, length-take 4 behind, long)) (small_take behind small) size_is in
    record {
      payload = payload;
      may_follow = subst (MayFollow gate) (sym size_is) may;
      is = tail_is ∙ ap (λ (n : ℕ). n ∷ behind) opened ∙ ap (λ (l : List ℕ). 165 ∷ l) (sym (take-append-drop 4 behind) ∙ ap (λ (l : List ℕ). l ++ payload) (sym four));
    }
