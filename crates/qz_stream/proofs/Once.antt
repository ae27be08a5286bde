-- The bytes that were fed have one list of payloads.
use Rattle.std.proofs.Common.{◌≡◌, ◌≢◌, ◌⊎◌, ⊎_elim, inl, inr, ℕ, suc, ◌+◌, ◌<◌, List, [], ◌∷◌, ◌++◌, length, get_or, take, drop, refl, sym, ◌∙◌, ap, subst, arith, append_assoc, append-nil, length-append}
use Rattle.std.specs.Int.{w32, to_be_bytes, from_be_bytes}
use Rattle.std.proofs.lemmas.List.{take_at, drop_at}
use Rattle.std.proofs.lemmas.Nat.{from_be_bytes-to_be_bytes_4}
use Rattle.qz_journal.proofs.Once.{same_bodies}
use Rattle.qz_journal.proofs.Stands.{length-body}
use Rattle.qz_journal.specs.Layout.{IsPayload, body_of, blocks}
use Rattle.qz_stream.proofs.Fronts.{get_or-append}
use Rattle.qz_stream.proofs.Parts.{splits-long}
use Rattle.qz_stream.specs.Blocks.{Splits, HasNoBlock, AreTaken, announced, IsUnfinished, IsShut, IsBadPlace}
use Rattle.qz_stream.specs.Front.{IsFrontByte, IsBadFront}
use Rattle.qz_stream.specs.declared.place.Place.{Place}
use Rattle.qz_stream.specs.declared.place.Place.TheVariants as place
use Rattle.qz_stream.specs.Standing.{Standing, StandsAt, IsAfter}

-- the length that a block announces
pub announced-body : (p rest : List ℕ) → IsPayload p → announced (body_of p ++ rest) ≡ length p
announced-body p rest size =
    ap (from_be_bytes w32) (ap (λ (l : List ℕ). take 4 l) (append_assoc (to_be_bytes w32 (length p)) p rest) ∙ take_at (to_be_bytes w32 (length p)) (p ++ rest) 4 refl)
    ∙ from_be_bytes-to_be_bytes_4 (length p) (omega (arith, size.1))

-- These payloads are the first of those, and the bytes after them begin with the block of the next.
pub record IsLess (ps qs : List (List ℕ)) (x : List ℕ) : Type 0 where
  pub next : List ℕ
  pub more : List (List ℕ)
  pub rest : List ℕ
  pub size : IsPayload next
  pub are : qs ≡ ps ++ next ∷ more
  pub is : x ≡ 165 ∷ (body_of next ++ rest)

less-cons : (p q : List ℕ) (ps qs : List (List ℕ)) (x : List ℕ) → p ≡ q → IsLess ps qs x → IsLess (p ∷ ps) (q ∷ qs) x
less-cons p q ps qs x same less = record {
  next = less.next;
  more = less.more;
  rest = less.rest;
  size = less.size;
  are = (λ i. sym same i ∷ less.are i);
  is = less.is;
}

-- two readings of the same bytes
compared : (ps qs : List (List ℕ)) (x y : List ℕ) → ((k : ℕ) → k < length ps → IsPayload (get_or ps k [])) → ((k : ℕ) → k < length qs → IsPayload (get_or qs k [])) → blocks ps ++ x ≡ blocks qs ++ y
    → ((ps ≡ qs) × (x ≡ y)) ⊎ (IsLess ps qs x ⊎ IsLess qs ps y)
compared [] [] x y p_sizes q_sizes same = inl (refl, same)
compared [] (q ∷ qs) x y p_sizes q_sizes same =
    inr (inl (record { next = q; more = qs; rest = blocks qs ++ y; size = q_sizes 0 (omega arith); are = refl; is = same ∙ ap (λ (l : List ℕ). 165 ∷ l) (append_assoc (body_of q) (blocks qs) y) }))
compared (p ∷ ps) [] x y p_sizes q_sizes same =
    inr (inr (record { next = p; more = ps; rest = blocks ps ++ x; size = p_sizes 0 (omega arith); are = refl; is = sym same ∙ ap (λ (l : List ℕ). 165 ∷ l) (append_assoc (body_of p) (blocks ps) x) }))
compared (p ∷ ps) (q ∷ qs) x y p_sizes q_sizes same =
    let inner : body_of p ++ (blocks ps ++ x) ≡ body_of q ++ (blocks qs ++ y) = sym (append_assoc (body_of p) (blocks ps) x) ∙ ap (λ (l : List ℕ). drop 1 l) same ∙ append_assoc (body_of q) (blocks qs) y in
    let both = same_bodies p q _ _ (let size = p_sizes 0 (omega arith) in omega (arith, size.1)) (let size = q_sizes 0 (omega arith) in omega (arith, size.1)) inner in
    ⊎_elim (λ found. inl ((λ i. both.0 i ∷ found.0 i), found.1))
    (λ found. inr (⊎_elim (λ less. inl (less-cons p q ps qs x both.0 less)) (λ less. inr (less-cons q p qs ps y (sym both.0) less)) found))
    (compared ps qs x y (λ k lt. p_sizes (suc k) (omega arith)) (λ k lt. q_sizes (suc k) (omega arith)) both.1)

pub splits-compared : (bytes : List ℕ) (ps qs : List (List ℕ)) (x y : List ℕ) → Splits bytes ps x → Splits bytes qs y → ((ps ≡ qs) × (x ≡ y)) ⊎ (IsLess ps qs x ⊎ IsLess qs ps y)
splits-compared bytes ps qs x y p q =
    let same : blocks ps ++ x ≡ blocks qs ++ y = sym (drop_at p.head (blocks ps ++ x) 16 p.long) ∙ ap (λ (l : List ℕ). drop 16 l) (sym p.whole ∙ q.whole) ∙ drop_at q.head (blocks qs ++ y) 16 q.long in
    compared ps qs x y (λ k lt. p.sizes k [] lt) (λ k lt. q.sizes k [] lt) same

-- What isn't a whole block.
pub no_block-unfinished : (gate : ℕ) (tail : List ℕ) → IsUnfinished gate tail → HasNoBlock tail
no_block-unfinished gate [] is p rest size same = cc
no_block-unfinished gate (first ∷ behind) is p rest size same =
    let inner : behind ≡ body_of p ++ rest = ap (λ (l : List ℕ). drop 1 l) same in
    let long : length behind ≡ 4 + length p + length rest = omega (arith, ap (λ (l : List ℕ). length l) inner, length-append (body_of p) rest, length-body p) in
    let says : announced behind ≡ length p = ap announced inner ∙ announced-body p rest size in
    ⊎_elim (λ few. omega (arith, few, long)) (λ part. omega (arith, part.1, says, long)) is.1

pub no_block-shut : (tail : List ℕ) → IsShut tail → HasNoBlock tail
no_block-shut tail is p rest size same = is.shut (ap (λ (l : List ℕ). get_or l 0 0) (sym is.is ∙ same))

pub no_block-nil : HasNoBlock []
no_block-nil p rest size same = cc

pub no_block-less : (ps qs : List (List ℕ)) (x : List ℕ) → HasNoBlock x → IsLess ps qs x → ⊥
no_block-less ps qs x none less = none less.next less.rest less.size less.is

-- a header is no bad front
pub no_splits-bad : (bytes : List ℕ) (at : ℕ) → IsBadFront bytes at → (ps : List (List ℕ)) (tail : List ℕ) → Splits bytes ps tail → ⊥
no_splits-bad bytes at bad ps tail s =
    let there : at < length s.head = omega (arith, bad.early, s.long) in
    bad.bad (subst (IsFrontByte at) (sym (ap (λ (l : List ℕ). get_or l at 0) s.whole ∙ get_or-append s.head (blocks ps ++ tail) at there)) (s.front at bad.early there))

pub no_splits-short : (bytes : List ℕ) → length bytes < 16 → (ps : List (List ℕ)) (tail : List ℕ) → Splits bytes ps tail → ⊥
no_splits-short bytes short ps tail s = omega (arith, short, splits-long bytes ps tail s)

-- a list of payloads is taken once
pub taken_once : (bytes : List ℕ) (ps qs : List (List ℕ)) → AreTaken bytes ps → AreTaken bytes qs → ps ≡ qs
taken_once bytes ps qs (inl p) (inl q) =
    ⊎_elim (λ same. same.0)
    (λ less. absurd (⊎_elim (λ l. no_block-less ps qs p.0 p.2 l) (λ l. no_block-less qs ps q.0 q.2 l) less))
    (splits-compared bytes ps qs p.0 q.0 p.1 q.1)
taken_once bytes ps qs (inl p) (inr q) = absurd (q.1 ps p.0 p.1)
taken_once bytes ps qs (inr p) (inl q) = absurd (p.1 qs q.0 q.1)
taken_once bytes ps qs (inr p) (inr q) = p.0 ∙ sym q.0

-- without a bad place all that are there are handed out
taken-at : (at : Place) (fed : List ℕ) (ps : List (List ℕ)) (gate : ℕ) (tail : List ℕ) → at ≢ place.Bad → StandsAt at fed ps gate tail → AreTaken fed ps
taken-at place.Header fed ps gate tail not_bad is = inr (is.none, no_splits-short fed is.short)
taken-at place.Block fed ps gate tail not_bad is = inl (tail, is.splits, no_block-unfinished gate tail is.unfinished)
taken-at place.Whole fed ps gate tail not_bad is = inl ([], is.splits, no_block-nil)
taken-at place.Ended fed ps gate tail not_bad is = inl (is.tail, is.splits, no_block-shut is.tail is.shut)
taken-at place.Bad fed ps gate tail not_bad is = absurd (not_bad refl)

pub taken-after : (fed : List ℕ) (ps : List (List ℕ)) (s : Standing) → IsAfter fed ps s → s.place ≢ place.Bad → AreTaken fed ps
taken-after fed ps s is not_bad = taken-at s.place fed ps s.gate s.tail not_bad is.stands

-- before a bad place are the first of them
pub taken-before : (fed : List ℕ) (ps qs : List (List ℕ)) (at : ℕ) → IsBadPlace fed ps at → AreTaken fed qs → (more : List (List ℕ)) × (qs ≡ ps ++ more)
taken-before fed ps qs at (inl front) taken = (qs, sym (ap (λ (l : List (List ℕ)). l ++ qs) front.1))
taken-before fed ps qs at (inr gate) (inr none) = absurd (none.1 ps gate.tail gate.splits)
taken-before fed ps qs at (inr gate) (inl taken) =
    ⊎_elim (λ same. ([], sym same.0 ∙ sym (append-nil ps)))
    (λ less. ⊎_elim (λ l. (l.next ∷ l.more, l.are)) (λ l. absurd (no_block-less qs ps taken.0 taken.2 l)) less)
    (splits-compared fed ps qs gate.tail taken.0 gate.splits taken.1)
