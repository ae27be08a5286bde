-- The room that payloads take.
use Rattle.std.proofs.Common.{◌≡◌, ⊎_elim, inl, inr, ℕ, ◌+◌, ◌-◌, ◌<◌, ◌≤◌, Bool, true, false, nat_lt, if◌then◌else◌, List, [], ◌∷◌, ◌++◌, ◌^◌, length, replicate, refl, ap, ◌∙◌, arith, length-append}
use Rattle.std.proofs.lemmas.Bool.{ltb-true, ltb-false}
use Rattle.qz_journal.proofs.GroupBytes.{no_more}
use Rattle.qz_journal.proofs.Stands.{length-body, blocks-push}
use Rattle.qz_journal.proofs.TrueTails.{blocks-append}
use Rattle.qz_journal.specs.declared.layout.TheConstants.{MAX_BYTES, MAX_PAYLOADS}
use Rattle.qz_journal.specs.Commits.{LackRoom, HaveRoom, IsFullFor, room_for}
use Rattle.qz_journal.specs.Layout.{body_of, blocks, end_of}

pub with_head : (head : List ℕ) (ps : List (List ℕ)) → length head ≡ 53 → length (blocks (head ∷ ps)) ≡ 58 + length (blocks ps)
with_head head ps long = omega (arith, length-append (body_of head) (blocks ps), length-body head, long)

pub one_more : (ps qs : List (List ℕ)) (p : List ℕ) → qs ≡ ps ++ p ∷ [] → length (blocks qs) ≡ length (blocks ps) + (5 + length p)
one_more ps qs p is = ap (λ (l : List (List ℕ)). length (blocks l)) is ∙ ap length (blocks-push ps p) ∙ omega (arith, length-append (blocks ps) (165 ∷ body_of p), length-body p)

pub too_many : (head : List ℕ) (ps : List (List ℕ)) (offset count n : ℕ) → n ≡ length ps → MAX_PAYLOADS - count ≤ n → LackRoom (head ∷ ps) offset count
too_many head ps offset count n is le = inr (omega (arith, is, le))

pub too_long : (head : List ℕ) (ps : List (List ℕ)) (offset count n : ℕ) → length head ≡ 53 → n ≡ length (blocks ps) → MAX_BYTES - 1 - offset < 58 + n → LackRoom (head ∷ ps) offset count
too_long head ps offset count n long is lt = inl (omega (arith, with_head head ps long, is, lt))

pub enough : (head : List ℕ) (ps : List (List ℕ)) (offset count n m : ℕ) → length head ≡ 53 → n ≡ length (blocks ps) → 58 + n ≤ MAX_BYTES - 1 - offset → m ≡ length ps → m < MAX_PAYLOADS - count → HaveRoom (head ∷ ps) offset count
enough head ps offset count n m long is le m_is lt = (omega (arith, with_head head ps long, is, le), omega (arith, m_is, lt))

pub end_both : (all ps : List (List ℕ)) → end_of (all ++ ps) ≡ end_of all + length (blocks ps)
end_both all ps = omega (arith, ap length (blocks-append all ps), length-append (blocks all) (blocks ps))

pub gate_on : (all ps : List (List ℕ)) (gate offset : ℕ) → gate ≡ offset + length (blocks ps) → offset ≡ end_of all → gate ≡ end_of (all ++ ps)
gate_on all ps gate offset is offset_is = omega (arith, end_both all ps, is, offset_is)

-- so few that their number has four bytes
pub record AreFew (ps : List (List ℕ)) (count : ℕ) : Type 0 where
  pub before : count < 4294967296
  pub pieces : length ps < 4294967296

pub few : (ps : List (List ℕ)) (offset count : ℕ) → ((head : List ℕ) → length head ≡ 53 → HaveRoom (head ∷ ps) offset count) → AreFew ps count
few ps offset count room =
    let here = room (replicate 53 0) refl in
    record { before = omega (arith, here.1); pieces = omega (arith, here.1) }

-- a snapshot is early enough for its offset to have four bytes
pub early : (p : List ℕ) (ps : List (List ℕ)) (offset count : ℕ) → HaveRoom (p ∷ ps) offset count → offset < 2 ^ 32
early p ps offset count room = omega (arith, room.0)

room_by : (offset count n : ℕ) (c : Bool) → nat_lt (MAX_PAYLOADS - count) n ≡ c → room_for offset count n ≡ (if c then 0 else MAX_BYTES - (offset + 1))
room_by offset count n c is = ap (λ b. if b then 0 else MAX_BYTES - (offset + 1)) is

-- payloads that lack room need more bytes than there are
pub full_by : (ps : List (List ℕ)) (offset count need room : ℕ) → count ≤ MAX_PAYLOADS → LackRoom ps offset count → need ≡ length (blocks ps) → room ≡ room_for offset count (length ps) → IsFullFor ps offset count need room
full_by ps offset count need room few lack need_is room_is = (
  need_is,
  room_is,
  elim (nat_lt (MAX_PAYLOADS - count) (length ps)) as (λ c. nat_lt (MAX_PAYLOADS - count) (length ps) ≡ c → room < need) [
    | true ↦ λ lt. omega (arith, ltb-true (MAX_PAYLOADS - count) (length ps) lt, no_more ps, need_is, room_is, room_by offset count (length ps) true lt)
    | false ↦ λ ge. ⊎_elim
        (λ long. omega (arith, long, need_is, room_is, room_by offset count (length ps) false ge))
        (λ many. absurd (omega (arith, few, many, ltb-false (MAX_PAYLOADS - count) (length ps) ge)))
        lack
  ] refl,
)
