-- Places among the blocks of payloads.
use Rattle.std.proofs.Common.{◌≡◌, ℕ, ◌+◌, ◌*◌, ◌<◌, ◌≤◌, List, [], ◌∷◌, ◌++◌, length, get_or, take, drop, suc, sym, ◌∙◌, ap, arith, append_assoc, length-append}
use Rattle.std.proofs.Math.Seq.{split_at}
use Rattle.std.specs.List.{AllByRecursion}
use Rattle.std.proofs.lemmas.List.{take_more}
use Rattle.qz_journal.specs.Commits.{need_of}
use Rattle.qz_journal.specs.Layout.{body_of, blocks, end_from}
use Rattle.qz_journal.proofs.Stands.{end_of-push, length-body}
use Rattle.qz_journal.proofs.TrueTails.{blocks-append}

-- no place passes the last one
within : (payloads ps : List (List ℕ)) (p : List ℕ) (rest : List (List ℕ)) → payloads ≡ ps ++ p ∷ rest → length (blocks ps) + need_of (length p) ≤ length (blocks payloads)
within payloads ps p rest whole =
    omega (
      arith,
      ap (λ (l : List (List ℕ)). length (blocks l)) whole,
      ap (λ (l : List (List ℕ)). length (blocks l)) (sym (append_assoc ps (p ∷ []) rest)),
      ap length (blocks-append (ps ++ p ∷ []) rest),
      length-append (blocks (ps ++ p ∷ [])) (blocks rest),
      end_of-push ps p,
    )

-- payloads, cut at the one that is at this place
pub cut_at : (ps : List (List ℕ)) (i : ℕ) (p : List ℕ) → i < length ps → p ≡ get_or ps i p → ps ≡ take i ps ++ p ∷ drop (suc i) ps
cut_at ps i p below is = split_at ps i p below ∙ ap (λ (x : List ℕ). take i ps ++ x ∷ drop (suc i) ps) (sym is)

-- and those up to it
pub one_more : (ps : List (List ℕ)) (i : ℕ) (p : List ℕ) → i < length ps → p ≡ get_or ps i p → take (i + 1) ps ≡ take i ps ++ p ∷ []
one_more ps i p below is = take_more ps i p below ∙ ap (λ (x : List ℕ). take i ps ++ x ∷ []) (sym is)

pub gate_fits : (start : ℕ) (ps : List (List ℕ)) (i : ℕ) (p : List ℕ) (gate : ℕ) → i < length ps → p ≡ get_or ps i p → gate ≡ end_from start (take i ps) → gate + need_of (length p) ≤ end_from start ps
gate_fits start ps i p gate below is gate_is = omega (arith, within ps (take i ps) p (drop (suc i) ps) (cut_at ps i p below is), gate_is)

pub taken_gate : (start : ℕ) (payloads : List (List ℕ)) (i : ℕ) (p : List ℕ) (gate : ℕ) → i < length payloads → p ≡ get_or payloads i p → gate ≡ end_from start (take i payloads)
    → gate + need_of (length p) ≡ end_from start (take (i + 1) payloads)
taken_gate start payloads i p gate below at_is gate_is =
    omega (arith, gate_is, ap (λ (l : List (List ℕ)). length (blocks l)) (one_more payloads i p below at_is), end_of-push (take i payloads) p)

-- each block has five bytes at least
pub many_bytes : (ps : List (List ℕ)) → 5 * length ps ≤ length (blocks ps)
many_bytes [] = omega arith
many_bytes (p ∷ ps) = omega (arith, many_bytes ps, length-append (body_of p) (blocks ps), length-body p)

pub All-pushed : {A : Type 0} (P : A → Type 0) (xs : List A) (x : A) → AllByRecursion P xs → P x → AllByRecursion P (xs ++ x ∷ [])
All-pushed P [] x all is = (is, tt)
All-pushed P (y ∷ xs) x all is = (all.0, All-pushed P xs x all.1 is)
