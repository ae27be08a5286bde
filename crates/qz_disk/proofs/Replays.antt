-- The record of calls, read in two steps: what was synced, and what was written since.
use Rattle.std.proofs.Common.{◌≡◌, ℕ, suc, ◌+◌, ◌<◌, ◌≤◌, List, [], ◌∷◌, ◌++◌, length, take, get_or, refl, sym, ◌∙◌, ap, subst, arith, take-suc}
use Rattle.qz_disk.specs.declared.calls.Call.{Call}
use Rattle.qz_disk.specs.declared.calls.Call.TheVariants.{Len, Read, Write, Sync, Restart}
use Rattle.qz_disk.specs.Disk.{written}
use Rattle.qz_disk.specs.Memory.{Standing, at_rest, after_call, after_calls, standing_of}
use Rattle.qz_disk.proofs.MemoryCalls.{standing-push}

-- the content alone
abbrev pub content_after : List ℕ → List Call → List ℕ
content_after content [] = content
content_after content (Len ∷ calls) = content_after content calls
content_after content (Read at count ∷ calls) = content_after content calls
content_after content (Write at bytes ∷ calls) = content_after (written at bytes content) calls
content_after content (Sync ∷ calls) = content_after content calls
content_after content (Restart image ∷ calls) = content_after image calls

pub content_stands : (s : Standing) (calls : List Call) → content_after s.content calls ≡ (after_calls s calls).content
content_stands s [] = refl
content_stands s (Len ∷ calls) = content_stands s calls
content_stands s (Read at count ∷ calls) = content_stands s calls
content_stands s (Write at bytes ∷ calls) = content_stands (after_call s (Write at bytes)) calls
content_stands s (Sync ∷ calls) = content_stands (at_rest s.content) calls
content_stands s (Restart image ∷ calls) = content_stands (at_rest image) calls

-- of the first k calls, so many are up to and with the last sync or restart, and these ranges were written since
pub record IsSplit (calls : List Call) (k count : ℕ) (ranges : List (ℕ × ℕ)) : Type 0 where
  pub few : count ≤ k
  pub synced : (first : List ℕ) → (standing_of first (take count calls)).content ≡ (standing_of first (take k calls)).synced
  pub written_since : (first : List ℕ) → ranges ≡ (standing_of first (take k calls)).ranges

-- one call more
standing-step : (first : List ℕ) (calls : List Call) (k : ℕ) (call : Call) → k < length calls → call ≡ get_or calls k call → standing_of first (take (k + 1) calls) ≡ after_call (standing_of first (take k calls)) call
standing-step first calls k call lt is =
    let next : k + 1 ≡ suc k = omega arith in
    standing-push first (take k calls) (take (k + 1) calls) call (ap (λ n. take n calls) next ∙ take-suc calls k call lt ∙ ap (λ (c : Call). take k calls ++ c ∷ []) (sym is))

-- the call at that place, as an arm of a match has it
pub at_call : (calls : List Call) (k : ℕ) (read call : Call) → read ≡ get_or calls k read → read ≡ call → call ≡ get_or calls k call
at_call calls k read call there is = subst (λ (c : Call). c ≡ get_or calls k c) is there

-- the same under other names
pub split_as : (calls : List Call) (k count count_2 : ℕ) (ranges ranges_2 : List (ℕ × ℕ)) → count_2 ≡ count → ranges_2 ≡ ranges → IsSplit calls k count ranges → IsSplit calls k count_2 ranges_2
split_as calls k count count_2 ranges ranges_2 same_count same_ranges split =
    subst (λ n. IsSplit calls k n ranges_2) (sym same_count) (subst (IsSplit calls k count) (sym same_ranges) split)

pub split_same : (calls : List Call) (k count : ℕ) (ranges : List (ℕ × ℕ)) (call : Call) → ((s : Standing) → after_call s call ≡ s) → k < length calls → call ≡ get_or calls k call → IsSplit calls k count ranges → IsSplit calls (k + 1) count ranges
split_same calls k count ranges call quiet lt is split = record {
  few = omega (arith, split.few);
  synced = λ first. split.synced first ∙ sym (ap (λ (s : Standing). s.synced) (standing-step first calls k call lt is ∙ quiet _));
  written_since = λ first. split.written_since first ∙ sym (ap (λ (s : Standing). s.ranges) (standing-step first calls k call lt is ∙ quiet _));
}

pub split_write : (calls : List Call) (k count : ℕ) (ranges more : List (ℕ × ℕ)) (at : ℕ) (bytes : List ℕ) → more ≡ (at, length bytes) ∷ ranges → k < length calls → Write at bytes ≡ get_or calls k (Write at bytes) → IsSplit calls k count ranges → IsSplit calls (k + 1) count more
split_write calls k count ranges more at bytes pushed lt is split = record {
  few = omega (arith, split.few);
  synced = λ first. split.synced first ∙ sym (ap (λ (s : Standing). s.synced) (standing-step first calls k (Write at bytes) lt is));
  written_since = λ first. pushed ∙ ap (λ (l : List (ℕ × ℕ)). (at, length bytes) ∷ l) (split.written_since first) ∙ sym (ap (λ (s : Standing). s.ranges) (standing-step first calls k (Write at bytes) lt is));
}

pub split_rest : (calls : List Call) (k count : ℕ) (ranges : List (ℕ × ℕ)) (call : Call) (up : Standing → List ℕ) → ((s : Standing) → after_call s call ≡ at_rest (up s)) → k < length calls → call ≡ get_or calls k call → count ≡ k + 1 → ranges ≡ [] → IsSplit calls (k + 1) count ranges
split_rest calls k count ranges call up rests lt is count_is none =
    let here = λ (first : List ℕ). standing-step first calls k call lt is ∙ rests (standing_of first (take k calls)) in
    record {
      few = omega (arith, count_is);
      synced = λ first. ap (λ (n : ℕ). (standing_of first (take n calls)).content) count_is ∙ ap (λ (s : Standing). s.content) (here first) ∙ sym (ap (λ (s : Standing). s.synced) (here first));
      written_since = λ first. none ∙ sym (ap (λ (s : Standing). s.ranges) (here first));
    }
