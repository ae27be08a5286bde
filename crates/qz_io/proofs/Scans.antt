-- How far the pending bytes were looked at.
use Rattle.std.proofs.Common.{◌≡◌, ◌≢◌, ◌∙◌, ℕ, ◌+◌, ◌-◌, ◌≤◌, ◌<◌, List, [], ◌∷◌, ◌++◌, take, drop, length, get_or, slice_range, sym, ap, arith, subst}
use Rattle.std.proofs.lemmas.List.{get_or-take, get_or-drop, take-take}
use Rattle.std.proofs.lemmas.List.Elements.{All-append, All-take}
use Rattle.qz_io.specs.Lines.{IsOneLine, IsBeforeFeed, with_feed}
use Rattle.qz_io.specs.declared.limits.TheConstants.{LINE_LIMIT}
use Rattle.qz_io.specs.declared.readers.TheConstants.{BLOCK}
use Rattle.qz_io.specs.Reading.{IsBuffer, IsShortLine, BeginsTooLong}
use Rattle.qz_io.proofs.Slices.{slice_range-join, slice_range-one, slice_range-front, take-slice_range, length-slice_range}

-- no line feed stands from s to a place, which is at most e, and one stands there where it is below e
pub record IsScanned (xs : List ℕ) (s e stop : ℕ) : Type 0 where
  pub low : s ≤ stop
  pub high : stop ≤ e
  pub one_line : IsOneLine (slice_range xs s stop)
  pub stops : stop < e → get_or xs stop 0 ≡ 10

-- looking on from a place up to which there is none
pub scanned_on : (xs : List ℕ) (s c e n : ℕ) → s ≤ c → c ≤ e → e ≤ length xs → IsOneLine (slice_range xs s c)
    → IsBeforeFeed (slice_range xs c e) n → IsScanned xs s e (c + n)
scanned_on xs s c e n low high within clean found =
    let short : n ≤ e - c = subst (λ m. n ≤ m) (length-slice_range xs c e high within) found.within in
    let more : IsOneLine (slice_range xs c (c + n)) = subst IsOneLine (take-slice_range xs c e n short) found.one_line in
    record {
      low = omega arith;
      high = omega arith;
      one_line =
          subst IsOneLine (slice_range-join xs s c (c + n) low (omega arith)) (All-append (λ b. b ≢ 10) _ _ clean more);
      stops = λ lt.
          sym (get_or-take (e - c) (drop c xs) n 0 (omega arith) ∙ get_or-drop c xs n 0)
          ∙ found.stops (subst (λ m. n < m) (sym (length-slice_range xs c e high within)) (omega arith));
    }

-- the line up to the first line feed, the line feed, and what stands behind it
pub cut_at : (xs : List ℕ) (s e stop : ℕ) → IsScanned xs s e stop → stop < e → e ≤ length xs
    → slice_range xs s e ≡ with_feed (slice_range xs s stop) ++ slice_range xs (stop + 1) e
cut_at xs s e stop scan lt within =
    let feed : slice_range xs stop (stop + 1) ≡ 10 ∷ [] =
    slice_range-one xs stop (omega arith) ∙ ap (λ b. b ∷ []) (scan.stops lt) in
    sym (
    ap (λ line. line ++ slice_range xs (stop + 1) e)
    (ap (λ bs. slice_range xs s stop ++ bs) (sym feed) ∙ slice_range-join xs s stop (stop + 1) scan.low (omega arith))
    ∙ slice_range-join xs s (stop + 1) e (omega (arith, scan.low)) (omega arith)
    )

-- looking on in a buffer, of which `seen` is a copy
pub scanned_in : (xs seen : List ℕ) (ls le s c e n : ℕ) → IsBuffer xs ls le s c e → seen ≡ xs
    → IsBeforeFeed (slice_range seen c e) n → IsScanned xs s e (c + n)
scanned_in xs seen ls le s c e n buffer same found =
    let P : List ℕ → Type 0 = λ bs. IsBeforeFeed (slice_range bs c e) n in
    scanned_on xs s c e n buffer.low buffer.middle (omega (arith, buffer.size, buffer.high)) buffer.clean (subst P same found)

-- more bytes than a line may have, and no line feed among them
pub too_long : (xs : List ℕ) (s e stop : ℕ) → IsScanned xs s e stop → e ≤ length xs → LINE_LIMIT < stop - s
    → BeginsTooLong (slice_range xs s e)
too_long xs s e stop scan within long =
    let all : take (LINE_LIMIT + 1) (slice_range xs s e) ≡ take (LINE_LIMIT + 1) (slice_range xs s stop) =
    take-slice_range xs s e (LINE_LIMIT + 1) (omega (arith, scan.high))
    ∙ sym (take-slice_range xs s stop (LINE_LIMIT + 1) (omega arith)) in
    record {
      one_line = subst IsOneLine (sym all) (All-take (λ b. b ≢ 10) (LINE_LIMIT + 1) _ scan.one_line);
      long = subst (λ n. LINE_LIMIT < n) (sym (length-slice_range xs s e (omega (arith, scan.low, scan.high)) within)) (omega (arith, scan.high));
    }

-- no more bytes than a line may have
pub short_line : (xs : List ℕ) (s e stop : ℕ) → IsScanned xs s e stop → e ≤ length xs → stop - s ≤ LINE_LIMIT
    → IsShortLine (slice_range xs s stop)
short_line xs s e stop scan within short =
    record {
      one_line = scan.one_line;
      short = subst (λ n. n ≤ LINE_LIMIT) (sym (length-slice_range xs s stop scan.low (omega (arith, scan.high)))) short;
    }

-- a buffer whose pending bytes were moved to its front, and that may have got more behind them
pub moved_buffer : (old mid new : List ℕ) (ls le s c e end : ℕ) → IsBuffer old ls le s c e
    → take (e - s) mid ≡ slice_range old s e → length mid ≡ length old → take (e - s) new ≡ take (e - s) mid
    → length new ≡ length mid → e - s ≤ end → end ≤ BLOCK → IsBuffer new 0 0 0 (c - s) end
moved_buffer old mid new ls le s c e end buffer moved size front size' low high =
    let back : s + (c - s) ≡ c = omega (arith, buffer.low) in
    let same : slice_range new 0 (c - s) ≡ slice_range old s c =
    slice_range-front new (c - s)
    ∙ sym (take-take (c - s) (e - s) new (omega (arith, buffer.middle)))
    ∙ ap (take (c - s)) (front ∙ moved)
    ∙ take-slice_range old s e (c - s) (omega (arith, buffer.middle))
    ∙ ap (slice_range old s) back in
    record {
      size = size' ∙ size ∙ buffer.size;
      line_low = omega arith;
      line_high = omega arith;
      low = omega arith;
      middle = omega (arith, buffer.middle);
      high = high;
      clean = subst IsOneLine (sym same) buffer.clean;
    }
