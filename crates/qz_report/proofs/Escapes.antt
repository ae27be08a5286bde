-- The escapes of the library are those of names.
use Rattle.std.proofs.Common.{◌≡◌, ◌≢◌, ◌<◌, ℕ, List, [], ◌∷◌, ◌++◌, Bool, true, false, not, cond, refl, ap, ◌∙◌, All, arith}
use Rattle.std.specs.Prelude.{◌||◌, ◌==◌, nat_lt}
use Rattle.std.specs.Char.{is_ascii}
use Rattle.std.proofs.lemmas.Bool.{agree_below, agree_below_at}
use Rattle.std.proofs.lemmas.List.Elements.{All-head, All-tail}
use Rattle.percent_encoding.specs.declared.ascii_set.AsciiSet.{AsciiSet}
use Rattle.percent_encoding.specs.declared.ascii_set.TheConstants.{CONTROLS}
use Rattle.percent_encoding.specs.AsciiSet.{contains, should_percent_encode}
use Rattle.percent_encoding.specs.Percent.{percent_encode_byte, encode_byte, percent_encode}
use Rattle.percent_encoding.proofs.PercentLemmas.{IsByte}
use Rattle.percent_encoding.proofs.StandardFacts.{controls}
use Rattle.qz_report.specs.Names.{is_plain, escaped_byte, escaped}

-- a set with one byte more
pub with_byte : (set more : AsciiSet) (byte : ℕ) → contains more byte ≡ true → ((b : ℕ) → b ≢ byte → contains more b ≡ contains set b) → (b : ℕ) → contains more b ≡ ((b == byte) || contains set b)
with_byte set more byte added others b = by_byte (b == byte) refl
  where
    by_byte : (same : Bool) → (b == byte) ≡ same → contains more b ≡ (same || contains set b)
    by_byte true is = let e : b ≡ byte = grind (arith, is) in rw e added
    by_byte false is = others b (λ e. grind (arith, is, e))

-- the bytes of ASCII that aren't plain
abbrev among : ℕ → Bool
among b = (b == 37) || ((b == 47) || ((b == 32) || (nat_lt b 32 || (b == 127))))

pub all_bytes : agree_below (λ b. not (is_ascii b) || among b) (λ b. not (is_plain b)) 256 ≡ true
all_bytes = refl

pub escapes : (set : AsciiSet) → ((b : ℕ) → contains set b ≡ ((b == 37) || ((b == 47) || ((b == 32) || contains CONTROLS b)))) → (b : ℕ) → b < 256 → should_percent_encode set b ≡ not (is_plain b)
unfolding should_percent_encode
escapes set has b small = by_ascii (is_ascii b) refl ∙ agree_below_at (λ b. not (is_ascii b) || among b) (λ b. not (is_plain b)) 256 b all_bytes small
  where
    by_ascii : (ascii : Bool) → is_ascii b ≡ ascii → (not ascii || contains set b) ≡ (not ascii || among b)
    by_ascii true is =
        has b ∙ ap (λ c. (b == 37) || ((b == 47) || ((b == 32) || c))) (agree_below_at (contains CONTROLS) (λ b. nat_lt b 32 || (b == 127)) 128 b controls (grind (arith, is)))
    by_ascii false is = refl

same_byte : (set : AsciiSet) (b : ℕ) → should_percent_encode set b ≡ not (is_plain b) → encode_byte set b ≡ escaped_byte b
same_byte set b is = ap (λ test. cond test (percent_encode_byte b) (b ∷ [])) is ∙ other_way (is_plain b)
  where
    other_way : (test : Bool) → cond (not test) (percent_encode_byte b) (b ∷ []) ≡ cond test (b ∷ []) (percent_encode_byte b)
    other_way true = refl
    other_way false = refl

pub same_text : (set : AsciiSet) → ((b : ℕ) → b < 256 → should_percent_encode set b ≡ not (is_plain b)) → (bytes : List ℕ) → All IsByte bytes → percent_encode set bytes ≡ escaped bytes
unfolding percent_encode
same_text set is [] small = refl
same_text set is (b ∷ bytes) small =
    ap (λ text. text ++ percent_encode set bytes) (same_byte set b (is b (All-head IsByte b bytes small))) ∙ ap (λ text. escaped_byte b ++ text) (same_text set is bytes (All-tail IsByte b bytes small))
