-- What the line reader saw, as lines of the bytes that are ahead.
use Rattle.std.proofs.Common.{◌≡◌, ◌≢◌, ◌≤◌, ℕ, suc, zero, List, [], ◌∷◌, ◌++◌, length, take, Option, Some, None, refl, sym, ap, ◌∙◌, subst, arith, append_assoc, length-append}
use Rattle.std.specs.Io.KnownBytes.{Consumes, IsAtEnd}
use Rattle.std.proofs.lemmas.List.{append-nil, take-append-le}
use Rattle.std.proofs.lemmas.List.Elements.{All-head, All-tail}
use Rattle.std.proofs.lemmas.Bool.Decides.{nat_tests}
use Rattle.qz_io.specs.Ahead.{Ahead, BeginsWith, BeginsSome, BeginsLong}
use Rattle.qz_io.specs.Lines.{IsOneLine, lines_of, onto, with_feed}
use Rattle.qz_io.specs.Reading.{ReaderData, BeginsTooLong, FindsLine, FindsLastLine, FindsTooLong, FindsEnd}
use Rattle.qz_io.proofs.Cut.{lines_of-line, lines_of-rest}

-- a told end leaves nothing
pub at_end : (old : Option (List ℕ)) (rest : List ℕ) → IsAtEnd old → old ≡ Some rest → rest ≡ []
at_end None rest e s = absurd cc
at_end (Some xs) rest e s = let same : xs ≡ rest = cc in sym same ∙ e

-- a line with its feed was seen
pub ahead-line : (old new : Option (List ℕ)) (pending : List ℕ) (now : ReaderData) → FindsLine old new pending now → Ahead old new pending (BeginsWith now.line)
ahead-line old new pending now finds = record {
  got = finds.hands.got;
  taken = finds.hands.taken;
  ahead = λ rest told. record {
    more = lines_of (now.pending ++ rest);
    lines = ap (λ bytes. lines_of (bytes ++ rest)) finds.hands.kept ∙ ap lines_of (append_assoc (with_feed now.line) now.pending rest ∙ append_assoc now.line (10 ∷ []) (now.pending ++ rest))
        ∙ lines_of-line now.line (now.pending ++ rest) finds.line.one_line;
  };
}

-- the bytes of a last line, and nothing behind them
pub rest_bytes : (old new : Option (List ℕ)) (pending : List ℕ) (now : ReaderData) → (finds : FindsLastLine old new pending now) → pending ++ finds.hands.got ≡ now.line
rest_bytes old new pending now finds = finds.hands.kept ∙ ap (λ p. now.line ++ p) finds.all ∙ append-nil now.line

pub ahead-rest : (old new : Option (List ℕ)) (pending : List ℕ) (now : ReaderData) → FindsLastLine old new pending now → Ahead old new pending (BeginsWith now.line)
ahead-rest old new pending now finds = record {
  got = finds.hands.got;
  taken = finds.hands.taken;
  ahead = λ rest told. record {
    more = [];
    lines = ap (λ bytes. lines_of ((pending ++ finds.hands.got) ++ bytes)) (at_end new rest finds.ended told) ∙ ap lines_of (append-nil (pending ++ finds.hands.got) ∙ rest_bytes old new pending now finds)
        ∙ lines_of-rest now.line finds.some finds.line.one_line;
  };
}

long_onto : (b n : ℕ) (lines : List (List ℕ)) → record { line : List ℕ; more : List (List ℕ); is : lines ≡ line ∷ more; long : n ≤ length line }
    → record { line : List ℕ; more : List (List ℕ); is : onto b lines ≡ line ∷ more; long : suc n ≤ length line }
long_onto b n lines p = record { line = b ∷ p.line; more = p.more; is = rw p.is refl; long = omega (arith, p.long) }

one_onto : (b : ℕ) (lines : List (List ℕ)) → record { line : List ℕ; more : List (List ℕ); is : onto b lines ≡ line ∷ more; long : 1 ≤ length line }
one_onto b [] = record { line = b ∷ []; more = []; is = refl; long = omega arith }
one_onto b (l ∷ ls) = record { line = b ∷ l; more = ls; is = refl; long = omega arith }

not_feed : (b : ℕ) (bs : List ℕ) → b ≢ 10 → lines_of (b ∷ bs) ≡ onto b (lines_of bs)
not_feed b bs other = grind (arith, nat_tests)

-- bytes without a line feed among the first n begin a line of at least n bytes
long_line : (n : ℕ) (bytes : List ℕ) → IsOneLine (take (suc n) bytes) → suc n ≤ length bytes
    → record { line : List ℕ; more : List (List ℕ); is : lines_of bytes ≡ line ∷ more; long : suc n ≤ length line }
long_line n [] one long = absurd (omega arith)
long_line zero (b ∷ bs) one long = rw (not_feed b bs (All-head (λ c. c ≢ 10) b [] one)) (one_onto b (lines_of bs))
long_line (suc n) (b ∷ bs) one long =
    rw (not_feed b bs (All-head (λ c. c ≢ 10) b (take (suc n) bs) one)) (long_onto b (suc n) (lines_of bs) (long_line n bs (All-tail (λ c. c ≢ 10) b (take (suc n) bs) one) (omega arith)))

begins_long : (pending rest : List ℕ) → BeginsTooLong pending → BeginsLong (pending ++ rest)
begins_long pending rest long =
    let front : take (suc 65536) (pending ++ rest) ≡ take (suc 65536) pending = take-append-le (suc 65536) pending rest (omega (arith, long.long)) in
    let size : suc 65536 ≤ length (pending ++ rest) = simp length-append (omega (arith, long.long)) in
    let found = long_line 65536 (pending ++ rest) (subst IsOneLine (sym front) long.one_line) size in
    record {
      line = found.line;
      begins = record { more = found.more; lines = found.is };
      long = omega (arith, found.long);
    }

-- bytes that begin too long were seen
pub ahead-long : (old new : Option (List ℕ)) (pending : List ℕ) (now : ReaderData) → FindsTooLong old new pending now → Ahead old new pending BeginsLong
ahead-long old new pending now finds = record {
  got = finds.hands_nothing.hands.got;
  taken = finds.hands_nothing.hands.taken;
  ahead = λ rest told. subst (λ bytes. BeginsLong (bytes ++ rest)) (sym finds.hands_nothing.hands.kept) (begins_long now.pending rest finds.too_long);
}

-- what is known of all that may be ahead
pub ahead-map : (old new : Option (List ℕ)) (pending : List ℕ) (P Q : List ℕ → Type 0) → ((bytes : List ℕ) → P bytes → Q bytes) → Ahead old new pending P → Ahead old new pending Q
ahead-map old new pending P Q f ahead = record { got = ahead.got; taken = ahead.taken; ahead = λ rest told. f _ (ahead.ahead rest told) }

pub some_ahead : (old new : Option (List ℕ)) (pending line : List ℕ) → Ahead old new pending (BeginsWith line) → Ahead old new pending BeginsSome
some_ahead old new pending line ahead = ahead-map old new pending (BeginsWith line) BeginsSome (λ bytes begins. record { line = line; begins = begins }) ahead

pub some_long : (old new : Option (List ℕ)) (pending : List ℕ) (now : ReaderData) → FindsTooLong old new pending now → Ahead old new pending BeginsSome
some_long old new pending now finds =
    ahead-map old new pending BeginsLong BeginsSome (λ bytes begins. record { line = begins.line; begins = begins.begins }) (ahead-long old new pending now finds)

nothing : (xs ys : List ℕ) → xs ++ ys ≡ [] → (xs ≡ []) × (ys ≡ [])
nothing [] ys e = (refl, e)
nothing (x ∷ xs) ys e = absurd cc

-- nothing was pending and nothing came
pub end_ahead : (old new : Option (List ℕ)) (pending : List ℕ) (now : ReaderData) → FindsEnd old new pending now → Consumes old new [] × (pending ≡ []) × IsAtEnd new
end_ahead old new pending now finds =
    let both = nothing pending finds.hands_nothing.hands.got (finds.hands_nothing.hands.kept ∙ finds.all) in
    (subst (Consumes old new) both.1 finds.hands_nothing.hands.taken, both.0, finds.ended)
