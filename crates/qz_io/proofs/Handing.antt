-- What a line reader takes and hands out over several steps, and what its answers say of the lines ahead.
use Rattle.std.proofs.Common.{◌≡◌, ◌∙◌, ℕ, List, [], ◌∷◌, ◌++◌, Option, None, Some, sym, ap, append_assoc, append-nil}
use Rattle.std.specs.Io.KnownBytes.{Consumes, Keeps}
use Rattle.std.proofs.KnownBytes.{Consumes-nil, Consumes-trans, Consumes-kept}
use Rattle.qz_io.specs.Lines.{lines_of, with_feed}
use Rattle.qz_io.specs.Reading.{ReaderData, Hands, FindsLine, FindsLastLine, FindsEnd, ahead}
use Rattle.qz_io.proofs.Cut.{lines_of-line, lines_of-rest}

-- before the first step nothing was taken
pub Hands-none : (old : Option (List ℕ)) (pending : List ℕ) → Hands old old pending pending []
Hands-none old pending = record { got = []; taken = Consumes-nil old; kept = append-nil pending }

-- a step that only takes
pub Hands-more : (a b c : Option (List ℕ)) (p q r got : List ℕ) → Hands a b p q [] → Consumes b c got → r ≡ q ++ got
    → Hands a c p r []
Hands-more a b c p q r got before taken more =
    record {
      got = before.got ++ got;
      taken = Consumes-trans a b c before.got got before.taken taken;
      kept = sym (append_assoc p before.got got) ∙ ap (λ bs. bs ++ got) before.kept ∙ sym more;
    }

-- a step that leaves the source as it was
pub Hands-kept : (a b c : Option (List ℕ)) (p q : List ℕ) → Hands a b p q [] → Keeps b c → Hands a c p q []
Hands-kept a b c p q before same =
    record { got = before.got; taken = Consumes-kept a b c before.got before.taken same; kept = before.kept }

-- a step that only hands out
pub Hands-out : (a b : Option (List ℕ)) (p q r out : List ℕ) → Hands a b p q [] → q ≡ out ++ r → Hands a b p r out
Hands-out a b p q r out before cut = record { got = before.got; taken = before.taken; kept = before.kept ∙ cut }

-- where the source tells, the bytes handed out are the first of all that weren't handed out before
pub Hands-ahead : (a b : Option (List ℕ)) (p q out : List ℕ) → Hands a b p q out → Consumes (ahead p a) (ahead q b) out
Hands-ahead None b p q out hands = tt
Hands-ahead (Some x) None p q out hands = absurd hands.taken
Hands-ahead (Some x) (Some y) p q out hands =
    ap (λ bs. p ++ bs) hands.taken ∙ sym (append_assoc p hands.got y) ∙ ap (λ bs. bs ++ y) hands.kept ∙ append_assoc out q y

-- a line that was handed out was the first of the lines ahead
pub FindsLine-lines : (x y p : List ℕ) (now : ReaderData) → FindsLine (Some x) (Some y) p now
    → lines_of (p ++ x) ≡ now.line ∷ lines_of (now.pending ++ y)
FindsLine-lines x y p now finds =
    ap lines_of (Hands-ahead (Some x) (Some y) p now.pending (with_feed now.line) finds.hands ∙ append_assoc now.line (10 ∷ []) (now.pending ++ y))
    ∙ lines_of-line now.line (now.pending ++ y) finds.line.one_line

-- the last line was the only one ahead
pub FindsLastLine-lines : (x y p : List ℕ) (now : ReaderData) → FindsLastLine (Some x) (Some y) p now
    → lines_of (p ++ x) ≡ now.line ∷ []
FindsLastLine-lines x y p now finds =
    let nothing : now.pending ++ y ≡ [] = ap (λ bs. bs ++ y) finds.all ∙ finds.ended in
    ap lines_of (
    Hands-ahead (Some x) (Some y) p now.pending now.line finds.hands ∙ ap (λ bs. now.line ++ bs) nothing ∙ append-nil now.line
    )
    ∙ lines_of-rest now.line finds.some finds.line.one_line

-- at the end no line was ahead
pub FindsEnd-lines : (x y p : List ℕ) (now : ReaderData) → FindsEnd (Some x) (Some y) p now → lines_of (p ++ x) ≡ []
FindsEnd-lines x y p now finds =
    ap lines_of (
    Hands-ahead (Some x) (Some y) p now.pending [] finds.hands_nothing.hands ∙ ap (λ bs. bs ++ y) finds.all ∙ finds.ended
    )
