-- One turn of the loop over lines, by what the reader found and what the handler made of it.
use Rattle.std.proofs.Common.{ℕ, List, [], ◌∷◌, Option, refl, ap, ◌∙◌, arith}
use Rattle.std.specs.Prelude.{Ok, Err}
use Rattle.qz_io.specs.Handlers.{Handling}
use Rattle.qz_io.specs.Lines.{lines_of}
use Rattle.qz_io.specs.Reading.{ReaderData, FindsLine, FindsLastLine, FindsEnd}
use Rattle.qz_io.specs.Turns.{HandlesNext, HandlesLast, RefusesNext}
use Rattle.qz_io.proofs.AheadLaws.{ahead-line, ahead-rest, rest_bytes}
use Rattle.qz_io.proofs.Cut.{lines_of-rest}

module _ {E S : Type 0} (Handles : Handling E S) (left left_now : Option (List ℕ)) (pending : List ℕ) (now : ReaderData) (old new : S) where
  pub HandlesNext-line : FindsLine left left_now pending now → Handles now.line (Ok tt) old new → HandlesNext Handles left left_now pending now.pending old new
  HandlesNext-line finds handled = record { line = now.line; hands = finds.hands; short = finds.line; handled = handled }

  pub HandlesLast-line : FindsLastLine left left_now pending now → Handles now.line (Ok tt) old new → HandlesLast Handles left left_now pending old new
  HandlesLast-line finds handled = record {
    got = finds.hands.got;
    taken = finds.hands.taken;
    ended = finds.ended;
    lines = now.line ∷ [];
    all = ap lines_of (rest_bytes left left_now pending now finds) ∙ lines_of-rest now.line finds.some finds.line.one_line;
    one = omega arith;
    short = (finds.line, tt);
    handled = (new, handled, refl);
  }

  pub HandlesLast-end : FindsEnd left left_now pending now → HandlesLast Handles left left_now pending old old
  HandlesLast-end finds = record {
    got = finds.hands_nothing.hands.got;
    taken = finds.hands_nothing.hands.taken;
    ended = finds.ended;
    lines = [];
    all = ap lines_of (finds.hands_nothing.hands.kept ∙ finds.all);
    one = omega arith;
    short = tt;
    handled = refl;
  }

  pub RefusesNext-line : (number : ℕ) (error : E) → FindsLine left left_now pending now → Handles now.line (Err error) old new → RefusesNext Handles left left_now pending old new number number error
  RefusesNext-line number error finds refused =
      record { line = now.line; ahead = ahead-line left left_now pending now finds; short = finds.line; number_is = refl; refused = refused }

  pub RefusesNext-last : (number : ℕ) (error : E) → FindsLastLine left left_now pending now → Handles now.line (Err error) old new → RefusesNext Handles left left_now pending old new number number error
  RefusesNext-last number error finds refused =
      record { line = now.line; ahead = ahead-rest left left_now pending now finds; short = finds.line; number_is = refl; refused = refused }
