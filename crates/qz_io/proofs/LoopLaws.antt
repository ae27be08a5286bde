-- Lines that were handled one after another, and how the loop over them ends.
use Rattle.std.proofs.Common.{◌≡◌, ◌≤◌, ℕ, ◌+◌, List, [], ◌∷◌, ◌++◌, length, Option, Some, refl, sym, ap, ◌∙◌, subst, arith, append_assoc, length-append}
use Rattle.std.specs.Prelude.{Result, Ok, Err}
use Rattle.std.specs.List.{AllByRecursion}
use Rattle.std.specs.Io.KnownBytes.{Consumes}
use Rattle.std.proofs.KnownBytes.{Consumes-nil, Consumes-trans}
use Rattle.std.proofs.lemmas.List.{append-nil}
use Rattle.qz_io.specs.declared.limits.TheConstants.{LINE_COUNT_LIMIT}
use Rattle.qz_io.specs.declared.handlers.LinesEnd.{LinesEnd}
use Rattle.qz_io.specs.declared.handlers.LinesEnd.TheVariants as ends
use Rattle.qz_io.specs.Ahead.{BeginsSome, BeginsLong}
use Rattle.qz_io.specs.Handlers.{Handling, AllHandled, IsNextLine, HandlesLines}
use Rattle.qz_io.specs.Lines.{IsOneLine, lines_of, with_feed, with_feeds}
use Rattle.qz_io.specs.Reading.{IsShortLine}
use Rattle.qz_io.specs.Turns.{HandledUpTo, HandlesNext, HandlesLast, TurnDone, BeyondDone}
use Rattle.qz_io.proofs.TakenLaws.{AllByRecursion-append, taken_more, feeds_more, told_ahead, begins_part, whole_end}

one_lines : (lines : List (List ℕ)) → AllByRecursion IsShortLine lines → AllByRecursion IsOneLine lines
one_lines [] short = tt
one_lines (line ∷ lines) short = (short.0.one_line, one_lines lines short.1)

-- an input whose bytes are known, and what was taken of them
known : (i j : Option (List ℕ)) (bytes taken : List ℕ) → i ≡ Some bytes → Consumes i j taken → Consumes (Some bytes) j taken
known i j bytes taken is consumes = subst (λ l. Consumes l j taken) is consumes

-- what comes after the lines that were taken
next_line : (bytes ahead line : List ℕ) (lines more : List (List ℕ)) → lines_of bytes ≡ lines ++ lines_of ahead → lines_of ahead ≡ line ∷ more → IsNextLine lines line bytes
next_line bytes ahead line lines more all begins = record { rest = more; all = all ∙ ap (λ l. lines ++ l) begins ∙ sym (append_assoc lines (line ∷ []) more) }

module _ {E S : Type 0} (Handles : Handling E S) where
  pub AllHandled-append : (xs ys : List (List ℕ)) (r s t : S) → AllHandled Handles xs r s → AllHandled Handles ys s t → AllHandled Handles (xs ++ ys) r t
  AllHandled-append [] ys r s t first later = subst (λ z. AllHandled Handles ys z t) first later
  AllHandled-append (x ∷ xs) ys r s t (between, one, others) later = (between, one, AllHandled-append xs ys between s t others later)

  pub HandledUpTo-none : (left : Option (List ℕ)) (s : S) → HandledUpTo Handles [] left left [] s s
  HandledUpTo-none left s = record { taken = Consumes-nil left; short = tt; handled = refl }

  -- there was no memory to begin
  pub HandlesLines-nothing : (left : Option (List ℕ)) (s : S) → HandlesLines Handles (Err ends.NoMemory) left left s s
  HandlesLines-nothing left s = record {
    lines = [];
    short = tt;
    state = s;
    handled = refl;
    got = [];
    taken = Consumes-nil left;
    ends = record { no_line = refl; no_byte = refl; state_is = refl };
  }

  module _ (lines : List (List ℕ)) (i j k : Option (List ℕ)) (pending : List ℕ) (r s : S) (up : HandledUpTo Handles lines i j pending r s) where
    -- one line more
    pub HandledUpTo-more : (after : List ℕ) (t : S) → (next : HandlesNext Handles j k pending after s t) → HandledUpTo Handles (lines ++ next.line ∷ []) i k after r t
    HandledUpTo-more after t next = record {
      taken = subst (Consumes i k) (feeds_more lines next.line after) (taken_more i j k lines pending next.hands.got (with_feed next.line) after up.taken next.hands.taken next.hands.kept);
      short = AllByRecursion-append IsShortLine lines (next.line ∷ []) up.short (next.short, tt);
      handled = AllHandled-append lines (next.line ∷ []) r s t up.handled (t, next.handled, refl);
    }

    -- the input ended
    pub HandlesLines-whole : (t : S) → (last : HandlesLast Handles j k pending s t) → length lines + length last.lines ≤ LINE_COUNT_LIMIT → HandlesLines Handles (Ok tt) i k r t
    HandlesLines-whole t last low = record {
      lines = lines ++ last.lines;
      short = AllByRecursion-append IsShortLine lines last.lines up.short last.short;
      state = t;
      handled = AllHandled-append lines last.lines r s t up.handled last.handled;
      got = (with_feeds lines ++ pending) ++ last.got;
      taken = Consumes-trans i j k _ _ up.taken last.taken;
      ends = record {
        all = λ bytes is. whole_end bytes j k lines last.lines pending last.got (one_lines lines up.short) (known i j bytes _ is up.taken) last.taken last.ended last.all;
        ended = last.ended;
        within = simp length-append low;
        state_is = refl;
      };
    }

    -- it ended at a line
    pub HandlesLines-at : (e : LinesEnd E) (number : ℕ) (after : List ℕ) (t : S) → TurnDone Handles (Err e) number j k pending after s t → number ≡ length lines + 1 → number ≤ LINE_COUNT_LIMIT
        → HandlesLines Handles (Err e) i k r t
    HandlesLines-at (ends.Refused at error) number after t done is low = record {
      lines = lines;
      short = up.short;
      state = s;
      handled = up.handled;
      got = (with_feeds lines ++ pending) ++ done.ahead.got;
      taken = Consumes-trans i j k _ _ up.taken done.ahead.taken;
      ends = record {
        line = done.line;
        next = λ bytes said. begins_part bytes j k lines pending done.line (one_lines lines up.short) (known i j bytes _ said up.taken) done.ahead;
        short = done.short;
        number_is = record { is = done.number_is ∙ is; within = omega (arith, done.number_is) };
        refused = done.refused;
      };
    }
    HandlesLines-at (ends.TooLong at) number after t (ahead, number_is, same) is low = record {
      lines = lines;
      short = up.short;
      state = s;
      handled = up.handled;
      got = (with_feeds lines ++ pending) ++ ahead.got;
      taken = Consumes-trans i j k _ _ up.taken ahead.taken;
      ends = record {
        next = λ bytes said.
            let found = told_ahead bytes j k lines pending BeginsLong (one_lines lines up.short) (known i j bytes _ said up.taken) ahead in
            record { line = found.is.line; next = next_line bytes found.ahead found.is.line lines found.is.begins.more found.all found.is.begins.lines; long = found.is.long };
        number_is = record { is = number_is ∙ is; within = omega arith };
        state_is = same;
      };
    }
    HandlesLines-at ends.ReadFault number after t (hands, one, same) is low = record {
      lines = lines;
      short = up.short;
      state = s;
      handled = up.handled;
      got = with_feeds lines ++ after;
      taken = taken_more i j k lines pending hands.got [] after up.taken hands.taken hands.kept;
      ends = record { part = after; got_is = refl; no_feed = one; state_is = same };
    }
    HandlesLines-at ends.TooMany number after t done is low = absurd done
    HandlesLines-at ends.NoMemory number after t done is low = absurd done

    -- as many lines as an input may have were handled
    pub HandlesLines-beyond : (e : Result (Unit {0}) (LinesEnd E)) (after : List ℕ) → BeyondDone e j k pending after → length lines ≡ LINE_COUNT_LIMIT → HandlesLines Handles e i k r s
    HandlesLines-beyond (Ok u) after (taken, none, ended) full = record {
      lines = lines;
      short = up.short;
      state = s;
      handled = up.handled;
      got = (with_feeds lines ++ pending) ++ [];
      taken = Consumes-trans i j k _ _ up.taken taken;
      ends = record {
        all = λ bytes is.
            whole_end bytes j k lines [] pending [] (one_lines lines up.short) (known i j bytes _ is up.taken) taken ended (ap lines_of (append-nil pending ∙ none)) ∙ append-nil lines;
        ended = ended;
        within = omega (arith, full);
        state_is = refl;
      };
    }
    HandlesLines-beyond (Err ends.TooMany) after ahead full = record {
      lines = lines;
      short = up.short;
      state = s;
      handled = up.handled;
      got = (with_feeds lines ++ pending) ++ ahead.got;
      taken = Consumes-trans i j k _ _ up.taken ahead.taken;
      ends = record {
        full = full;
        next = λ bytes said.
            let found = told_ahead bytes j k lines pending BeginsSome (one_lines lines up.short) (known i j bytes _ said up.taken) ahead in
            record { line = found.is.line; next = next_line bytes found.ahead found.is.line lines found.is.begins.more found.all found.is.begins.lines };
        state_is = refl;
      };
    }
    HandlesLines-beyond (Err ends.ReadFault) after (hands, one) full = record {
      lines = lines;
      short = up.short;
      state = s;
      handled = up.handled;
      got = with_feeds lines ++ after;
      taken = taken_more i j k lines pending hands.got [] after up.taken hands.taken hands.kept;
      ends = record { part = after; got_is = refl; no_feed = one; state_is = refl };
    }
    HandlesLines-beyond (Err (ends.Refused at error)) after done full = absurd done
    HandlesLines-beyond (Err (ends.TooLong at)) after done full = absurd done
    HandlesLines-beyond (Err ends.NoMemory) after done full = absurd done
