-- How a script ends: the run that its lines make, by what ended them.
use Rattle.std.proofs.Common.{◌≡◌, inl, ◌≤◌, ◌<◌, ℕ, ◌+◌, ℤ, Bool, true, List, [], ◌∷◌, ◌++◌, length, take, drop, Option, Some, None, refl, sym, ap, ◌∙◌, subst, arith, append_assoc}
use Rattle.std.specs.Prelude.{⊤, Ok, Err, nat_lt}
use Rattle.std.specs.List.{AllByRecursion}
use Rattle.std.specs.Io.KnownBytes.{Appends}
use Rattle.std.proofs.KnownBytes.{Appends-trans}
use Rattle.std.proofs.lemmas.Bool.Decides.{nat_tests}
use Rattle.std.proofs.lemmas.List.{append-nil, take-append-drop}
use Rattle.qz_civil.specs.Causes.{Rose}
use Rattle.qz_disk.specs.declared.disk.Disk.{Ghosts}
use Rattle.qz_steps.specs.declared.steps.StepReply.{StepReply}
use Rattle.qz_io.specs.declared.limits.TheConstants.{LINE_COUNT_LIMIT}
use Rattle.qz_io.specs.declared.traits.Clock as clock
use Rattle.qz_io.specs.declared.traits.Sink as sink
use Rattle.qz_io.specs.Ahead.{BeginWith}
use Rattle.qz_io.specs.Around.{without_input, output_alone}
use Rattle.qz_io.specs.Clocks.{Tells}
use Rattle.qz_io.specs.Handlers.{AllHandled, IsNextLine, HandlesLines}
use Rattle.qz_io.specs.LineStates.{LineState}
use Rattle.qz_io.specs.Lines.{lines_of}
use Rattle.qz_io.specs.Outside.{Outside}
use Rattle.qz_io.proofs.Readings.{Tells-trans}
use Rattle.qz_job_json.specs.declared.faults.LineFault.TheVariants as line_fault
use Rattle.qz_top.specs.declared.runs.Run.{Run}
use Rattle.qz_top.specs.declared.statuses.BadKind.{BadKind}
use Rattle.qz_top.specs.declared.statuses.BadKind.TheVariants as bad
use Rattle.qz_cluster.specs.Steps.{is_closed}
use Rattle.qz_top.specs.declared.statuses.Status.{Status}
use Rattle.qz_top.specs.declared.statuses.Status.TheVariants as status
use Rattle.qz_top.specs.Handling.{Does}
use Rattle.qz_top.specs.Lines.{line_meaning, IsGood, readings_of, first_bad, first_bad_from}
use Rattle.qz_top.specs.Moments.{Shows}
use Rattle.qz_top.specs.Runs.{ReadToBad, WrotePart, Clocked, IsOfScript, IsRun}
use Rattle.qz_cluster.specs.View.{IsTold}
use Rattle.qz_top.specs.Resting.{RestsRun}
use Rattle.qz_top.specs.Seen.{view, told_of}
use Rattle.qz_top.specs.Statuses.{Finishes}
use Rattle.qz_top.specs.Trails.{texts, RunState}
use Rattle.qz_top.specs.LineOutcomes.{Ran, RanPart, IsBad}
use Rattle.qz_top.proofs.LineLaws.{first_bad_from-append, first_bad_from-bad, first_bad_from-many}
use Rattle.qz_top.proofs.RestLaws.{nothing_so}
use Rattle.qz_top.proofs.MomentLaws.{Shows-none, Shows-more, Shows-less}
use Rattle.qz_top.proofs.OutcomeLaws.{Ran-none, Ran-more}

-- Readings and replies.

-- the readings of the lines, and no more
pub exact_readings : (s : Status) (a b : Option (List ℤ)) (lines : List (List ℕ)) (readings : List ℤ) → length readings ≡ readings_of lines → Tells a b readings → Clocked s a b lines readings
exact_readings s a b lines readings count told = record {
  count = count;
  more = [];
  told = subst (Tells a b) (sym (append-nil readings)) told;
  none = λ other. refl;
  one = omega arith;
}

-- a clock that gave no more readings
pub told_nothing : (a b c : Option (List ℤ)) (readings : List ℤ) → Tells a b readings → Tells b c [] → Tells a c readings
told_nothing a b c readings p q = subst (Tells a c) (append-nil readings) (Tells-trans a b c readings [] p q)

-- an output to which nothing more was written
pub wrote_nothing : (x y z : Option (List ℕ)) (text : List ℕ) → Appends x y text → Appends y z [] → Appends x z text
wrote_nothing x y z text p q = subst (Appends x z) (append-nil text) (Appends-trans x y z text [] p q)

-- all replies were written
pub wrote_whole : (x z : Option (List ℕ)) (replies : List StepReply) → Appends x z (texts replies) → WrotePart x z replies
wrote_whole x z replies written = record {
  kept = replies;
  last = [];
  cut = sym (append-nil replies);
  one = omega arith;
  part = [];
  rest = [];
  text = refl;
  written = subst (Appends x z) (sym (append-nil _)) written;
}

-- all replies except the last were written, and a part of that
pub wrote_part : {honest : Type 0} (a b c : Outside) (lines : List (List ℕ)) (readings : List ℤ) (line : List ℕ) (R S T : RunState)
    → (ran : Ran honest lines readings R S a b) → (part : RanPart honest line S T b c) → WrotePart a.held c.held (ran.did.replies ++ part.did.replies)
wrote_part a b c lines readings line R S T ran part =
    let text = texts part.did.replies in
    record {
      kept = ran.did.replies;
      last = part.did.replies;
      cut = refl;
      one = part.one;
      part = take part.count text;
      rest = drop part.count text;
      text = sym (take-append-drop part.count text);
      written = Appends-trans a.held b.held c.held _ _ ran.written part.written;
    }

-- The first bad line.

-- good lines within the limit have no bad one among them
none_bad : (lines : List (List ℕ)) → AllByRecursion IsGood lines → length lines ≤ LINE_COUNT_LIMIT → first_bad lines ≡ None
none_bad lines good low = ap (first_bad_from 1) (sym (append-nil lines)) ∙ first_bad_from-append 1 lines [] good (omega arith)

-- the line after these lines, and what follows it
next_all : (bytes line : List ℕ) (lines : List (List ℕ)) → (next : IsNextLine lines line bytes) → lines_of bytes ≡ lines ++ line ∷ next.rest
next_all bytes line lines next = next.all ∙ append_assoc lines (line ∷ []) next.rest

pub begins_before : (bytes line : List ℕ) (lines : List (List ℕ)) → IsNextLine lines line bytes → BeginWith lines (lines_of bytes)
begins_before bytes line lines next = record { rest = line ∷ next.rest; all = next_all bytes line lines next }

-- the first bad line comes after these lines
pub reads_bad : (bytes line : List ℕ) (lines : List (List ℕ)) (kind : BadKind) (number : ℕ) → IsNextLine lines line bytes → AllByRecursion IsGood lines
    → number ≡ length lines + 1 → number ≤ LINE_COUNT_LIMIT → IsBad line kind → ReadToBad lines number kind bytes
reads_bad bytes line lines kind number next good is low is_bad =
    let all = next_all bytes line lines next in
    let found = first_bad_from-bad (1 + length lines) line next.rest is_bad.fault (omega arith) is_bad.meaning in
    let same : 1 + length lines ≡ number = omega arith in
    record {
      begins = begins_before bytes line lines next;
      number = is;
      bad = ap first_bad all ∙ first_bad_from-append 1 lines (line ∷ next.rest) good (omega arith) ∙ found
          ∙ ap (λ k. Some (status.BadLine (1 + length lines) k)) (sym is_bad.kind_is) ∙ ap (λ n. Some (status.BadLine n kind)) same;
    }

pub too_long : (line : List ℕ) → 65536 < length line → line_meaning line ≡ Err line_fault.TooLong
unfolding line_meaning
too_long line long = let past : nat_lt 65536 (length line) ≡ true = grind (arith, nat_tests) in rw past refl

-- one line more than an input may have is the first bad one
pub reads_many : (bytes line : List ℕ) (lines : List (List ℕ)) → IsNextLine lines line bytes → AllByRecursion IsGood lines → length lines ≡ LINE_COUNT_LIMIT
    → ReadToBad lines (LINE_COUNT_LIMIT + 1) bad.TooManyLines bytes
reads_many bytes line lines next good full =
    let same : 1 + length lines ≡ LINE_COUNT_LIMIT + 1 = omega arith in
    record {
      begins = begins_before bytes line lines next;
      number = omega arith;
      bad = ap first_bad (next_all bytes line lines next) ∙ first_bad_from-append 1 lines (line ∷ next.rest) good (omega arith)
          ∙ first_bad_from-many (1 + length lines) line next.rest (omega arith) ∙ ap (λ n. Some (status.BadLine n bad.TooManyLines)) same;
    }

pub rose_later : (x y z : ℕ) → x ≤ y → Rose y z → Rose x z
rose_later x y z later rose = omega (arith, later, rose)

module _ {D K C : Type 0} (g : Ghosts D) (k : sink.Ghosts K) (c : clock.Ghosts C) where
  abbrev pub State : Type 0
  State = LineState (Run D g) K C

  -- what is known of the outside with so much left of the input
  abbrev pub around : Option (List ℕ) → K → C → Outside
  around left out at = record { left = left; held = k.held out; handed = k.handed out; readings = c.readings at }

  abbrev pub beside : State → Outside
  beside s = without_input k c s.out s.rest

  -- some run of lines
  abbrev pub SomeRun : Type 0 → Status → RunState → RunState → Outside → Outside → Type 0
  SomeRun told s R S old new = (lines : List (List ℕ)) × (readings : List ℤ) × (replies : List StepReply) × IsRun told s R S old new lines readings replies

  -- lines that were done and answered
  pub record AllRan (lines : List (List ℕ)) (a b : State) : Type 0 where
    pub readings : List ℤ
    pub ran : Ran (told_of a.handler) lines readings (view a.handler) (view b.handler) (beside a) (beside b)
    pub begun : b.handler.begun.value ≡ a.handler.begun.value
    pub later : k.faults a.out ≤ k.faults b.out

  pub all_ran : (lines : List (List ℕ)) (a b : State) → AllHandled (Does {g = g} k c) lines a b → AllRan lines a b
  all_ran [] a b same = subst (AllRan [] a) (sym same) (record { readings = []; ran = Ran-none (view a.handler) (beside a); begun = refl; later = omega arith })
  all_ran (line ∷ lines) a b (between, one, others) =
      let more = all_ran lines between b others in
      record {
        readings = one.done.0 ++ more.readings;
        ran = Ran-more (line ∷ []) lines one.done.0 more.readings (view a.handler) (view between.handler) (view b.handler) (beside a) (beside between) (beside b) one.done.1
            (subst (λ (P : Type 0). Ran P lines more.readings (view between.handler) (view b.handler) (beside between) (beside b)) (ap IsTold one.shows.begun) more.ran);
        begun = more.begun ∙ one.shows.begun;
        later = omega (arith, one.later, more.later);
      }

  -- lines that were done, before nothing else was
  pub ran_to : (lines : List (List ℕ)) (a s b : State) → b ≡ s → AllHandled (Does {g = g} k c) lines a s → AllRan lines a b
  ran_to lines a s b same handled = subst (AllRan lines a) (sym same) (all_ran lines a s handled)

  -- All lines were done, a checkpoint was made where one was due, and then the output was flushed, or that failed.
  pub IsRun-whole : (s : Status) (i j : Option (List ℕ)) (a b : State) (after : RunState) (out : K) (m n : ℕ) → HandlesLines (Does {g = g} k c) (Ok tt) i j a b
      → RestsRun s (view b.handler) after → Finishes s (is_closed after.cluster) (output_alone k b.out) (output_alone k out) m n
      → SomeRun (told_of a.handler) s (view a.handler) after (around i a.out a.rest) (around j out b.rest)
  IsRun-whole status.Ok i j a b after out m n lines rests finishes =
      let all = ran_to lines.lines a lines.state b lines.ends.state_is lines.handled in (
        lines.lines,
        all.readings,
        all.ran.did.replies,
        record {
          called = tt;
          good = all.ran.did.good;
          last = view b.handler;
          steps = all.ran.did.steps;
          end = rests;
          closed = finishes.0;
          reads = λ bytes is. let whole = lines.ends.all bytes is in record { all = whole; no_bad = ap first_bad whole ∙ none_bad lines.lines all.ran.did.good lines.ends.within; ended = lines.ends.ended };
          clocked = exact_readings status.Ok _ _ lines.lines all.readings all.ran.did.count all.ran.did.told;
          writes = wrote_nothing (k.held a.out) (k.held b.out) (k.held out) _ all.ran.written finishes.1.0;
          hands_on = finishes.1.1;
        },
      )
  IsRun-whole status.DiskFault i j a b after out m n lines rests finishes =
      let all = ran_to lines.lines a lines.state b lines.ends.state_is lines.handled in (
        lines.lines,
        all.readings,
        all.ran.did.replies,
        record {
          called = tt;
          good = all.ran.did.good;
          last = view b.handler;
          steps = all.ran.did.steps;
          end = rests;
          closed = finishes.0;
          reads = λ bytes is. let whole = lines.ends.all bytes is in record { all = whole; no_bad = ap first_bad whole ∙ none_bad lines.lines all.ran.did.good lines.ends.within; ended = lines.ends.ended };
          clocked = exact_readings status.DiskFault _ _ lines.lines all.readings all.ran.did.count all.ran.did.told;
          writes = wrote_nothing (k.held a.out) (k.held b.out) (k.held out) _ all.ran.written finishes.1.0;
          hands_on = finishes.1.1;
        },
      )
  IsRun-whole status.WriteFault i j a b after out m n lines rests finishes =
      let all = ran_to lines.lines a lines.state b lines.ends.state_is lines.handled in (
        lines.lines,
        all.readings,
        all.ran.did.replies,
        record {
          called = tt;
          good = all.ran.did.good;
          last = view b.handler;
          steps = all.ran.did.steps;
          end = rests;
          closed = tt;
          reads = λ bytes is. record { rest = []; all = lines.ends.all bytes is ∙ sym (append-nil lines.lines) };
          clocked = exact_readings status.WriteFault _ _ lines.lines all.readings all.ran.did.count all.ran.did.told;
          writes = wrote_whole (k.held a.out) (k.held out) _ (wrote_nothing (k.held a.out) (k.held b.out) (k.held out) _ all.ran.written finishes.0);
          hands_on = tt;
        },
      )
  IsRun-whole status.NoMemory i j a b after out m n lines rests finishes =
      let all = ran_to lines.lines a lines.state b lines.ends.state_is lines.handled in (
        lines.lines,
        all.readings,
        all.ran.did.replies,
        record {
          called = tt;
          good = all.ran.did.good;
          last = view b.handler;
          steps = all.ran.did.steps;
          end = inl (nothing_so _ _ rests);
          closed = tt;
          reads = λ bytes is. record { rest = []; all = lines.ends.all bytes is ∙ sym (append-nil lines.lines) };
          clocked = exact_readings status.NoMemory _ _ lines.lines all.readings all.ran.did.count all.ran.did.told;
          writes = wrote_whole (k.held a.out) (k.held out) _ (wrote_nothing (k.held a.out) (k.held b.out) (k.held out) _ all.ran.written finishes);
          hands_on = tt;
        },
      )
  IsRun-whole (status.BadWords fault) i j a b after out m n lines rests finishes = absurd finishes
  IsRun-whole (status.BadLine line fault) i j a b after out m n lines rests finishes = absurd finishes
  IsRun-whole status.ReadFault i j a b after out m n lines rests finishes = absurd finishes
  IsRun-whole (status.NotAStore store) i j a b after out m n lines rests finishes = absurd finishes
  IsRun-whole (status.Damaged store at) i j a b after out m n lines rests finishes = absurd finishes
  IsRun-whole (status.JournalFull need room) i j a b after out m n lines rests finishes = absurd finishes
  IsRun-whole status.Exists i j a b after out m n lines rests finishes = absurd finishes
  IsRun-whole (status.Budget firings) i j a b after out m n lines rests finishes = absurd finishes
  IsRun-whole (status.TooMany count) i j a b after out m n lines rests finishes = absurd finishes
  IsRun-whole status.Fenced i j a b after out m n lines rests finishes = absurd finishes
  IsRun-whole status.OldStore i j a b after out m n lines rests finishes = absurd finishes
  IsRun-whole (status.BadStream at) i j a b after out m n lines rests finishes = absurd finishes

  -- the output's count of faults while lines are done
  pub faults_later : (i j : Option (List ℕ)) (a b : State) → HandlesLines (Does {g = g} k c) (Ok tt) i j a b → k.faults a.out ≤ k.faults b.out
  faults_later i j a b lines = (ran_to lines.lines a lines.state b lines.ends.state_is lines.handled).later

  pub finish_rose : (s : Status) (closed : Bool) (i j : Option (List ℕ)) (a b : State) (old new : Outside) (n : ℕ) → HandlesLines (Does {g = g} k c) (Ok tt) i j a b → Finishes s closed old new (k.faults b.out) n
      → s ≡ status.WriteFault → Rose (k.faults a.out) n
  finish_rose s closed i j a b old new n lines finishes is =
      rose_later _ _ _ (faults_later i j a b lines) (subst (λ t. Finishes t closed old new (k.faults b.out) n) is finishes).1

  -- the clusters that were shown while lines were done
  pub all_shown : (lines : List (List ℕ)) (a b : State) → AllHandled (Does {g = g} k c) lines a b → Shows ⊤ a.handler b.handler
  all_shown [] a b same = subst (λ (x : State). Shows ⊤ a.handler x.handler) (sym same) (Shows-none ⊤ a.handler)
  all_shown (line ∷ lines) a b (between, one, others) =
      Shows-more ⊤ a.handler between.handler b.handler (Shows-less _ ⊤ a.handler between.handler one.shows (λ is. refl)) (all_shown lines between b others)

  pub shown_to : (lines : List (List ℕ)) (a s b : State) → b ≡ s → AllHandled (Does {g = g} k c) lines a s → Shows ⊥ a.handler b.handler
  shown_to lines a s b same handled =
      subst (λ (x : State). Shows ⊥ a.handler x.handler) (sym same) (Shows-less ⊤ ⊥ a.handler s.handler (all_shown lines a s handled) (λ is. tt))

  pub whole_shown : (i j : Option (List ℕ)) (a b : State) → HandlesLines (Does {g = g} k c) (Ok tt) i j a b → Shows ⊤ a.handler b.handler
  whole_shown i j a b lines = subst (λ (x : State). Shows ⊤ a.handler x.handler) (sym lines.ends.state_is) (all_shown lines.lines a lines.state lines.handled)

pub finish_called : (s : Status) (closed : Bool) (old new : Outside) (m n : ℕ) → Finishes s closed old new m n → IsOfScript s
finish_called status.Ok closed old new m n finishes = tt
finish_called status.DiskFault closed old new m n finishes = tt
finish_called status.WriteFault closed old new m n finishes = tt
finish_called (status.BadWords fault) closed old new m n finishes = absurd finishes
finish_called (status.BadLine line fault) closed old new m n finishes = absurd finishes
finish_called status.ReadFault closed old new m n finishes = absurd finishes
finish_called (status.NotAStore store) closed old new m n finishes = absurd finishes
finish_called (status.Damaged store at) closed old new m n finishes = absurd finishes
finish_called (status.JournalFull need room) closed old new m n finishes = absurd finishes
finish_called status.NoMemory closed old new m n finishes = tt
finish_called status.Exists closed old new m n finishes = absurd finishes
finish_called (status.Budget firings) closed old new m n finishes = absurd finishes
finish_called (status.TooMany count) closed old new m n finishes = absurd finishes
finish_called status.Fenced closed old new m n finishes = absurd finishes
finish_called status.OldStore closed old new m n finishes = absurd finishes
finish_called (status.BadStream at) closed old new m n finishes = absurd finishes
