-- How a script stops before the end of its input.
use Rattle.std.proofs.Common.{◌≡◌, ◌≤◌, inl, inr, ℕ, ℤ, List, [], ◌∷◌, ◌++◌, Option, refl, sym, ap, subst, arith}
use Rattle.std.specs.Prelude.{Err}
use Rattle.std.specs.Io.KnownBytes.{Consumes, Appends}
use Rattle.qz_civil.specs.Causes.{Rose}
use Rattle.qz_disk.specs.declared.disk.Disk.{Ghosts}
use Rattle.qz_io.specs.declared.handlers.LinesEnd.{LinesEnd}
use Rattle.qz_io.specs.declared.handlers.LinesEnd.TheVariants as lines_end
use Rattle.qz_io.specs.declared.traits.Clock as clock
use Rattle.qz_io.specs.declared.traits.Sink as sink
use Rattle.qz_io.specs.Handlers.{HandlesLines, IfKnown, IsNextLine, IsNextNumber}
use Rattle.qz_io.specs.Lines.{lines_of}
use Rattle.qz_io.specs.Outside.{Outside}
use Rattle.qz_io.proofs.Readings.{Tells-trans}
use Rattle.qz_steps.specs.declared.steps.StepReply.{StepReply}
use Rattle.qz_cluster.specs.Steps.{ClusterState}
use Rattle.qz_cluster.specs.View.{IsTold}
use Rattle.qz_cluster.specs.declared.errors.StepEnd.{StepEnd}
use Rattle.qz_cluster.specs.declared.errors.StepEnd.TheVariants as step
use Rattle.qz_job_json.specs.declared.faults.LineFault.TheVariants as line_fault
use Rattle.qz_top.specs.declared.statuses.BadKind.TheVariants as bad
use Rattle.qz_top.specs.declared.statuses.Status.{Status}
use Rattle.qz_top.specs.declared.statuses.Status.TheVariants as status
use Rattle.qz_top.specs.declared.line_handler.LineEnd.{LineEnd}
use Rattle.qz_top.specs.declared.line_handler.LineEnd.TheVariants as ends
use Rattle.qz_top.specs.Handling.{Does}
use Rattle.qz_top.specs.Moments.{Shows}
use Rattle.qz_top.specs.Seen.{view, told_of}
use Rattle.qz_top.specs.Runs.{Reads, ReadFirst, TellsClosed, WrotePart, Writes, HandsOn, IsShort, IsOfScript, EndsShort, EndsRun}
use Rattle.qz_top.specs.Statuses.{cut_status, status_at, status_of}
use Rattle.qz_top.specs.Trails.{texts, RunState}
use Rattle.qz_top.specs.LineOutcomes.{taken_reading, LineDone}
use Rattle.qz_top.proofs.EndLaws.{exact_readings, told_nothing, wrote_nothing, wrote_whole, wrote_part, begins_before, reads_bad, reads_many, too_long, rose_later, State, around, beside, SomeRun, AllRan, all_ran, ran_to, all_shown, shown_to}
use Rattle.qz_top.proofs.MomentLaws.{Shows-more, Shows-less}
use Rattle.qz_top.proofs.TrailLaws.{NothingDone-none}
use Rattle.qz_top.proofs.OutcomeLaws.{at_most_one, Did-more}

not_write : (end : StepEnd) → cut_status end ≡ status.WriteFault → ⊥
not_write (step.JournalFull need room) is = cc
not_write (step.NotAStore store) is = cc
not_write (step.Damaged store at) is = cc
not_write step.NoMemory is = cc

at_write : (number : ℕ) (e : LineEnd) → status_at number e ≡ status.WriteFault → e ≡ ends.WriteFault
at_write number ends.WriteFault is = refl
at_write number (ends.Bad kind) is = absurd cc
at_write number ends.Unanswered is = absurd cc
at_write number ends.NoMemory is = absurd cc
at_write number (ends.CutShort end) is = absurd (not_write end is)

cut_not_ok : (end : StepEnd) → cut_status end ≡ status.Ok → ⊥
cut_not_ok (step.JournalFull need room) is = cc
cut_not_ok (step.NotAStore store) is = cc
cut_not_ok (step.Damaged store at) is = cc
cut_not_ok step.NoMemory is = cc

pub at_not_ok : (number : ℕ) (e : LineEnd) → status_at number e ≡ status.Ok → ⊥
at_not_ok number (ends.Bad kind) is = cc
at_not_ok number ends.WriteFault is = cc
at_not_ok number ends.Unanswered is = cc
at_not_ok number ends.NoMemory is = cc
at_not_ok number (ends.CutShort end) is = cut_not_ok end is

-- a script that stopped early doesn't end with Ok
pub stopped_not_ok : (e : LinesEnd LineEnd) → status_of e ≡ status.Ok → ⊥
stopped_not_ok (lines_end.Refused number e) is = at_not_ok number e is
stopped_not_ok (lines_end.TooLong number) is = cc
stopped_not_ok lines_end.TooMany is = cc
stopped_not_ok lines_end.ReadFault is = cc
stopped_not_ok lines_end.NoMemory is = cc

-- The status of a step that was cut short.

cut_called : (e : StepEnd) → IsOfScript (cut_status e)
cut_called (step.JournalFull need room) = tt
cut_called (step.NotAStore store) = tt
cut_called (step.Damaged store at) = tt
cut_called step.NoMemory = tt

cut_short : (e : StepEnd) → IsShort (cut_status e)
cut_short (step.JournalFull need room) = tt
cut_short (step.NotAStore store) = tt
cut_short (step.Damaged store at) = tt
cut_short step.NoMemory = tt

cut_ends : (e : StepEnd) (honest : Type 0) (left : Option (List ℕ)) (lines : List (List ℕ)) (more : List ℤ) (last after : RunState) → EndsShort honest e left lines more last after
    → EndsRun honest (cut_status e) left lines more last after
cut_ends (step.JournalFull need room) honest left lines more last after short = short
cut_ends (step.NotAStore store) honest left lines more last after short = short
cut_ends (step.Damaged store at) honest left lines more last after short = short
cut_ends step.NoMemory honest left lines more last after short = inr short

cut_closed : (e : StepEnd) (S : ClusterState) → TellsClosed (cut_status e) S
cut_closed (step.JournalFull need room) S = tt
cut_closed (step.NotAStore store) S = tt
cut_closed (step.Damaged store at) S = tt
cut_closed step.NoMemory S = tt

cut_reads : (e : StepEnd) (left left_now : Option (List ℕ)) (lines : List (List ℕ)) → ReadFirst left lines → Reads (cut_status e) left left_now lines
cut_reads (step.JournalFull need room) left left_now lines first = first
cut_reads (step.NotAStore store) left left_now lines first = first
cut_reads (step.Damaged store at) left left_now lines first = first
cut_reads step.NoMemory left left_now lines first = first

cut_writes : (e : StepEnd) (old new : Option (List ℕ)) (replies : List StepReply) → Appends old new (texts replies) → Writes (cut_status e) old new replies
cut_writes (step.JournalFull need room) old new replies written = written
cut_writes (step.NotAStore store) old new replies written = written
cut_writes (step.Damaged store at) old new replies written = written
cut_writes step.NoMemory old new replies written = wrote_whole old new replies written

cut_hands_on : (e : StepEnd) (o : Outside) → HandsOn (cut_status e) o
cut_hands_on (step.JournalFull need room) o = tt
cut_hands_on (step.NotAStore store) o = tt
cut_hands_on (step.Damaged store at) o = tt
cut_hands_on step.NoMemory o = tt

-- What is said of the last flush: after an early end nothing here.

refused_hands_on : (number : ℕ) (e : LineEnd) (o : Outside) → HandsOn (status_at number e) o
refused_hands_on number (ends.Bad kind) o = tt
refused_hands_on number ends.WriteFault o = tt
refused_hands_on number ends.Unanswered o = tt
refused_hands_on number ends.NoMemory o = tt
refused_hands_on number (ends.CutShort end) o = cut_hands_on end o

stopped_hands_on : (e : LinesEnd LineEnd) (o : Outside) → HandsOn (status_of e) o
stopped_hands_on (lines_end.Refused number e) o = refused_hands_on number e o
stopped_hands_on (lines_end.TooLong number) o = tt
stopped_hands_on lines_end.TooMany o = tt
stopped_hands_on lines_end.ReadFault o = tt
stopped_hands_on lines_end.NoMemory o = tt

-- What was written stays, where nothing more was.

part_kept : (x y z : Option (List ℕ)) (replies : List StepReply) → WrotePart x y replies → Appends y z [] → WrotePart x z replies
part_kept x y z replies wrote kept = record {
  kept = wrote.kept;
  last = wrote.last;
  cut = wrote.cut;
  one = wrote.one;
  part = wrote.part;
  rest = wrote.rest;
  text = wrote.text;
  written = wrote_nothing x y z _ wrote.written kept;
}

writes_kept : (s : Status) (x y z : Option (List ℕ)) (replies : List StepReply) → Writes s x y replies → Appends y z [] → Writes s x z replies
writes_kept status.WriteFault x y z replies wrote kept = part_kept x y z replies wrote kept
writes_kept status.NoMemory x y z replies wrote kept = part_kept x y z replies wrote kept
writes_kept status.Ok x y z replies wrote kept = wrote_nothing x y z _ wrote kept
writes_kept (status.BadWords fault) x y z replies wrote kept = wrote_nothing x y z _ wrote kept
writes_kept (status.BadLine line kind) x y z replies wrote kept = wrote_nothing x y z _ wrote kept
writes_kept status.ReadFault x y z replies wrote kept = wrote_nothing x y z _ wrote kept
writes_kept status.DiskFault x y z replies wrote kept = wrote_nothing x y z _ wrote kept
writes_kept (status.NotAStore store) x y z replies wrote kept = wrote_nothing x y z _ wrote kept
writes_kept (status.Damaged store at) x y z replies wrote kept = wrote_nothing x y z _ wrote kept
writes_kept (status.JournalFull need room) x y z replies wrote kept = wrote_nothing x y z _ wrote kept
writes_kept (status.Budget firings) x y z replies wrote kept = wrote_nothing x y z _ wrote kept
writes_kept status.Exists x y z replies wrote kept = wrote_nothing x y z _ wrote kept
writes_kept (status.TooMany count) x y z replies wrote kept = wrote_nothing x y z _ wrote kept
writes_kept status.Fenced x y z replies wrote kept = wrote_nothing x y z _ wrote kept
writes_kept status.OldStore x y z replies wrote kept = wrote_nothing x y z _ wrote kept
writes_kept (status.BadStream at) x y z replies wrote kept = wrote_nothing x y z _ wrote kept

module _ {D K C : Type 0} (g : Ghosts D) (k : sink.Ghosts K) (c : clock.Ghosts C) where
  -- The handler refused the next line.
  refused_run : (e : LineEnd) (number : ℕ) (i j : Option (List ℕ)) (lines : List (List ℕ)) (line : List ℕ) (a m b : State g k c) → AllRan g k c lines a m
      → IfKnown i (IsNextLine lines line) → IsNextNumber lines number → LineDone (told_of a.handler) (Err e) line (view m.handler) (view b.handler) (beside g k c m) (beside g k c b)
      → SomeRun g k c (told_of a.handler) (status_at number e) (view a.handler) (view b.handler) (around g k c i a.out a.rest) (around g k c j b.out b.rest)
  unfolding Did-more
  refused_run (ends.Bad kind) number i j lines line a m b all next at done = (
    lines,
    all.readings,
    all.ran.did.replies,
    record {
      called = tt;
      good = all.ran.did.good;
      last = view m.handler;
      steps = all.ran.did.steps;
      end = done.1.same;
      closed = tt;
      reads = λ bytes is. reads_bad bytes line lines kind number (next bytes is) all.ran.did.good at.is at.within done.0;
      clocked = exact_readings _ _ _ lines all.readings all.ran.did.count (told_nothing (c.readings a.rest) (c.readings m.rest) (c.readings b.rest) all.readings all.ran.did.told done.1.told);
      writes = wrote_nothing (k.held a.out) (k.held m.out) (k.held b.out) _ all.ran.written done.1.kept;
      hands_on = tt;
    },
  )
  refused_run ends.WriteFault number i j lines line a m b all next at part =
      let did = Did-more (told_of a.handler) lines (line ∷ []) all.readings part.readings (view a.handler) (view m.handler) (view b.handler) (beside g k c a) (beside g k c m) (beside g k c b) all.ran.did part.did in (
        lines ++ line ∷ [],
        all.readings ++ part.readings,
        did.replies,
        record {
          called = tt;
          good = did.good;
          last = view b.handler;
          steps = did.steps;
          end = inl (inl refl);
          closed = tt;
          reads = next;
          clocked = exact_readings _ _ _ _ _ did.count did.told;
          writes = wrote_part (beside g k c a) (beside g k c m) (beside g k c b) lines all.readings line (view a.handler) (view m.handler) (view b.handler) all.ran part;
          hands_on = tt;
        },
      )
  refused_run ends.Unanswered number i j lines line a m b all next at part =
      let did = Did-more (told_of a.handler) lines (line ∷ []) all.readings part.readings (view a.handler) (view m.handler) (view b.handler) (beside g k c a) (beside g k c m) (beside g k c b) all.ran.did part.did in (
        lines ++ line ∷ [],
        all.readings ++ part.readings,
        did.replies,
        record {
          called = tt;
          good = did.good;
          last = view b.handler;
          steps = did.steps;
          end = inl (NothingDone-none (view b.handler));
          closed = tt;
          reads = next;
          clocked = exact_readings _ _ _ _ _ did.count did.told;
          writes = wrote_part (beside g k c a) (beside g k c m) (beside g k c b) lines all.readings line (view a.handler) (view m.handler) (view b.handler) all.ran part;
          hands_on = tt;
        },
      )
  refused_run ends.NoMemory number i j lines line a m b all next at gave_up = (
    lines,
    all.readings,
    all.ran.did.replies,
    record {
      called = tt;
      good = all.ran.did.good;
      last = view m.handler;
      steps = all.ran.did.steps;
      end = inl gave_up.nothing;
      closed = tt;
      reads = λ bytes is. begins_before bytes line lines (next bytes is);
      clocked = record {
        count = all.ran.did.count;
        more = gave_up.readings;
        told = Tells-trans (c.readings a.rest) (c.readings m.rest) (c.readings b.rest) all.readings gave_up.readings all.ran.did.told gave_up.told;
        none = λ other. absurd (other tt);
        one = gave_up.one;
      };
      writes = wrote_whole (k.held a.out) (k.held b.out) _ (wrote_nothing (k.held a.out) (k.held m.out) (k.held b.out) _ all.ran.written gave_up.kept);
      hands_on = tt;
    },
  )
  refused_run (ends.CutShort end) number i j lines line a m b all next at done = (
    lines,
    all.readings,
    all.ran.did.replies,
    record {
      called = cut_called end;
      good = all.ran.did.good;
      last = view m.handler;
      steps = all.ran.did.steps;
      clocked = record {
        count = all.ran.did.count;
        more = taken_reading done.given.at done.step.at;
        told = Tells-trans (c.readings a.rest) (c.readings m.rest) (c.readings b.rest) all.readings _ all.ran.did.told done.step.told;
        none = λ other. absurd (other (cut_short end));
        one = at_most_one done.given.at done.step.at;
      };
      end = cut_ends end (told_of a.handler) i lines _ (view m.handler) (view b.handler)
          (record { line = line; next = next; given = done.given; meaning = done.meaning; at = done.step.at; own = done.step.own; read = refl; cut = done.step.cut });
      closed = cut_closed end _;
      reads = cut_reads end i j lines (λ bytes is. begins_before bytes line lines (next bytes is));
      writes = cut_writes end (k.held a.out) (k.held b.out) _ (wrote_nothing (k.held a.out) (k.held m.out) (k.held b.out) _ all.ran.written done.step.kept);
      hands_on = cut_hands_on end _;
    },
  )

  -- The lines ended before the input's end.
  IsRun-stopped : (e : LinesEnd LineEnd) (i j : Option (List ℕ)) (a b : State g k c) → HandlesLines (Does {g = g} k c) (Err e) i j a b
      → SomeRun g k c (told_of a.handler) (status_of e) (view a.handler) (view b.handler) (around g k c i a.out a.rest) (around g k c j b.out b.rest)
  IsRun-stopped (lines_end.Refused number e) i j a b lines =
      let all = all_ran g k c lines.lines a lines.state lines.handled in
      refused_run e number i j lines.lines lines.ends.line a lines.state b all lines.ends.next lines.ends.number_is
      (subst (λ (P : Type 0). LineDone P (Err e) lines.ends.line (view lines.state.handler) (view b.handler) (beside g k c lines.state) (beside g k c b)) (ap IsTold all.begun) lines.ends.refused.done)
  IsRun-stopped (lines_end.TooLong number) i j a b lines =
      let all = ran_to g k c lines.lines a lines.state b lines.ends.state_is lines.handled in (
        lines.lines,
        all.readings,
        all.ran.did.replies,
        record {
          called = tt;
          good = all.ran.did.good;
          last = view b.handler;
          steps = all.ran.did.steps;
          end = refl;
          closed = tt;
          reads = λ bytes is.
              let long = lines.ends.next bytes is in
              reads_bad bytes long.line lines.lines bad.TooLong number long.next all.ran.did.good lines.ends.number_is.is lines.ends.number_is.within
              (record { fault = line_fault.TooLong; meaning = too_long long.line long.long; kind_is = refl });
          clocked = exact_readings _ _ _ lines.lines all.readings all.ran.did.count all.ran.did.told;
          writes = all.ran.written;
          hands_on = tt;
        },
      )
  IsRun-stopped lines_end.TooMany i j a b lines =
      let all = ran_to g k c lines.lines a lines.state b lines.ends.state_is lines.handled in (
        lines.lines,
        all.readings,
        all.ran.did.replies,
        record {
          called = tt;
          good = all.ran.did.good;
          last = view b.handler;
          steps = all.ran.did.steps;
          end = refl;
          closed = tt;
          reads = λ bytes is. let more = lines.ends.next bytes is in reads_many bytes more.line lines.lines more.next all.ran.did.good lines.ends.full;
          clocked = exact_readings _ _ _ lines.lines all.readings all.ran.did.count all.ran.did.told;
          writes = all.ran.written;
          hands_on = tt;
        },
      )
  IsRun-stopped lines_end.ReadFault i j a b lines =
      let all = ran_to g k c lines.lines a lines.state b lines.ends.state_is lines.handled in (
        lines.lines,
        all.readings,
        all.ran.did.replies,
        record {
          called = tt;
          good = all.ran.did.good;
          last = view b.handler;
          steps = all.ran.did.steps;
          end = refl;
          closed = tt;
          reads = record { part = lines.ends.part; taken = subst (Consumes i j) lines.ends.got_is lines.taken; no_feed = lines.ends.no_feed };
          clocked = exact_readings _ _ _ lines.lines all.readings all.ran.did.count all.ran.did.told;
          writes = all.ran.written;
          hands_on = tt;
        },
      )
  IsRun-stopped lines_end.NoMemory i j a b lines =
      let all = ran_to g k c lines.lines a lines.state b lines.ends.state_is lines.handled in (
        lines.lines,
        all.readings,
        all.ran.did.replies,
        record {
          called = tt;
          good = all.ran.did.good;
          last = view b.handler;
          steps = all.ran.did.steps;
          end = inl (NothingDone-none (view b.handler));
          closed = tt;
          reads = λ bytes is. record { rest = lines_of bytes; all = sym (ap (λ l. l ++ lines_of bytes) lines.ends.no_line) };
          clocked = exact_readings _ _ _ lines.lines all.readings all.ran.did.count all.ran.did.told;
          writes = wrote_whole (k.held a.out) (k.held b.out) _ all.ran.written;
          hands_on = tt;
        },
      )

  -- the output's count of faults
  pub stopped_rose : (e : LinesEnd LineEnd) (i j : Option (List ℕ)) (a b : State g k c) → HandlesLines (Does {g = g} k c) (Err e) i j a b → status_of e ≡ status.WriteFault → Rose (k.faults a.out) (k.faults b.out)
  stopped_rose (lines_end.Refused number e) i j a b lines is =
      let all = all_ran g k c lines.lines a lines.state lines.handled in
      rose_later _ _ _ all.later (lines.ends.refused.rose (ap Err (at_write number e is)))
  stopped_rose (lines_end.TooLong number) i j a b lines is = absurd cc
  stopped_rose lines_end.TooMany i j a b lines is = absurd cc
  stopped_rose lines_end.ReadFault i j a b lines is = absurd cc
  stopped_rose lines_end.NoMemory i j a b lines is = absurd cc

  -- the clusters that were shown
  pub stopped_shown : (e : LinesEnd LineEnd) (i j : Option (List ℕ)) (a b : State g k c) → HandlesLines (Does {g = g} k c) (Err e) i j a b → Shows ⊥ a.handler b.handler
  stopped_shown (lines_end.Refused number e) i j a b lines =
      Shows-more ⊥ a.handler lines.state.handler b.handler (all_shown g k c lines.lines a lines.state lines.handled)
      (Shows-less _ ⊥ lines.state.handler b.handler lines.ends.refused.shows (λ is. absurd is))
  stopped_shown (lines_end.TooLong number) i j a b lines = shown_to g k c lines.lines a lines.state b lines.ends.state_is lines.handled
  stopped_shown lines_end.TooMany i j a b lines = shown_to g k c lines.lines a lines.state b lines.ends.state_is lines.handled
  stopped_shown lines_end.ReadFault i j a b lines = shown_to g k c lines.lines a lines.state b lines.ends.state_is lines.handled
  stopped_shown lines_end.NoMemory i j a b lines = shown_to g k c lines.lines a lines.state b lines.ends.state_is lines.handled

  -- the output's count of faults never falls
  pub stopped_later : (e : LinesEnd LineEnd) (i j : Option (List ℕ)) (a b : State g k c) → HandlesLines (Does {g = g} k c) (Err e) i j a b → k.faults a.out ≤ k.faults b.out
  stopped_later (lines_end.Refused number e) i j a b lines = let all = all_ran g k c lines.lines a lines.state lines.handled in omega (arith, all.later, lines.ends.refused.later)
  stopped_later (lines_end.TooLong number) i j a b lines = (ran_to g k c lines.lines a lines.state b lines.ends.state_is lines.handled).later
  stopped_later lines_end.TooMany i j a b lines = (ran_to g k c lines.lines a lines.state b lines.ends.state_is lines.handled).later
  stopped_later lines_end.ReadFault i j a b lines = (ran_to g k c lines.lines a lines.state b lines.ends.state_is lines.handled).later
  stopped_later lines_end.NoMemory i j a b lines = (ran_to g k c lines.lines a lines.state b lines.ends.state_is lines.handled).later

  -- After the lines ended early the output was flushed, if it could be.
  IsRun-flushed : (e : LinesEnd LineEnd) (i j : Option (List ℕ)) (a b : State g k c) (out : K) → SomeRun g k c (told_of a.handler) (status_of e) (view a.handler) (view b.handler) (around g k c i a.out a.rest) (around g k c j b.out b.rest)
      → Appends (k.held b.out) (k.held out) [] → SomeRun g k c (told_of a.handler) (status_of e) (view a.handler) (view b.handler) (around g k c i a.out a.rest) (around g k c j out b.rest)
  IsRun-flushed e i j a b out (lines, readings, replies, run) kept = (
    lines,
    readings,
    replies,
    record {
      called = run.called;
      good = run.good;
      last = run.last;
      steps = run.steps;
      clocked = run.clocked;
      end = run.end;
      closed = run.closed;
      reads = run.reads;
      writes = writes_kept (status_of e) _ _ _ replies run.writes kept;
      hands_on = stopped_hands_on e _;
    },
  )

  pub IsRun-cut : (e : LinesEnd LineEnd) (i j : Option (List ℕ)) (a b : State g k c) (out : K) → HandlesLines (Does {g = g} k c) (Err e) i j a b → Appends (k.held b.out) (k.held out) []
      → SomeRun g k c (told_of a.handler) (status_of e) (view a.handler) (view b.handler) (around g k c i a.out a.rest) (around g k c j out b.rest)
  IsRun-cut e i j a b out lines kept = IsRun-flushed e i j a b out (IsRun-stopped e i j a b lines) kept
