-- Runs of lines that go on.
use Rattle.std.proofs.Common.{◌≡◌, ◌≤◌, take, ℕ, ◌+◌, ℤ, List, [], ◌∷◌, ◌++◌, length, Option, Some, None, refl, sym, ap, subst, arith, length-append}
use Rattle.std.proofs.lemmas.List.{append-nil}
use Rattle.std.proofs.lemmas.Grind.{flat_map-append}
use Rattle.std.specs.Io.KnownBytes.{Appends}
use Rattle.std.proofs.KnownBytes.{Appends-nil, Appends-trans}
use Rattle.qz_io.specs.Clocks.{Tells}
use Rattle.qz_io.specs.Outside.{Outside}
use Rattle.qz_io.proofs.Readings.{Tells-nil, Tells-trans}
use Rattle.std.specs.Prelude.{Result, Ok, Err}
use Rattle.qz_steps.specs.declared.steps.Step.{Step}
use Rattle.qz_job_json.specs.declared.lines.Given.{Given}
use Rattle.qz_top.specs.Lines.{Meaning, line_meaning, kind_of, IsGoodMeaning, readings_of_at, readings_of_meaning, timed, steps_by_meaning, steps_of}
use Rattle.qz_steps.specs.declared.steps.StepReply.{StepReply}
use Rattle.qz_report.specs.Replies.{reply_text}
use Rattle.qz_top.specs.Trails.{texts, RunState, RanSteps}
use Rattle.qz_top.specs.LineOutcomes.{Did, Ran, DidStep, IsOwn, taken_reading, step_at, GaveUp, StepPart, NotAnswered, StepDone, LineDone, RanPart, IsBad, Untouched, line_end}
use Rattle.qz_top.specs.declared.line_handler.LineEnd.{LineEnd}
use Rattle.qz_top.specs.declared.line_handler.LineEnd.TheVariants as ends
use Rattle.qz_job_json.specs.declared.faults.LineFault.{LineFault}
use Rattle.qz_job_json.specs.declared.faults.LineError.{LineError}
use Rattle.qz_job_json.specs.declared.faults.LineError.TheVariants as line_error
use Rattle.qz_job_json.specs.Lines.{ReadsLineAs}
use Rattle.qz_top.proofs.LineLaws.{steps_of-append, readings_of-append}
use Rattle.qz_io.proofs.TakenLaws.{AllByRecursion-append}
use Rattle.qz_top.proofs.TrailLaws.{RanSteps-none, RanSteps-more, NothingDone-none}

pub Did-none : {honest : Type 0} (R : RunState) (o : Outside) → Did honest [] [] R R o o
Did-none R o = record { good = tt; count = refl; told = Tells-nil o.readings; replies = []; steps = RanSteps-none R }

pub Ran-none : {honest : Type 0} (R : RunState) (o : Outside) → Ran honest [] [] R R o o
unfolding Did-none
Ran-none R o = record { did = Did-none R o; written = Appends-nil o.held }

-- lines are done after others
unfoldable pub Did-more : (honest : Type 0) (xs ys : List (List ℕ)) (rs qs : List ℤ) (R S T : RunState) (a b c : Outside)
    → Did honest xs rs R S a b → Did honest ys qs S T b c → Did honest (xs ++ ys) (rs ++ qs) R T a c
Did-more honest xs ys rs qs R S T a b c p q = record {
  good = AllByRecursion-append _ xs ys p.good q.good;
  count = simp length-append (rw readings_of-append (omega (arith, p.count, q.count)));
  told = Tells-trans a.readings b.readings c.readings rs qs p.told q.told;
  replies = p.replies ++ q.replies;
  steps = subst (λ ts. RanSteps honest ts (p.replies ++ q.replies) R T) (sym (steps_of-append xs ys rs qs p.good p.count))
      (RanSteps-more honest (steps_of xs rs) (steps_of ys qs) p.replies q.replies R S T p.steps q.steps);
}

pub Ran-more : {honest : Type 0} (xs ys : List (List ℕ)) (rs qs : List ℤ) (R S T : RunState) (a b c : Outside)
    → Ran honest xs rs R S a b → Ran honest ys qs S T b c → Ran honest (xs ++ ys) (rs ++ qs) R T a c
unfolding Did-more
Ran-more xs ys rs qs R S T a b c p q = record {
  did = Did-more _ xs ys rs qs R S T a b c p.did q.did;
  written = subst (Appends a.held c.held) (sym (flat_map-append reply_text p.did.replies q.did.replies)) (Appends-trans a.held b.held c.held _ _ p.written q.written);
}

-- the one step of a line
timed_one : (at : Option ℤ) (step : Step) (t : ℤ) → IsOwn at t → timed at step (taken_reading at t) (λ _. []) ≡ record { step = step; at = t } ∷ []
timed_one None step t own = refl
timed_one (Some a) step t own = ap (λ x. record { step = step; at = x } ∷ []) (sym own)

one_reading : (at : Option ℤ) (t : ℤ) → length (taken_reading at t) ≡ readings_of_at at + 0
one_reading None t = omega arith
one_reading (Some a) t = omega arith

by_meaning : (m : Meaning) (given : Given) (t : ℤ) → m ≡ Ok (Some given) → IsOwn given.at t
    → steps_by_meaning m (taken_reading given.at t) (λ _. []) ≡ step_at given t ∷ []
by_meaning m given t e own = rw e (timed_one given.at given.step t own)

good_by : (m : Meaning) (given : Option Given) → m ≡ Ok given → IsGoodMeaning m
good_by m given e = rw e tt

count_by_meaning : (m : Meaning) (given : Given) (t : ℤ) → m ≡ Ok (Some given) → length (taken_reading given.at t) ≡ readings_of_meaning m + 0
count_by_meaning m given t e = rw e (one_reading given.at t)

pub steps_of-one : (line : List ℕ) (given : Given) (t : ℤ) → line_meaning line ≡ Ok (Some given) → IsOwn given.at t
    → steps_of (line ∷ []) (taken_reading given.at t) ≡ step_at given t ∷ []
steps_of-one line given t e own = by_meaning (line_meaning line) given t e own

-- a line's step was done
pub Did-one : (honest : Type 0) (line : List ℕ) (given : Given) (t : ℤ) (before after : RunState) (a b : Outside) → line_meaning line ≡ Ok (Some given)
    → DidStep honest given t before after a b → Did honest (line ∷ []) (taken_reading given.at t) before after a b
Did-one honest line given t before after a b e did = record {
  good = (good_by (line_meaning line) (Some given) e, tt);
  count = count_by_meaning (line_meaning line) given t e;
  told = did.told;
  replies = did.reply ∷ [];
  steps = subst (λ ts. RanSteps honest ts (did.reply ∷ []) before after) (sym (steps_of-one line given t e did.own)) did.steps;
}

-- the text of one reply
one_text : (r : StepReply) → texts (r ∷ []) ≡ reply_text r
one_text r = append-nil (reply_text r)

blank_steps : (m : Meaning) → m ≡ Ok None → steps_by_meaning m [] (λ _. []) ≡ []
blank_steps m e = rw e refl

blank_count : (m : Meaning) → m ≡ Ok None → 0 ≡ readings_of_meaning m + 0
blank_count m e = rw e (omega arith)

-- a blank line does nothing
pub Ran-blank : (honest : Type 0) (line : List ℕ) (R : RunState) (o : Outside) → line_meaning line ≡ Ok None
    → Ran honest (line ∷ []) [] R R o o
Ran-blank honest line R o e = record {
  did = record {
    good = (good_by (line_meaning line) None e, tt);
    count = blank_count (line_meaning line) e;
    told = Tells-nil o.readings;
    replies = [];
    steps = subst (λ ts. RanSteps honest ts [] R R) (sym (blank_steps (line_meaning line) e)) (RanSteps-none R);
  };
  written = Appends-nil o.held;
}

gave_up : (R : RunState) (o : Outside) → GaveUp R R o o
gave_up R o = record { nothing = NothingDone-none R; readings = []; one = omega arith; told = Tells-nil o.readings; kept = Appends-nil o.held }

-- a part of the reply of a line's step was written
part_of : {honest : Type 0} (line : List ℕ) (given : Given) (before after : RunState) (a b : Outside) → line_meaning line ≡ Ok (Some given)
    → StepPart honest given before after a b → RanPart honest line before after a b
unfolding Did-one
part_of line given before after a b e p = record {
  readings = taken_reading given.at p.at;
  did = Did-one _ line given p.at before after a b e p.did;
  one = omega arith;
  count = p.count;
  part = subst (λ t. p.count ≤ length t) (sym (one_text p.did.reply)) p.part;
  written = subst (λ t. Appends a.held b.held (take p.count t)) (sym (one_text p.did.reply)) p.written;
}

pub at_most_one : (own : Option ℤ) (at : ℤ) → length (taken_reading own at) ≤ 1
at_most_one None at = omega arith
at_most_one (Some t) at = omega arith

-- a step without a reply line
pub StepDone-err : (honest : Type 0) (e : LineEnd) (given : Given) (at : ℤ) (before after : RunState) (a b : Outside) → IsOwn given.at at → Tells a.readings b.readings (taken_reading given.at at)
    → Appends a.held b.held [] → NotAnswered honest e (step_at given at) before after → StepDone honest (Err e) given before after a b
StepDone-err honest ends.Unanswered given at before after a b own told kept left = record {
  at = at;
  did = record { own = own; told = told; reply = left.0; steps = left.1 };
  count = 0;
  part = omega arith;
  written = kept;
}
StepDone-err honest ends.NoMemory given at before after a b own told kept left =
    record { nothing = left; readings = taken_reading given.at at; one = at_most_one given.at at; told = told; kept = kept }
StepDone-err honest (ends.CutShort end) given at before after a b own told kept left =
    record { at = at; own = own; told = told; kept = kept; cut = left }
StepDone-err honest (ends.Bad kind) given at before after a b own told kept left = absurd left
StepDone-err honest ends.WriteFault given at before after a b own told kept left = absurd left

-- a step whose reply line was written
pub StepDone-ok : {honest : Type 0} (given : Given) (at : ℤ) (before after : RunState) (a b : Outside) (text : List ℕ) → IsOwn given.at at → Tells a.readings b.readings (taken_reading given.at at)
    → (reply : StepReply) × RanSteps honest (step_at given at ∷ []) (reply ∷ []) before after × (text ≡ reply_text reply) → Appends a.held b.held text
    → (at : ℤ) × (did : DidStep honest given at before after a b) × Appends a.held b.held (reply_text did.reply)
StepDone-ok given at before after a b text own told ran written =
    (at, record { own = own; told = told; reply = ran.0; steps = ran.1 }, subst (Appends a.held b.held) ran.2 written)

-- a step of whose reply line a part was written
pub StepDone-part : {honest : Type 0} (given : Given) (at : ℤ) (before after : RunState) (a b : Outside) (text : List ℕ) → IsOwn given.at at → Tells a.readings b.readings (taken_reading given.at at)
    → (reply : StepReply) × RanSteps honest (step_at given at ∷ []) (reply ∷ []) before after × (text ≡ reply_text reply) → (n : ℕ) × (n ≤ length text) × Appends a.held b.held (take n text)
    → StepPart honest given before after a b
StepDone-part given at before after a b text own told ran written = record {
  at = at;
  did = record { own = own; told = told; reply = ran.0; steps = ran.1 };
  count = written.0;
  part = subst (λ t. written.0 ≤ length t) ran.2 written.1;
  written = subst (λ t. Appends a.held b.held (take written.0 t)) ran.2 written.2;
}

-- what became of a line's step became of the line
pub LineDone-step : (honest : Type 0) (r : Result (Unit {0}) LineEnd) (line : List ℕ) (given : Given) (before after : RunState) (a b : Outside)
    → line_meaning line ≡ Ok (Some given) → StepDone honest r given before after a b → LineDone honest r line before after a b
unfolding Did-one
LineDone-step honest (Ok u) line given before after a b read done = (
  taken_reading given.at done.0,
  record {
    did = Did-one honest line given done.0 before after a b read done.1;
    written = subst (Appends a.held b.held) (sym (one_text done.1.reply)) done.2;
  },
)
LineDone-step honest (Err (ends.Bad kind)) line given before after a b read done = absurd done
LineDone-step honest (Err ends.WriteFault) line given before after a b read done = part_of line given before after a b read done
LineDone-step honest (Err ends.Unanswered) line given before after a b read done = part_of line given before after a b read done
LineDone-step honest (Err ends.NoMemory) line given before after a b read done = done
LineDone-step honest (Err (ends.CutShort end)) line given before after a b read done =
    record { given = given; meaning = read; step = done }

untouched : (R : RunState) (o : Outside) → Untouched R R o o
untouched R o = record { same = refl; kept = Appends-nil o.held; told = Tells-nil o.readings }

bad_done : (fault : LineFault) (line : List ℕ) (R : RunState) (o : Outside) → line_meaning line ≡ Err fault
    → IsBad line (kind_of fault) × Untouched R R o o
bad_done fault line R o e = (record { fault = fault; meaning = e; kind_is = refl }, untouched R o)

-- a blank line was read
pub LineDone-blank : {honest : Type 0} (line : List ℕ) (R : RunState) (o : Outside)
    → line_meaning line ≡ Ok None → (readings : List ℤ) × Ran honest (line ∷ []) readings R R o o
LineDone-blank line R o read = ([], Ran-blank _ line R o read)

-- a line that wasn't read did nothing
pub LineDone-unread : (honest : Type 0) (error : LineError) (line : List ℕ) (R : RunState) (o : Outside) → ReadsLineAs (Err error) line (line_meaning line) → LineDone honest (Err (line_end error)) line R R o o
LineDone-unread honest line_error.NoMemory line R o read = gave_up R o
LineDone-unread honest (line_error.Bad fault) line R o read = bad_done fault line R o read

pub not_write : (error : LineError) → line_end error ≡ ends.WriteFault → ⊥
not_write line_error.NoMemory e = cc
not_write (line_error.Bad fault) e = cc
