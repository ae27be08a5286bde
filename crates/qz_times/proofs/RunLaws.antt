-- Lines that were answered, and how they end.
use Rattle.std.proofs.Common.{◌≡◌, ◌⊎◌, inl, inr, ◌≤◌, ◌<◌, ℕ, List, [], ◌∷◌, ◌++◌, length, true, take, Option, None, refl, sym, ap, ◌∙◌, subst, arith, append_assoc}
use Rattle.std.specs.Prelude.{Ok, Err, nat_lt}
use Rattle.std.specs.Io.KnownBytes.{Consumes, Appends}
use Rattle.std.proofs.KnownBytes.{Appends-nil, Appends-trans}
use Rattle.std.proofs.lemmas.List.{append-nil}
use Rattle.std.proofs.lemmas.Bool.Decides.{nat_tests}
use Rattle.qz_civil.specs.Causes.{Rose}
use Rattle.qz_io.specs.declared.handlers.LinesEnd.{LinesEnd}
use Rattle.qz_io.specs.declared.handlers.LinesEnd.TheVariants as lines_end
use Rattle.qz_io.specs.declared.traits.Sink as sink
use Rattle.qz_io.specs.Ahead.{BeginWith}
use Rattle.qz_io.specs.Around.{output_alone}
use Rattle.qz_io.specs.Handlers.{AllHandled, HandlesLines}
use Rattle.qz_io.specs.LineStates.{LineState}
use Rattle.qz_io.specs.Lines.{lines_of}
use Rattle.qz_io.specs.Outside.{Outside, IsHandedOn}
use Rattle.qz_job_json.specs.declared.faults.LineFault.TheVariants as fault
use Rattle.qz_times.specs.declared.answers.Answering.{Answering}
use Rattle.qz_times.specs.declared.ends.LineEnd.{LineEnd}
use Rattle.qz_times.specs.declared.ends.LineEnd.TheVariants as ends
use Rattle.qz_times.specs.declared.ends.TimesEnd.{TimesEnd}
use Rattle.qz_times.specs.declared.ends.TimesEnd.TheVariants as times
use Rattle.qz_times.specs.declared.queries.Query.{Query}
use Rattle.qz_times.specs.Runs.{IsRun}
use Rattle.qz_times.specs.Known.{kept, nothing}
use Rattle.qz_times.specs.Said.{line_meaning, AllSaid}
use Rattle.qz_times.specs.Answers.{Answers, Finishes, end_of}
use Rattle.qz_times.proofs.SaidLaws.{AllSaid-none, AllSaid-one}

too_long : (line : List ℕ) → 65536 < length line → line_meaning line ≡ Err fault.TooLong
unfolding line_meaning
too_long line long = let past : nat_lt 65536 (length line) ≡ true = grind (arith, nat_tests) in rw past refl

-- an output to which nothing more was written
wrote_nothing : (x y z : Option (List ℕ)) (text : List ℕ) → Appends x y text → Appends y z [] → Appends x z text
wrote_nothing x y z text p q = subst (Appends x z) (append-nil text) (Appends-trans x y z text [] p q)

-- lines that come first come before none
begins_all : (bytes : List ℕ) (lines : List (List ℕ)) → lines_of bytes ≡ lines → BeginWith lines (lines_of bytes)
begins_all bytes lines all = record { rest = []; all = all ∙ sym (append-nil lines) }

begins_more : (bytes line : List ℕ) (lines : List (List ℕ)) → BeginWith (lines ++ line ∷ []) (lines_of bytes) → BeginWith lines (lines_of bytes)
begins_more bytes line lines next = record { rest = line ∷ next.rest; all = next.all ∙ append_assoc lines (line ∷ []) next.rest }

module _ {K : Type 0} (k : sink.Ghosts K) where
  abbrev State : Type 0
  State = LineState Answering K (Unit {0})

  -- what was said to lines that were answered
  pub record AllAnswered (lines : List (List ℕ)) (old new : State) : Type 0 where
    pub query : new.handler.query ≡ old.handler.query
    pub text : List ℕ
    pub said : AllSaid old.handler.query (kept old.handler.known) lines text (kept new.handler.known)
    pub written : Appends (k.held old.out) (k.held new.out) text
    pub later : k.faults old.out ≤ k.faults new.out

  pub all_answered : (lines : List (List ℕ)) (old new : State) → AllHandled (Answers k) lines old new → AllAnswered lines old new
  all_answered [] old new same = subst (AllAnswered [] old) (sym same) (record {
    query = refl;
    text = [];
    said = AllSaid-none old.handler.query (kept old.handler.known);
    written = Appends-nil (k.held old.out);
    later = omega arith;
  })
  all_answered (line ∷ lines) old new (between, one, others) =
      let more = all_answered lines between new others in
      record {
        query = more.query ∙ one.query;
        text = one.done.0 ++ more.text;
        said = (
          one.done.0,
          more.text,
          (kept between.handler.known),
          one.done.1,
          subst (λ q. AllSaid q (kept between.handler.known) lines more.text (kept new.handler.known)) one.query more.said,
          refl,
        );
        written = Appends-trans (k.held old.out) (k.held between.out) (k.held new.out) one.done.0 more.text one.done.2 more.written;
        later = omega (arith, one.later, more.later);
      }

  -- what is known of an input and this output
  abbrev at : Option (List ℕ) → K → Outside
  at left out = record { left = left; held = k.held out; handed = k.handed out; readings = None }

  -- what was said to the lines, where the first of them found nothing known
  said_first : (lines : List (List ℕ)) (a s : State) (answered : AllAnswered lines a s) → kept a.handler.known ≡ nothing → AllSaid a.handler.query nothing lines answered.text (kept s.handler.known)
  said_first lines a s answered empty = subst (λ known. AllSaid a.handler.query known lines answered.text (kept s.handler.known)) empty answered.said

  -- All lines were answered, and then all that the output holds was handed on, or that failed.
  pub IsRun-whole : (e : TimesEnd) (i j : Option (List ℕ)) (a b : State) (out : K) (m n : ℕ) → kept a.handler.known ≡ nothing → HandlesLines (Answers k) (Ok tt) i j a b
      → Finishes e (output_alone k b.out) (output_alone k out) m n → IsRun e a.handler.query (at i a.out) (at j out)
  IsRun-whole times.Done i j a b out m n empty lines finishes =
      let answered = all_answered lines.lines a lines.state lines.handled in
      record {
        lines = lines.lines;
        text = answered.text;
        known = kept lines.state.handler.known;
        said = said_first lines.lines a lines.state answered empty;
        ends = record {
          all = lines.ends.all;
          ended = lines.ends.ended;
          within = lines.ends.within;
          written = wrote_nothing (k.held a.out) (k.held lines.state.out) (k.held out) answered.text answered.written (subst (λ s. Appends (k.held s.out) (k.held out) []) lines.ends.state_is finishes.0);
          handed_on = finishes.1;
        };
      }
  IsRun-whole times.WriteFault i j a b out m n empty lines finishes =
      let answered = all_answered lines.lines a lines.state lines.handled in
      record {
        lines = lines.lines;
        text = answered.text;
        known = kept lines.state.handler.known;
        said = said_first lines.lines a lines.state answered empty;
        ends = record {
          last = [];
          one = omega arith;
          its = [];
          after = kept lines.state.handler.known;
          said = AllSaid-none a.handler.query (kept lines.state.handler.known);
          begins = λ bytes is. record { rest = []; all = lines.ends.all bytes is ∙ sym (append-nil lines.lines) ∙ sym (append-nil (lines.lines ++ [])) };
          count = 0;
          written = subst (Appends (k.held a.out) (k.held out)) (sym (append-nil answered.text))
              (wrote_nothing (k.held a.out) (k.held lines.state.out) (k.held out) answered.text answered.written (subst (λ s. Appends (k.held s.out) (k.held out) []) lines.ends.state_is finishes.0));
        };
      }
  IsRun-whole (times.Bad number fault) i j a b out m n empty lines finishes = absurd finishes
  IsRun-whole times.TooManyLines i j a b out m n empty lines finishes = absurd finishes
  IsRun-whole times.ReadFault i j a b out m n empty lines finishes = absurd finishes
  IsRun-whole times.NoMemory i j a b out m n empty lines finishes = absurd finishes

  -- nothing more was written by what ended the lines
  same_out : (i : Option (List ℕ)) (s b : State) (text : List ℕ) → b ≡ s → Appends i (k.held s.out) text → Appends i (k.held b.out) text
  same_out i s b text same written = subst (λ z. Appends i (k.held z.out) text) (sym same) written

  -- The lines ended before the input's end.
  pub IsRun-stopped : (e : LinesEnd LineEnd) (i j : Option (List ℕ)) (a b : State) → kept a.handler.known ≡ nothing → HandlesLines (Answers k) (Err e) i j a b
      → IsRun (end_of e) a.handler.query (at i a.out) (at j b.out)
  IsRun-stopped (lines_end.Refused number (ends.Bad f)) i j a b empty lines =
      let answered = all_answered lines.lines a lines.state lines.handled in
      record {
        lines = lines.lines;
        text = answered.text;
        known = kept lines.state.handler.known;
        said = said_first lines.lines a lines.state answered empty;
        ends = record {
          number_is = lines.ends.number_is;
          bad = λ bytes is. record { line = lines.ends.line; next = lines.ends.next bytes is; bad = lines.ends.refused.done.0 };
          written = wrote_nothing (k.held a.out) (k.held lines.state.out) (k.held b.out) answered.text answered.written lines.ends.refused.done.1;
        };
      }
  IsRun-stopped (lines_end.Refused number ends.WriteFault) i j a b empty lines =
      let answered = all_answered lines.lines a lines.state lines.handled in
      let part = lines.ends.refused.done in
      record {
        lines = lines.lines;
        text = answered.text;
        known = kept lines.state.handler.known;
        said = said_first lines.lines a lines.state answered empty;
        ends = record {
          last = lines.ends.line ∷ [];
          one = omega arith;
          its = part.text;
          after = part.after;
          said = subst (λ q. AllSaid q (kept lines.state.handler.known) (lines.ends.line ∷ []) part.text part.after) answered.query
              (AllSaid-one lines.state.handler.query (kept lines.state.handler.known) lines.ends.line part.text part.after part.said);
          begins = lines.ends.next;
          count = part.count;
          written = Appends-trans (k.held a.out) (k.held lines.state.out) (k.held b.out) answered.text (take part.count part.text) answered.written part.written;
        };
      }
  IsRun-stopped (lines_end.Refused number ends.NoMemory) i j a b empty lines =
      let answered = all_answered lines.lines a lines.state lines.handled in
      record {
        lines = lines.lines;
        text = answered.text;
        known = kept lines.state.handler.known;
        said = said_first lines.lines a lines.state answered empty;
        ends = record {
          begins = λ bytes is. begins_more bytes lines.ends.line lines.lines (lines.ends.next bytes is);
          written = wrote_nothing (k.held a.out) (k.held lines.state.out) (k.held b.out) answered.text answered.written lines.ends.refused.done;
        };
      }
  IsRun-stopped (lines_end.TooLong number) i j a b empty lines =
      let answered = all_answered lines.lines a lines.state lines.handled in
      record {
        lines = lines.lines;
        text = answered.text;
        known = kept lines.state.handler.known;
        said = said_first lines.lines a lines.state answered empty;
        ends = record {
          number_is = lines.ends.number_is;
          bad = λ bytes is. let long = lines.ends.next bytes is in record { line = long.line; next = long.next; bad = too_long long.line long.long };
          written = same_out (k.held a.out) lines.state b answered.text lines.ends.state_is answered.written;
        };
      }
  IsRun-stopped lines_end.TooMany i j a b empty lines =
      let answered = all_answered lines.lines a lines.state lines.handled in
      record {
        lines = lines.lines;
        text = answered.text;
        known = kept lines.state.handler.known;
        said = said_first lines.lines a lines.state answered empty;
        ends = record {
          full = lines.ends.full;
          more = lines.ends.next;
          written = same_out (k.held a.out) lines.state b answered.text lines.ends.state_is answered.written;
        };
      }
  IsRun-stopped lines_end.ReadFault i j a b empty lines =
      let answered = all_answered lines.lines a lines.state lines.handled in
      record {
        lines = lines.lines;
        text = answered.text;
        known = kept lines.state.handler.known;
        said = said_first lines.lines a lines.state answered empty;
        ends = record {
          part = lines.ends.part;
          taken = subst (Consumes i j) lines.ends.got_is lines.taken;
          no_feed = lines.ends.no_feed;
          written = same_out (k.held a.out) lines.state b answered.text lines.ends.state_is answered.written;
        };
      }
  IsRun-stopped lines_end.NoMemory i j a b empty lines =
      let answered = all_answered lines.lines a lines.state lines.handled in
      record {
        lines = lines.lines;
        text = answered.text;
        known = kept lines.state.handler.known;
        said = said_first lines.lines a lines.state answered empty;
        ends = record {
          begins = λ bytes is. record { rest = lines_of bytes; all = sym (ap (λ l. l ++ lines_of bytes) lines.ends.no_line) };
          written = same_out (k.held a.out) lines.state b answered.text lines.ends.state_is answered.written;
        };
      }

  -- a run after which the output was flushed
  pub IsRun-kept : (e : LinesEnd LineEnd) (q : Query) (i j : Option (List ℕ)) (a b c : K) → IsRun (end_of e) q (at i a) (at j b) → Appends (k.held b) (k.held c) [] → IsRun (end_of e) q (at i a) (at j c)
  IsRun-kept (lines_end.Refused number (ends.Bad f)) q i j a b c run kept = record {
    lines = run.lines;
    text = run.text;
    known = run.known;
    said = run.said;
    ends = record { number_is = run.ends.number_is; bad = run.ends.bad; written = wrote_nothing (k.held a) (k.held b) (k.held c) _ run.ends.written kept };
  }
  IsRun-kept (lines_end.Refused number ends.WriteFault) q i j a b c run kept = record {
    lines = run.lines;
    text = run.text;
    known = run.known;
    said = run.said;
    ends = record {
      last = run.ends.last;
      one = run.ends.one;
      its = run.ends.its;
      after = run.ends.after;
      said = run.ends.said;
      begins = run.ends.begins;
      count = run.ends.count;
      written = wrote_nothing (k.held a) (k.held b) (k.held c) _ run.ends.written kept;
    };
  }
  IsRun-kept (lines_end.Refused number ends.NoMemory) q i j a b c run kept = record {
    lines = run.lines;
    text = run.text;
    known = run.known;
    said = run.said;
    ends = record { begins = run.ends.begins; written = wrote_nothing (k.held a) (k.held b) (k.held c) _ run.ends.written kept };
  }
  IsRun-kept (lines_end.TooLong number) q i j a b c run kept = record {
    lines = run.lines;
    text = run.text;
    known = run.known;
    said = run.said;
    ends = record { number_is = run.ends.number_is; bad = run.ends.bad; written = wrote_nothing (k.held a) (k.held b) (k.held c) _ run.ends.written kept };
  }
  IsRun-kept lines_end.TooMany q i j a b c run kept = record {
    lines = run.lines;
    text = run.text;
    known = run.known;
    said = run.said;
    ends = record { full = run.ends.full; more = run.ends.more; written = wrote_nothing (k.held a) (k.held b) (k.held c) _ run.ends.written kept };
  }
  IsRun-kept lines_end.ReadFault q i j a b c run kept = record {
    lines = run.lines;
    text = run.text;
    known = run.known;
    said = run.said;
    ends = record { part = run.ends.part; taken = run.ends.taken; no_feed = run.ends.no_feed; written = wrote_nothing (k.held a) (k.held b) (k.held c) _ run.ends.written kept };
  }
  IsRun-kept lines_end.NoMemory q i j a b c run kept = record {
    lines = run.lines;
    text = run.text;
    known = run.known;
    said = run.said;
    ends = record { begins = run.ends.begins; written = wrote_nothing (k.held a) (k.held b) (k.held c) _ run.ends.written kept };
  }

  -- the count of faults of the output while lines are answered
  pub faults_later : (i j : Option (List ℕ)) (a b : State) → HandlesLines (Answers k) (Ok tt) i j a b → k.faults a.out ≤ k.faults b.out
  faults_later i j a b lines =
      let answered = all_answered lines.lines a lines.state lines.handled in
      subst (λ s. k.faults a.out ≤ k.faults s.out) (sym lines.ends.state_is) answered.later

  later_to : (a s b : State) → b ≡ s → k.faults a.out ≤ k.faults s.out → k.faults a.out ≤ k.faults b.out
  later_to a s b same later = subst (λ (x : State). k.faults a.out ≤ k.faults x.out) (sym same) later

  pub stopped_later : (e : LinesEnd LineEnd) (i j : Option (List ℕ)) (a b : State) → HandlesLines (Answers k) (Err e) i j a b → k.faults a.out ≤ k.faults b.out
  stopped_later (lines_end.Refused number e) i j a b lines = omega (arith, (all_answered lines.lines a lines.state lines.handled).later, lines.ends.refused.later)
  stopped_later (lines_end.TooLong number) i j a b lines = later_to a lines.state b lines.ends.state_is (all_answered lines.lines a lines.state lines.handled).later
  stopped_later lines_end.TooMany i j a b lines = later_to a lines.state b lines.ends.state_is (all_answered lines.lines a lines.state lines.handled).later
  stopped_later lines_end.ReadFault i j a b lines = later_to a lines.state b lines.ends.state_is (all_answered lines.lines a lines.state lines.handled).later
  stopped_later lines_end.NoMemory i j a b lines = later_to a lines.state b lines.ends.state_is (all_answered lines.lines a lines.state lines.handled).later

  pub then_rose : (x y z : ℕ) → Rose x y → y ≤ z → Rose x z
  then_rose x y z rose later = omega (arith, rose, later)

  rose_later : (x y z : ℕ) → x ≤ y → Rose y z → Rose x z
  rose_later x y z later rose = omega (arith, later, rose)

  pub stopped_rose : (e : LinesEnd LineEnd) (i j : Option (List ℕ)) (a b : State) → HandlesLines (Answers k) (Err e) i j a b → end_of e ≡ times.WriteFault → Rose (k.faults a.out) (k.faults b.out)
  stopped_rose (lines_end.Refused number ends.WriteFault) i j a b lines is =
      let answered = all_answered lines.lines a lines.state lines.handled in
      rose_later _ _ _ answered.later (lines.ends.refused.rose refl)
  stopped_rose (lines_end.Refused number (ends.Bad f)) i j a b lines is = absurd cc
  stopped_rose (lines_end.Refused number ends.NoMemory) i j a b lines is = absurd cc
  stopped_rose (lines_end.TooLong number) i j a b lines is = absurd cc
  stopped_rose lines_end.TooMany i j a b lines is = absurd cc
  stopped_rose lines_end.ReadFault i j a b lines is = absurd cc
  stopped_rose lines_end.NoMemory i j a b lines is = absurd cc

  pub finish_rose : (e : TimesEnd) (i j : Option (List ℕ)) (a b : State) (old new : Outside) (n : ℕ) → HandlesLines (Answers k) (Ok tt) i j a b → Finishes e old new (k.faults b.out) n
      → e ≡ times.WriteFault → Rose (k.faults a.out) n
  finish_rose times.WriteFault i j a b old new n lines finishes is = rose_later _ _ _ (faults_later i j a b lines) finishes.1
  finish_rose times.Done i j a b old new n lines finishes is = absurd cc
  finish_rose (times.Bad number f) i j a b old new n lines finishes is = absurd cc
  finish_rose times.TooManyLines i j a b old new n lines finishes is = absurd cc
  finish_rose times.ReadFault i j a b old new n lines finishes is = absurd cc
  finish_rose times.NoMemory i j a b old new n lines finishes is = absurd cc

  -- what was handed on at the end

  abbrev HandsOn : K → K → Type 0
  HandsOn old new = IsHandedOn (k.held new) (k.handed new) ⊎ Rose (k.faults old) (k.faults new)

  handed_later : (a b c : K) → k.faults a ≤ k.faults b → HandsOn b c → HandsOn a c
  handed_later a b c later (inl handed) = inl handed
  handed_later a b c later (inr rose) = inr (rose_later _ _ _ later rose)

  pub stopped_handed : (e : LinesEnd LineEnd) (i j : Option (List ℕ)) (a b : State) (out : K) → HandlesLines (Answers k) (Err e) i j a b → HandsOn b.out out → HandsOn a.out out
  stopped_handed e i j a b out lines handed = handed_later a.out b.out out (stopped_later e i j a b lines) handed

  finish_hands : (e : TimesEnd) (b c : K) → Finishes e (output_alone k b) (output_alone k c) (k.faults b) (k.faults c) → HandsOn b c
  finish_hands times.Done b c finishes = inl finishes.1
  finish_hands times.WriteFault b c finishes = inr finishes.1
  finish_hands (times.Bad number f) b c finishes = absurd finishes
  finish_hands times.TooManyLines b c finishes = absurd finishes
  finish_hands times.ReadFault b c finishes = absurd finishes
  finish_hands times.NoMemory b c finishes = absurd finishes

  pub finish_handed : (e : TimesEnd) (i j : Option (List ℕ)) (a b : State) (out : K) → HandlesLines (Answers k) (Ok tt) i j a b → Finishes e (output_alone k b.out) (output_alone k out) (k.faults b.out) (k.faults out)
      → HandsOn a.out out
  finish_handed e i j a b out lines finishes = handed_later a.out b.out out (faults_later i j a b lines) (finish_hands e b.out out finishes)
