-- The answer to a line, and how the lines end.
use Rattle.std.specs.Prelude.{⊤, ◌≡◌, ◌≤◌, ℕ, List, [], take, Result, Ok, Err}
use Rattle.std.specs.Io.KnownBytes.{Appends}
use Rattle.qz_civil.specs.Causes.{Rose}
use Rattle.qz_io.specs.Around.{output_alone}
use Rattle.qz_io.specs.LineStates.{LineState}
use Rattle.qz_io.specs.Outside.{Outside, IsHandedOn}
use Rattle.qz_io.specs.declared.handlers.LinesEnd.{LinesEnd}
use Rattle.qz_io.specs.declared.handlers.LinesEnd.TheVariants as lines
use Rattle.qz_io.specs.declared.traits.Sink as sink
use Rattle.qz_job_json.specs.declared.faults.LineFault.TheVariants as fault
use Rattle.qz_times.specs.declared.answers.Answering.{Answering}
use Rattle.qz_times.specs.declared.ends.LineEnd.{LineEnd}
use Rattle.qz_times.specs.declared.ends.LineEnd.TheVariants as ends
use Rattle.qz_times.specs.declared.ends.TimesEnd.{TimesEnd}
use Rattle.qz_times.specs.declared.ends.TimesEnd.TheVariants as times
use Rattle.qz_times.specs.declared.queries.Query.{Query}
use Rattle.qz_times.specs.Known.{Known, kept}
use Rattle.qz_times.specs.Said.{line_meaning, LineSaid}

-- why nothing is said to a line
abbrev pub NotSaid : LineEnd → List ℕ → Type 0
NotSaid (ends.Bad fault) line = line_meaning line ≡ Err fault
NotSaid ends.NoMemory line = ⊤
NotSaid ends.WriteFault line = ⊥

-- a part of what is said to a line was written
pub record PartSaid (q : Query) (known : Known) (line : List ℕ) (old new : Outside) : Type 0 where
  pub text : List ℕ
  pub after : Known
  pub said : LineSaid q known line text after
  pub count : ℕ
  pub written : Appends old.held new.held (take count text)

-- what was made of a line
abbrev pub LineDone : Result (Unit {0}) LineEnd → Query → Known → Known → List ℕ → Outside → Outside → Type 0
LineDone (Ok x) q before after line old new = (text : List ℕ) × LineSaid q before line text after × Appends old.held new.held text
LineDone (Err (ends.Bad fault)) q before after line old new = (line_meaning line ≡ Err fault) × Appends old.held new.held []
LineDone (Err ends.WriteFault) q before after line old new = PartSaid q before line old new
LineDone (Err ends.NoMemory) q before after line old new = Appends old.held new.held []

-- what the handler of lines makes of a line, over this kind of output
pub record Answers {K : Type 0} (k : sink.Ghosts K) (line : List ℕ) (result : Result (Unit {0}) LineEnd)
    (old new : LineState Answering K (Unit {0})) : Type 0 where
  pub query : new.handler.query ≡ old.handler.query
  pub done : LineDone result old.handler.query (kept old.handler.known) (kept new.handler.known) line (output_alone k old.out) (output_alone k new.out)
  pub later : k.faults old.out ≤ k.faults new.out
  pub rose : result ≡ Err ends.WriteFault → Rose (k.faults old.out) (k.faults new.out)

-- how a line of this number ends the lines
abbrev pub end_at : ℕ → LineEnd → TimesEnd
end_at number (ends.Bad fault) = times.Bad number fault
end_at number ends.WriteFault = times.WriteFault
end_at number ends.NoMemory = times.NoMemory

-- how lines end that weren't handled to the end of the input
abbrev pub end_of : LinesEnd LineEnd → TimesEnd
end_of (lines.Refused number end) = end_at number end
end_of (lines.TooLong number) = times.Bad number fault.TooLong
end_of lines.TooMany = times.TooManyLines
end_of lines.ReadFault = times.ReadFault
end_of lines.NoMemory = times.NoMemory

-- after the last line all that the output holds was handed on, or that failed
abbrev pub Finishes : TimesEnd → Outside → Outside → ℕ → ℕ → Type 0
Finishes times.Done old new faults faults_now = Appends old.held new.held [] × IsHandedOn new.held new.handed
Finishes times.WriteFault old new faults faults_now = Appends old.held new.held [] × Rose faults faults_now
Finishes (times.Bad number fault) old new faults faults_now = ⊥
Finishes times.TooManyLines old new faults faults_now = ⊥
Finishes times.ReadFault old new faults faults_now = ⊥
Finishes times.NoMemory old new faults faults_now = ⊥
