-- What was made of an input, by how it ended.
use Rattle.std.specs.Prelude.{◌≡◌, ◌≤◌, ℕ, List, ◌++◌, length, take, Err}
use Rattle.std.specs.Io.KnownBytes.{Consumes, Appends, IsAtEnd}
use Rattle.qz_io.specs.declared.limits.TheConstants.{LINE_COUNT_LIMIT}
use Rattle.qz_io.specs.Ahead.{BeginWith}
use Rattle.qz_io.specs.Handlers.{IfKnown, IsNextLine, HasNextLine, IsNextNumber}
use Rattle.qz_io.specs.Lines.{IsOneLine, lines_of, with_feeds}
use Rattle.qz_io.specs.Outside.{Outside, IsHandedOn}
use Rattle.qz_job_json.specs.declared.faults.LineFault.{LineFault}
use Rattle.qz_times.specs.declared.queries.Query.{Query}
use Rattle.qz_times.specs.declared.ends.TimesEnd.{TimesEnd}
use Rattle.qz_times.specs.declared.ends.TimesEnd.TheVariants as ends
use Rattle.qz_times.specs.Known.{Known, nothing}
use Rattle.qz_times.specs.Said.{line_meaning, AllSaid}

-- all lines of the input were answered, and all that the output holds was handed on
pub record EndsDone (old new : Outside) (lines : List (List ℕ)) (text : List ℕ) : Type 0 where
  pub all : IfKnown old.left (λ bytes. lines_of bytes ≡ lines)
  pub ended : IsAtEnd new.left
  pub within : length lines ≤ LINE_COUNT_LIMIT
  pub written : Appends old.held new.held text
  pub handed_on : IsHandedOn new.held new.handed

-- the line after these lines is bad
pub record HasNextBad (lines : List (List ℕ)) (fault : LineFault) (bytes : List ℕ) : Type 0 where
  pub line : List ℕ
  pub next : IsNextLine lines line bytes
  pub bad : line_meaning line ≡ Err fault

-- these lines were answered, and the next one is bad
pub record EndsBad (old new : Outside) (lines : List (List ℕ)) (text : List ℕ) (number : ℕ) (fault : LineFault) : Type 0 where
  pub number_is : IsNextNumber lines number
  pub bad : IfKnown old.left (HasNextBad lines fault)
  pub written : Appends old.held new.held text

-- as many lines as an input may have were answered, and one more begins
pub record EndsMany (old new : Outside) (lines : List (List ℕ)) (text : List ℕ) : Type 0 where
  pub full : length lines ≡ LINE_COUNT_LIMIT
  pub more : IfKnown old.left (HasNextLine lines)
  pub written : Appends old.held new.held text

-- every line whose line feed was taken from the source was answered
pub record EndsUnread (old new : Outside) (lines : List (List ℕ)) (text : List ℕ) : Type 0 where
  pub part : List ℕ
  pub taken : Consumes old.left new.left (with_feeds lines ++ part)
  pub no_feed : IsOneLine part
  pub written : Appends old.held new.held text

-- after the answers to these lines a part of the answer to the next line was written, if there is a next one
pub record EndsUnwritten (q : Query) (known : Known) (old new : Outside) (lines : List (List ℕ)) (text : List ℕ) : Type 0 where
  pub last : List (List ℕ)
  pub one : length last ≤ 1
  pub its : List ℕ
  pub after : Known
  pub said : AllSaid q known last its after
  pub begins : IfKnown old.left (λ bytes. BeginWith (lines ++ last) (lines_of bytes))
  pub count : ℕ
  pub written : Appends old.held new.held (text ++ take count its)

-- there was no memory for a further line
pub record EndsStarved (old new : Outside) (lines : List (List ℕ)) (text : List ℕ) : Type 0 where
  pub begins : IfKnown old.left (λ bytes. BeginWith lines (lines_of bytes))
  pub written : Appends old.held new.held text

-- what was made of an input that ended so
abbrev pub Ends : TimesEnd → Query → Known → Outside → Outside → List (List ℕ) → List ℕ → Type 0
Ends ends.Done q known old new lines text = EndsDone old new lines text
Ends (ends.Bad number fault) q known old new lines text = EndsBad old new lines text number fault
Ends ends.TooManyLines q known old new lines text = EndsMany old new lines text
Ends ends.ReadFault q known old new lines text = EndsUnread old new lines text
Ends ends.WriteFault q known old new lines text = EndsUnwritten q known old new lines text
Ends ends.NoMemory q known old new lines text = EndsStarved old new lines text

-- These lines of the input, from the first one on, are right and were answered, and then it ended so.
pub record IsRun (e : TimesEnd) (q : Query) (old new : Outside) : Type 0 where
  pub lines : List (List ℕ)
  pub text : List ℕ
  pub known : Known
  pub said : AllSaid q nothing lines text known
  pub ends : Ends e q known old new lines text
