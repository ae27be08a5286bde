-- The causes of the statuses that blame the words or an object outside.
use Rattle.std.specs.Prelude.{⊤, ◌≡◌, ◌⊎◌, ℕ, Result, Ok, Err}
use Rattle.qz_civil.specs.Causes.{Rose}
use Rattle.qz_disk.specs.declared.disk.Disk.{Ghosts}
use Rattle.qz_io.specs.declared.traits.Sink as sink
use Rattle.qz_io.specs.declared.traits.Source as source
use Rattle.qz_words.specs.declared.wishes.WordFault.{WordFault}
use Rattle.qz_words.specs.declared.wishes.Wish.{Wish}
use Rattle.qz_words.specs.declared.wishes.Wish.TheVariants as wish
use Rattle.qz_top.specs.declared.statuses.Status.{Status}
use Rattle.qz_top.specs.declared.statuses.Status.TheVariants as status

-- how often each object has failed so far
pub record FaultCounts : Type 0 where
  pub input : ℕ
  pub output : ℕ
  pub triggers : ℕ
  pub states : ℕ

abbrev pub counts : {S K D : Type 0} → source.Ghosts S → sink.Ghosts K → Ghosts D → S → K → D → D → FaultCounts
counts s k d input out triggers states = record {
  input = s.faults input;
  output = k.faults out;
  triggers = d.faults triggers;
  states = d.faults states;
}

-- a disk failed that the call works on: `script`, `load`, `list`, `init`, `follow`, `compact`, `run` and `gen` work on both, `migrate`
-- on that of triggers, other calls on none
abbrev pub DiskFailed : Result Wish WordFault → FaultCounts → FaultCounts → Type 0
DiskFailed (Ok wish.Script) old new = Rose old.triggers new.triggers ⊎ Rose old.states new.states
DiskFailed (Ok wish.Load) old new = Rose old.triggers new.triggers ⊎ Rose old.states new.states
DiskFailed (Ok wish.List) old new = Rose old.triggers new.triggers ⊎ Rose old.states new.states
DiskFailed (Ok (wish.Run nodes from until budget)) old new = Rose old.triggers new.triggers ⊎ Rose old.states new.states
DiskFailed (Ok (wish.Gen seed jobs days)) old new = Rose old.triggers new.triggers ⊎ Rose old.states new.states
DiskFailed (Ok wish.Init) old new = Rose old.triggers new.triggers ⊎ Rose old.states new.states
DiskFailed (Ok wish.Follow) old new = Rose old.triggers new.triggers ⊎ Rose old.states new.states
DiskFailed (Ok wish.Compact) old new = Rose old.triggers new.triggers ⊎ Rose old.states new.states
DiskFailed (Ok wish.Migrate) old new = Rose old.triggers new.triggers
DiskFailed w old new = ⊥

-- Bad words are answered only where the words are refused so, and a fault only where the object's count of faults rose
-- in the call.
abbrev pub HasCause : Status → Result Wish WordFault → FaultCounts → FaultCounts → Type 0
HasCause (status.BadWords fault) w old new = w ≡ Err fault
HasCause status.ReadFault w old new = Rose old.input new.input
HasCause status.WriteFault w old new = Rose old.output new.output
HasCause status.DiskFault w old new = DiskFailed w old new
HasCause s w old new = ⊤
