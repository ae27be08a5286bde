-- What contracts see of sinks in memory, and of sources and sinks with planned failures.
use Rattle.std.specs.Prelude.{◌≡◌, ℕ, ◌+◌, ◌-◌, ◌^◌, min, nat_eq, List, Bool, true, false, if◌then◌else◌}
use Rattle.std.specs.List.{list_any}

-- a counter that stops at the end of its type
abbrev pub counted : ℕ → ℕ
counted n = min (n + 1) (2 ^ 64 - 1)

-- a sink in memory: the bytes that it holds, those that it handed on, and how often it found no memory
pub record MemSinkData : Type 0 where
  pub bytes : List ℕ
  pub handed : List ℕ
  pub starved : ℕ

-- whether the call that follows these many calls is planned to fail: calls are numbered from 1
abbrev pub fails_next : List ℕ → ℕ → Bool
fails_next failing calls = list_any (λ n. nat_eq n (counted calls)) failing

-- a source with planned failures: the bytes that are left, the numbers of the calls that fail, how many calls there
-- were and how many of them failed
pub record FaultSourceData : Type 0 where
  pub left : List ℕ
  pub failing : List ℕ
  pub calls : ℕ
  pub faults : ℕ

-- a call of such a source: it fails exactly where that was planned
pub record SourceFollowsPlan (old new : FaultSourceData) (failed : Bool) : Type 0 where
  pub planned : failed ≡ fails_next old.failing old.calls
  pub calls : new.calls ≡ counted old.calls
  pub failing : new.failing ≡ old.failing
  pub faults : new.faults ≡ (if failed then counted old.faults else old.faults)

-- a sink with planned failures: the bytes that it holds, those that it handed on, the numbers of the calls that fail,
-- how many calls there were, how many of them failed, and how often it found no memory
pub record FaultSinkData : Type 0 where
  pub bytes : List ℕ
  pub handed : List ℕ
  pub failing : List ℕ
  pub calls : ℕ
  pub faults : ℕ
  pub starved : ℕ

-- a call of such a sink: it fails where that was planned, and else only where it found no memory
pub record SinkFollowsPlan (old new : FaultSinkData) (failed : Bool) : Type 0 where
  pub planned : fails_next old.failing old.calls ≡ true → (failed ≡ true) × (new.starved ≡ old.starved)
  pub starved : fails_next old.failing old.calls ≡ false → new.starved ≡ (if failed then counted old.starved else old.starved)
  pub calls : new.calls ≡ counted old.calls
  pub failing : new.failing ≡ old.failing
  pub faults : new.faults ≡ (if failed then counted old.faults else old.faults)
