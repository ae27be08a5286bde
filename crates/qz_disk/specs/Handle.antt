-- What a read and a write of an open file do, each of which may do a part of what it is asked.
use Rattle.std.specs.Prelude.{◌≡◌, ℕ, ◌+◌, ◌≤◌, List, length, take, drop, Ok, Err, OnOk, OnErr}
use Rattle.std.specs.declared.result.Result.{Result}
use Rattle.qz_disk.specs.Disk.{DiskState, written, Torn, Stays, Elapses}

-- how many bytes were read or written
abbrev pub count_of : {E : Type 0} → Result ℕ E → ℕ
count_of (Ok n) = n
count_of (Err e) = 0

-- how many bytes from the offset on a write may have changed: those written, or any that it was to write if it failed
abbrev pub reach_of : {E : Type 0} → Result ℕ E → ℕ → ℕ
reach_of (Ok n) asked = n
reach_of (Err e) asked = asked

-- A read at this offset, into a buffer that then holds these bytes: its front holds the bytes that were read. One that
-- failed may have read any part.
pub record ReadsPart {E : Type 0} (at : ℕ) (result : Result ℕ E) (into : List ℕ) (old new : DiskState) : Type 0 where
  pub time : Elapses old new
  pub same : Stays old new
  pub bytes : take (count_of result) into ≡ take (count_of result) (drop at old.content)
  pub bytes_read : OnOk result (new.bytes_read ≡ old.bytes_read + count_of result)
  pub failed : OnErr result ((old.bytes_read ≤ new.bytes_read) × (new.bytes_read ≤ old.bytes_read + length into))

-- A write of the front of these bytes at this offset. One that failed may have left any bytes in the whole range.
pub record WritesPart {E : Type 0} (at : ℕ) (bytes : List ℕ) (result : Result ℕ E) (old new : DiskState) : Type 0 where
  pub time : Elapses old new
  pub content : OnOk result (new.content ≡ written at (take (count_of result) bytes) old.content)
  pub failed : OnErr result (Torn at (length bytes) old.content new.content)
  -- an image after it is one before it, torn
  pub images : (b : List ℕ) → new.IsImage b
      → (a : List ℕ) × old.IsImage a × Torn at (reach_of result (length bytes)) a b
  -- and each of those is one
  pub any_bytes : OnOk result ((a b : List ℕ) → old.IsImage a → Torn at (count_of result) a b → new.IsImage b)
  pub keeps : (b : List ℕ) → old.IsImage b → new.IsImage b
  pub bytes_read : new.bytes_read ≡ old.bytes_read
