-- What an honest disk is at one moment, and what each call does to it. Bytes are numbers below 256, offsets count from 0.
--
-- A crash may tear each write since the last sync: its range, and a gap between the old end and that range, may then
-- hold any bytes, and the file may have grown by part of it only. What a crash may leave is called an image.
use Rattle.std.specs.Prelude.{◌≡◌, ◌⊎◌, ◌↔◌, ℕ, ◌+◌, ◌≤◌, min, max, List, [], ◌++◌, length, take, drop, OnOk, OnErr}
use Rattle.std.specs.declared.result.Result.{Result}

pub record DiskState : Type 1 where
  -- what a read gives
  pub content : List ℕ
  -- what a crash at this moment may leave
  pub IsImage : List ℕ → Type 0
  -- the moment, as a number that never falls
  pub clock : ℕ
  -- the images of all moments from that one to now
  pub Since : ℕ → List ℕ → Type 0
  -- how many bytes all reads gave
  pub bytes_read : ℕ

-- these bytes at this offset, over what is there and past the end
abbrev pub written : ℕ → List ℕ → List ℕ → List ℕ
written at bytes old = take at old ++ bytes ++ drop (at + length bytes) old

-- A write of so many bytes, torn: any bytes in its range and in a gap before it, grown by some of it or by none; all
-- other bytes stay.
pub record Torn (at count : ℕ) (old new : List ℕ) : Type 0 where
  pub before : take (min at (length old)) new ≡ take (min at (length old)) old
  pub behind : drop (at + count) new ≡ drop (at + count) old
  pub no_shorter : length old ≤ length new
  pub no_longer : length new ≤ max (length old) (at + count)

-- a crash leaves these bytes and no others
abbrev pub Only : List ℕ → DiskState → Type 0
Only bytes s = (b : List ℕ) → s.IsImage b → b ≡ bytes

-- content and images are as they were
pub record Stays (old new : DiskState) : Type 0 where
  pub content : new.content ≡ old.content
  pub images : (b : List ℕ) → new.IsImage b ↔ old.IsImage b

-- Time goes on: what was an image at some moment since t was one before, or is one now.
pub record Elapses (old new : DiskState) : Type 0 where
  pub later : old.clock ≤ new.clock
  pub nothing_else : (t : ℕ) (b : List ℕ) → t ≤ old.clock → new.Since t b → old.Since t b ⊎ new.IsImage b
  pub keeps : (t : ℕ) (b : List ℕ) → t ≤ old.clock → old.Since t b → new.Since t b

-- what holds of an honest disk at every moment
pub record IsLawful (s : DiskState) : Type 0 where
  -- the content is one of the images
  pub content : s.IsImage s.content
  -- this moment is one of those since an earlier one
  pub counts_now : (t : ℕ) (b : List ℕ) → t ≤ s.clock → s.IsImage b → s.Since t b
  -- since this moment there is no other
  pub only_now : (b : List ℕ) → s.Since s.clock b → s.IsImage b

-- a call of `len`
pub record Measured (old new : DiskState) : Type 0 where
  pub time : Elapses old new
  pub same : Stays old new
  pub bytes_read : new.bytes_read ≡ old.bytes_read

-- A read at this offset, into a buffer that then holds these bytes. One that failed may have read a part.
pub record Reads {T E : Type 0} (at : ℕ) (result : Result T E) (into : List ℕ) (old new : DiskState) : Type 0 where
  pub time : Elapses old new
  pub same : Stays old new
  pub bytes : OnOk result (into ≡ take (length into) (drop at old.content))
  pub bytes_read : OnOk result (new.bytes_read ≡ old.bytes_read + length into)
  pub failed : OnErr result ((old.bytes_read ≤ new.bytes_read) × (new.bytes_read ≤ old.bytes_read + length into))

-- A write of these bytes at this offset. One that failed may have left any bytes in its range.
pub record Writes {T E : Type 0} (at : ℕ) (bytes : List ℕ) (result : Result T E) (old new : DiskState) : Type 0 where
  pub time : Elapses old new
  pub content : OnOk result (new.content ≡ written at bytes old.content)
  pub failed : OnErr result (Torn at (length bytes) old.content new.content)
  -- an image after it is one before it, torn
  pub images : (b : List ℕ) → new.IsImage b → (a : List ℕ) × old.IsImage a × Torn at (length bytes) a b
  -- and each of those is one
  pub any_bytes : OnOk result ((a b : List ℕ) → old.IsImage a → Torn at (length bytes) a b → new.IsImage b)
  -- a write makes nothing durable
  pub keeps : (b : List ℕ) → old.IsImage b → new.IsImage b
  pub bytes_read : new.bytes_read ≡ old.bytes_read

-- After a sync that answers Ok, a crash leaves what a read gives. One that fails may have lost writes since the last
-- sync: from then on a read gives one of the images, and which isn't known. So a further sync that answers Ok makes
-- that image durable, and not what was written.
pub record Syncs {T E : Type 0} (result : Result T E) (old new : DiskState) : Type 0 where
  pub time : Elapses old new
  pub content : OnOk result (new.content ≡ old.content)
  pub durable : OnOk result (Only old.content new)
  -- an image after it was one before it
  pub images : (b : List ℕ) → new.IsImage b → old.IsImage b
  pub bytes_read : new.bytes_read ≡ old.bytes_read

-- a restart that answers Ok makes one of the images the content and the only image
pub record Restarts {T E : Type 0} (result : Result T E) (old new : DiskState) : Type 0 where
  pub time : Elapses old new
  pub image : OnOk result (old.IsImage new.content)
  pub durable : OnOk result (Only new.content new)
  pub failed : OnErr result (Stays old new)
  pub bytes_read : new.bytes_read ≡ old.bytes_read

-- A crash at any moment from old to new leaves bytes that have P.
pub record LeavesOnly (old new : DiskState) (P : List ℕ → Type 0) : Type 0 where
  pub later : old.clock ≤ new.clock
  pub each : (b : List ℕ) → new.Since old.clock b → P b
  -- the same for a run of calls that began earlier
  pub before : (t : ℕ) (b : List ℕ) → t ≤ old.clock → new.Since t b → old.Since t b ⊎ P b

-- the state of a disk that tells nothing
abbrev pub untold : DiskState
untold = record { content = []; IsImage = λ _. ⊥; clock = 0; Since = λ _ _. ⊥; bytes_read = 0 }
