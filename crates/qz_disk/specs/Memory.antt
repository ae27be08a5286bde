-- Where the calls of a disk in memory lead: its content and its images, by its record of calls.
use Rattle.std.specs.Prelude.{◌≡◌, ◌⊎◌, ℕ, ◌+◌, ◌≤◌, ◌<◌, max, Bool, false, ◌&&◌, ◌-◌, ◌||◌, nat_le, nat_lt, List, [], ◌∷◌, length, take, slice_index, sum_by}
use Rattle.std.specs.List.{list_any}
use Rattle.qz_disk.specs.declared.calls.Call.{Call}
use Rattle.qz_disk.specs.declared.calls.Call.TheVariants.{Len, Read, Write, Sync, Restart}
use Rattle.qz_disk.specs.Disk.{DiskState, written}

-- the content, what it was at the last sync, and the ranges (an offset and a length) that were written since
pub record Standing : Type 0 where
  pub content : List ℕ
  pub synced : List ℕ
  pub ranges : List (ℕ × ℕ)

-- all of it on the disk
abbrev pub at_rest : List ℕ → Standing
at_rest bytes = record { content = bytes; synced = bytes; ranges = [] }

abbrev pub after_call : Standing → Call → Standing
after_call s Len = s
after_call s (Read at count) = s
after_call s (Write at bytes) = record {
  content = written at bytes s.content;
  synced = s.synced;
  ranges = (at, length bytes) ∷ s.ranges;
}
after_call s Sync = at_rest s.content
after_call s (Restart image) = at_rest image

abbrev pub after_calls : Standing → List Call → Standing
after_calls s [] = s
after_calls s (call ∷ calls) = after_calls (after_call s call) calls

abbrev pub is_within : ℕ × ℕ → ℕ → Bool
is_within range k = nat_le range.0 k && nat_lt (k - range.0) range.1

-- a byte was written since the sync
abbrev pub is_touched : List (ℕ × ℕ) → ℕ → Bool
is_touched ranges k = list_any (λ range. is_within range k) ranges

-- one of the ranges ends at this length or after it
abbrev pub is_reached : List (ℕ × ℕ) → ℕ → Bool
is_reached ranges len = list_any (λ range. nat_le len range.1 || nat_le (len - range.1) range.0) ranges

-- the longest that the content can have become
abbrev pub reach : ℕ → List (ℕ × ℕ) → ℕ
reach n [] = n
reach n (range ∷ ranges) = max (reach n ranges) (range.0 + range.1)

-- Each written range, and what is past the end at the sync, may hold any bytes; all other bytes stay.
pub record IsImageOf (s : Standing) (bytes : List ℕ) : Type 0 where
  pub no_shorter : length s.synced ≤ length bytes
  pub no_longer : length bytes ≤ reach (length s.synced) s.ranges
  pub same : (k : ℕ) → k < length s.synced → is_touched s.ranges k ≡ false
      → slice_index bytes k ≡ slice_index s.synced k

-- an image at one of the moments from t on
pub record WasImage (first : List ℕ) (calls : List Call) (t : ℕ) (bytes : List ℕ) : Type 0 where
  pub moment : ℕ
  pub no_earlier : t ≤ moment
  pub no_later : moment ≤ length calls
  pub image : IsImageOf (after_calls (at_rest first) (take moment calls)) bytes

abbrev pub read_count : Call → ℕ
read_count Len = 0
read_count (Read at count) = count
read_count (Write at bytes) = 0
read_count Sync = 0
read_count (Restart image) = 0

abbrev pub standing_of : List ℕ → List Call → Standing
standing_of first calls = after_calls (at_rest first) calls

-- the state of a disk that began with these bytes and answered these calls
abbrev pub memory_state : List ℕ → List Call → DiskState
memory_state first calls = record {
  content = (standing_of first calls).content;
  IsImage = IsImageOf (standing_of first calls);
  clock = length calls;
  Since = WasImage first calls;
  bytes_read = sum_by read_count calls;
}

-- What a restart brings up, and which of the listed images it leaves for the next: the first that is an image, with
-- those after it left; or the content as it was written, where none of them is one.
abbrev pub BringsUp : Standing → List (List ℕ) → List ℕ → List (List ℕ) → Type 0
BringsUp s [] up left = ((up ≡ s.content) × (left ≡ []))
BringsUp s (image ∷ images) up left = (IsImageOf s image × (up ≡ image) × (left ≡ images))
    ⊎ ((IsImageOf s image → ⊥) × BringsUp s images up left)
