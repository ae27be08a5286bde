-- What was read of a stream.
use Rattle.std.specs.Prelude.{◌≡◌, ◌⊎◌, ℕ, ◌^◌, ◌≤◌, List, ◌++◌, length, Option, None, Some}
use Rattle.std.specs.Io.KnownBytes.{Consumes, IsAtEnd}
use Rattle.qz_follow.specs.Following.{Following, IsFollowed, IsEnded}
use Rattle.qz_follow.specs.declared.faults.FollowFault.{FollowFault}
use Rattle.qz_follow.specs.declared.faults.FollowFault.TheVariants as fault
use Rattle.qz_standby.specs.declared.errors.Unread.{Unread}
use Rattle.qz_standby.specs.declared.errors.Unread.TheVariants as unread
use Rattle.qz_standby.specs.declared.reading.TheConstants.{PIECE}

-- A stream that began with these bytes goes on: a follower met no fault in them, and no gate ends them.
pub record GoesOn (fed : List ℕ) : Type 0 where
  pub follower : Following
  pub followed : IsFollowed fed follower
  pub fine : follower.fault ≡ None
  pub not_ended : IsEnded follower → ⊥

-- These bytes were read of an input, and fed to a follower, which stands so. The stream went on before the last piece of them.
pub record WasFed (left left_now : Option (List ℕ)) (f : Following) : Type 0 where
  pub before : List ℕ
  pub piece : List ℕ
  pub taken : Consumes left left_now (before ++ piece)
  pub followed : IsFollowed (before ++ piece) f
  pub goes_on : GoesOn before
  pub one_piece : length piece ≤ PIECE
  pub few : length (before ++ piece) ≤ 2 ^ 30

-- No fault was met, and the input ended, or a gate ended the stream.
pub record HasRead (left left_now : Option (List ℕ)) (f : Following) : Type 0 where
  pub fed : WasFed left left_now f
  pub fine : f.fault ≡ None
  pub end : IsEnded f ⊎ IsAtEnd left_now

-- a follower met this fault in what was read
abbrev pub HasMet : FollowFault → Option (List ℕ) → Option (List ℕ) → Type 0
HasMet x left left_now = (f : Following) × WasFed left left_now f × (f.fault ≡ Some x)

-- Why a stream wasn't read to its end. Of want of memory nothing more is said; and where a read failed, the stream went on.
abbrev pub IsUnread : Unread → Option (List ℕ) → Option (List ℕ) → Type 0
IsUnread unread.Failed left left_now = (f : Following) × WasFed left left_now f × (f.fault ≡ None) × (IsEnded f → ⊥)
IsUnread (unread.Stream (fault.BadStream at)) left left_now = HasMet (fault.BadStream at) left left_now
IsUnread (unread.Stream (fault.JournalFull need room)) left left_now = HasMet (fault.JournalFull need room) left left_now
IsUnread (unread.Stream fault.NoMemory) left left_now = (left_now ≡ left) ⊎ HasMet fault.NoMemory left left_now
