-- Calls one after another on the same two disks.
use Rattle.std.specs.Prelude.{⊤, List, [], ◌∷◌, ℕ, Result}
use Rattle.std.specs.List.{AllByRecursion}
use Rattle.qz_disk.specs.declared.disk.Disk.{Ghosts}
use Rattle.qz_io.specs.Outside.{Outside}
use Rattle.qz_trigger_store.specs.Bytes.{Whole}
use Rattle.qz_checkin.specs.Bytes.{Whole as WholeRows}
use Rattle.qz_words.specs.declared.wishes.WordFault.{WordFault}
use Rattle.qz_words.specs.declared.wishes.Wish.{Wish}
use Rattle.qz_top.specs.HeadlineByWords.{HeadlineOf}
use Rattle.qz_top.specs.Standing.{HoldLonger, HoldLongerRows}
use Rattle.qz_top.specs.declared.ended.Ended.{Ended}

-- A call with these words: its disks, how it ended, and what was outside before and after it.
pub record Call {D : Type 0} (g : Ghosts D) : Type 0 where
  pub words : Result Wish WordFault
  pub triggers : D
  pub states : D
  pub ended : Ended D g
  pub old : Outside
  pub new : Outside

-- it is one that the top call answers for
abbrev pub HasHeadline : {D : Type 0} {g : Ghosts D} → Call g → Type 0
HasHeadline c = HeadlineOf c.words c.triggers c.states c.ended c.old c.new

-- All that a crash leaves of the disks, as the call begins, holds whole lists that begin with these.
pub record BeginsWith {D : Type 0} {g : Ghosts D} (w : Whole) (v : WholeRows) (c : Call g) : Type 0 where
  pub entries : (b : List ℕ) → (g.state c.triggers).IsImage b → ∥ HoldLonger w b ∥₁
  pub rows : (b : List ℕ) → (g.state c.states).IsImage b → ∥ HoldLongerRows v b ∥₁

-- So does all that a crash leaves at any moment of the call.
pub record Keeps {D : Type 0} {g : Ghosts D} (w : Whole) (v : WholeRows) (c : Call g) : Type 0 where
  pub entries : (b : List ℕ) → (g.state c.ended.triggers).Since (g.state c.triggers).clock b → ∥ HoldLonger w b ∥₁
  pub rows : (b : List ℕ) → (g.state c.ended.states).Since (g.state c.states).clock b → ∥ HoldLongerRows v b ∥₁

-- The next call is handed what this one left of its disks: at its end, or at whatever moment it was cut off.
pub record Follows {D : Type 0} {g : Ghosts D} (c next : Call g) : Type 0 where
  pub entries : (b : List ℕ) → (g.state next.triggers).IsImage b → (g.state c.ended.triggers).Since (g.state c.triggers).clock b
  pub rows : (b : List ℕ) → (g.state next.states).IsImage b → (g.state c.ended.states).Since (g.state c.states).clock b

abbrev pub InTurn : {D : Type 0} {g : Ghosts D} → Call g → List (Call g) → Type 0
InTurn c [] = ⊤
InTurn c (next ∷ calls) = Follows c next × InTurn next calls
