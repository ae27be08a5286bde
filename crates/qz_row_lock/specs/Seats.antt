-- What contracts read of a lock, of its seats and of its notes.
use Rattle.std.specs.Prelude.{◌≡◌, ℕ, List, Some, ◌++◌, Bool}
use Rattle.qz_row_lock.specs.Views.{entries_of}
use Rattle.qz_row_lock.specs.declared.logged.Logged.{Ghosts}
use Rattle.qz_row_lock.specs.declared.row.Seat.{Seat}
use Rattle.qz_row_lock.specs.declared.row.Note.{Note}
use Rattle.qz_row_lock.specs.declared.row.RowLock.{RowLock}

module _ {V E G : Type 0} where
  -- The value with which the lock was made.
  abbrev pub first_value : RowLock V E G → V
  first_value l = l.rows.shared.key.value

module _ {V E G : Type 0} {g : Ghosts V E G} where
  -- The history as the seat saw it last.
  abbrev pub seen : Seat V E G g → List E
  seen s = s.token.me.0.seen

  -- The entries of `seen`, after those of the first value, that bear one of the seat's numbers.
  abbrev pub mine : Seat V E G g → List E
  mine s = s.token.me.0.mine

  -- The seat's number, and the numbers of the seats that were joined into it.
  abbrev pub ids : Seat V E G g → List ℕ
  ids s = s.token.me.0.ids

  -- Whether the value was shut when the seat saw it last.
  abbrev pub shut : Seat V E G g → Bool
  shut s = s.token.me.0.shut

  -- Whether the seat has the value: from its `take` to its `give`.
  abbrev pub is_out : Seat V E G g → Bool
  is_out s = s.token.me.0.turn

  -- The seat is one of this lock. What it has seen begins with the history of the first value, and `mine` is what it
  -- has after that of the seat's numbers.
  pub record IsOf (lock : RowLock V E G) (s : Seat V E G g) : Type 0 where
    pub table : s.token.table_id ≡ lock.rows.shared.table_id
    pub basis_is : s.token.me.0.basis ≡ Some (g.basis (first_value lock))
    pub base_is : s.token.me.0.base ≡ g.history (first_value lock)
    pub past : List E
    pub seen_is : seen s ≡ g.history (first_value lock) ++ past
    pub mine_is : mine s ≡ entries_of g.number (ids s) past

  -- The seat keeps its numbers and its entries.
  pub record Keeps (s t : Seat V E G g) : Type 0 where
    pub number : t.number ≡ s.number
    pub more : t.more ≡ s.more
    pub parts : t.parts ≡ s.parts
    pub ids : t.token.me.0.ids ≡ s.token.me.0.ids
    pub mine : t.token.me.0.mine ≡ s.token.me.0.mine

  -- What a note has seen.
  abbrev pub noted : Note V E G g → List E
  noted n = n.token.me.0.seen

  -- The note is one of this lock.
  pub record IsNoteOf (lock : RowLock V E G) (n : Note V E G g) : Type 0 where
    pub table : n.token.table_id ≡ lock.rows.shared.table_id
