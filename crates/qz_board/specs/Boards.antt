-- What contracts read of a board's writer, of its readers and of its notes.
use Rattle.std.specs.Prelude.{List, Option}
use Rattle.logbook.specs.Pages.{Book}
use Rattle.left_right.specs.declared.Absorb.{Ghosts as Absorbs}
use Rattle.qz_board.specs.Posts.{entries_of, basis_of}
use Rattle.qz_board.specs.declared.shown.Subject.{Ghosts}
use Rattle.qz_board.specs.declared.page.Sheet.{Sheet}
use Rattle.qz_board.specs.declared.board.BoardWriter.{BoardWriter}
use Rattle.qz_board.specs.declared.board.BoardReader.{BoardReader}
use Rattle.qz_board.specs.declared.board.Posted.{Posted}

module _ {K E G T : Type 0} {g : Ghosts K E G} {a : Absorbs (Sheet E G) (Sheet E G) T} where
  -- The history that readers are shown.
  abbrev pub posted : BoardWriter K E G T g a → List E
  posted w = entries_of w.writer.desk.shown.value.front.log

  -- The history that was offered for posting last, whether or not there was memory to post it.
  abbrev pub offered : BoardWriter K E G T g a → List E
  offered w = entries_of w.last.sheet.front.log

  -- What all histories that were offered begin with.
  abbrev pub writer_basis : BoardWriter K E G T g a → Option G
  writer_basis w = basis_of w.last.sheet.front.log

  -- Which board the writer is of.
  abbrev pub writer_board : BoardWriter K E G T g a → Book
  writer_board w = w.last.sheet.front.book

module _ {K E G : Type 0} {g : Ghosts K E G} where
  -- The history as the reader saw it last, or was told of it.
  abbrev pub seen : BoardReader K E G g → List E
  seen r = entries_of r.last.sheet.front.log

  -- What that history begins with.
  abbrev pub reader_basis : BoardReader K E G g → Option G
  reader_basis r = basis_of r.last.sheet.front.log

  -- Which board the reader is of.
  abbrev pub reader_board : BoardReader K E G g → Book
  reader_board r = r.last.sheet.front.book

  -- The history that a note tells of.
  abbrev pub noted : Posted K E G g → List E
  noted n = entries_of n.page.sheet.front.log

  -- Which board the note is of.
  abbrev pub note_board : Posted K E G g → Book
  note_board n = n.page.sheet.front.book
