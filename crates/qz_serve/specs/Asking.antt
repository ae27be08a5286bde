-- What a call of a scheduler thread comes to.
use Rattle.std.specs.Prelude.{⊤, ◌≡◌, ◌++◌, ℕ, ℤ, false, List, [], ◌∷◌, Option, None, MatchOption, MatchResult}
use Rattle.std.specs.List.{AllByRecursion}
use Rattle.std.specs.declared.result.Result.{Result}
use Rattle.qz_types.specs.Entries.{EntryData}
use Rattle.qz_types.specs.Rows.{MemberData}
use Rattle.qz_types.specs.declared.errors.SubmitError.{SubmitError}
use Rattle.qz_types.specs.declared.replies.Reply.{Reply}
use Rattle.qz_node.specs.declared.contexts.JobContext.{JobContext}
use Rattle.qz_node.specs.Turns.{TurnData, wanted_held}
use Rattle.qz_node.specs.declared.turns.Want.{Want}
use Rattle.qz_node.specs.declared.turns.Want.TheVariants as want
use Rattle.qz_row_lock.specs.declared.logged.Logged.{Ghosts}
use Rattle.qz_row_lock.specs.declared.row.RowLock.{RowLock}
use Rattle.qz_row_lock.specs.declared.row.Seat.{Seat}
use Rattle.qz_row_lock.specs.Seats.{IsOf, ids, seen, mine, is_out, first_value}
use Rattle.qz_shared.specs.declared.held.Held.{Held}
use Rattle.qz_shared.specs.declared.stores.RowStore.{Ghosts as StoreGhosts}
use Rattle.qz_serve.specs.Heard.{Deed, heard}
use Rattle.qz_serve.specs.Ran.{context_in}
use Rattle.qz_serve.specs.Entries.{IsScheduled}

module _ {S G : Type 0} {h : StoreGhosts S EntryData Reply} where
  -- the entries of the store when it was put under its row
  abbrev pub first_entries : RowLock (Held S EntryData Reply h) EntryData G → List EntryData
  first_entries row = h.listed (h.state (first_value row).store).history

  -- what was done since then under these numbers, where the store's entries are these
  abbrev pub heard_in : RowLock (Held S EntryData Reply h) EntryData G → List ℕ → List EntryData → List Deed
  heard_in row numbers entries = heard h.kind h.listed h.seat_of (h.state (first_value row).opened.value) numbers (first_entries row) entries

module _ {V E G : Type 0} {g : Ghosts V E G} where
  -- The seat keeps its number, those that it can hand on, its share and its ids.
  pub record KeepsSeat (s t : Seat V E G g) : Type 0 where
    pub number : t.number ≡ s.number
    pub more : t.more ≡ s.more
    pub parts : t.parts ≡ s.parts
    pub ids : ids t ≡ ids s

module _ {S G : Type 0} {h : StoreGhosts S EntryData Reply} {g : Ghosts (Held S EntryData Reply h) EntryData G} where
  -- what a seat has done, as far as it has seen the history
  abbrev pub deeds : RowLock (Held S EntryData Reply h) EntryData G → Seat (Held S EntryData Reply h) EntryData G g → List Deed
  deeds row s = heard_in row (ids s) (seen s)

  -- A scheduler thread between two steps: its seat is at hand, its turn works up to this moment, what its job is told next comes
  -- of what it has done, and all its entries are its work.
  pub record IsAtWork (shows : ℤ → Type 0) (until : ℤ) (me : MemberData) (row : RowLock (Held S EntryData Reply h) EntryData G) (s : Seat (Held S EntryData Reply h) EntryData G g) (turn : TurnData) (context : Option JobContext) : Type 0 where
    pub of : IsOf row s
    pub home : is_out s ≡ false
    pub up_to : turn.until ≡ until
    pub told : context ≡ context_in (deeds row s)
    pub entries : AllByRecursion (IsScheduled shows until me s.number) (mine s)

-- An execution is wanted only where the context of its job is at hand, and no Complete is wanted.
abbrev pub CanStepAt : Want → Option JobContext → Type 0
CanStepAt (want.Execute entry) None = ⊥
CanStepAt (want.Complete entry code) context = ⊥
CanStepAt other context = ⊤

-- A thread can step on with what it holds, if it holds anything.
abbrev pub IsReady : TurnData → Option JobContext → Type 0
IsReady turn context = MatchOption turn.held ⊤ (λ held. CanStepAt (wanted_held held) context)

-- One deed more where the entry was accepted, and else none.
abbrev pub DeedsAfter : Result Reply SubmitError → EntryData → List Deed → List Deed → Type 0
DeedsAfter result e before after = MatchResult result (λ reply. after ≡ record { entry = e; reply = reply } ∷ before) (λ _. after ≡ before)

-- The entry is among the seat's own just where it was accepted.
abbrev pub AddsOwn : Result Reply SubmitError → EntryData → List EntryData → List EntryData → Type 0
AddsOwn result e before after = MatchResult result (λ _. after ≡ before ++ e ∷ []) (λ _. after ≡ before)
