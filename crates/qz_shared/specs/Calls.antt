-- What a call by a seat comes to.
use Rattle.std.specs.Prelude.{◌≡◌, true, false, Bool, not, List, [], ◌∷◌, ◌++◌, MatchResult}
use Rattle.std.specs.declared.result.Result.{Result}
use mathlib.Core.List.{IsPrefix}
use Rattle.qz_types.specs.declared.errors.SubmitError.{SubmitError}
use Rattle.qz_row_lock.specs.declared.logged.Logged.{Ghosts}
use Rattle.qz_row_lock.specs.declared.row.Seat.{Seat}
use Rattle.qz_row_lock.specs.Seats.{seen, mine, shut}
use Rattle.qz_stores.specs.Stores.{EntryKind, StoreState, Submits}
use Rattle.qz_shared.specs.Since.{IsSince}

-- What a seat knows: the history as it saw it last, its own entries among those that were added, and whether the store
-- was closed.
pub record Known (E : Type 0) : Type 0 where
  pub seen : List E
  pub mine : List E
  pub shut : Bool

abbrev pub known : {V E G : Type 0} {g : Ghosts V E G} → Seat V E G g → Known E
known s = record { seen = seen s; mine = mine s; shut = shut s }

-- A seat that knew s submitted an entry, and knows t. The store made its call once, at a state that came of the opened
-- one and whose history begins with what the seat had seen. The seat has then seen the whole history that the call left,
-- and the entry is among its own just where it was accepted.
pub record Called {H E R : Type 0} (kind : EntryKind H E R) (listed : H → List E) (opened : StoreState H E) (e : E) (result : Result R SubmitError) (s t : Known E) : Type 0 where
  pub before : StoreState H E
  pub after : StoreState H E
  pub since : IsSince kind listed opened before
  pub begins : IsPrefix s.seen (listed before.history)
  pub submits : Submits kind e result before after
  pub seen_is : t.seen ≡ listed after.history
  pub mine_is : MatchResult result (λ _. t.mine ≡ s.mine ++ e ∷ []) (λ _. t.mine ≡ s.mine)
  pub was_shut : s.shut ≡ true → before.is_open ≡ false
  pub shut_is : t.shut ≡ not after.is_open
