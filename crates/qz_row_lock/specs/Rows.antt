-- What holds of a lock's words, its slot and all seats between any two atomic steps (`IsKept`), and what each step
-- shows the seat that makes it. The words are the mark, the number of tickets drawn, and the ticket that is served.
-- Words wrap at 2^64; the counts here don't.
use Rattle.std.specs.Prelude.{◌≡◌, ℕ, ◌+◌, ◌*◌, ◌%◌, ◌^◌, ◌<◌, ◌≤◌, ◌⊎◌, ◌==◌, List, [], ◌∷◌, ◌++◌, length, Bool, true, false, MatchBool, Option, Some}
use mathlib.Core.Option.{none, some}
use mathlib.Core.Option as maybe
use lib.ListN.{get_elem?}
use Rattle.atomic_table.specs.Table.{State, Me, rest}
use Rattle.qz_row_lock.specs.declared.view.View.{View}
use Rattle.qz_row_lock.specs.Views.{bit, times, total, entries_of, NoneBear, claim_count, holding_count, spent, after_draw, after_enter, after_write, after_leave, after_look}

module _ {E : Type 0} (num : E → ℕ) where
  -- `seen` is a beginning of the log. `mine` are its entries after the base that bear one of these numbers, and the log
  -- has no more of them after `seen`.
  pub record Claim (base log : List E) (ids : List ℕ) (seen mine : List E) : Type 0 where
    pub past : List E
    pub later : List E
    pub seen_is : seen ≡ base ++ past
    pub log_is : log ≡ seen ++ later
    pub mine_is : mine ≡ entries_of num ids past
    pub clear : NoneBear num ids later

  module _ {G : Type 0} where
    -- A seat without a share claims nothing, and doesn't wait.
    pub record Idle (v : View E G) : Type 0 where
      pub ids_are : v.ids ≡ []
      pub joined_are : v.joined_ids ≡ []
      pub not_queued : v.queued ≡ false

    -- What a seat knows is true: its base, its basis, what it has seen; with the turn it knows the whole log.
    pub record Fits (base : List E) (basis : G) (log : List E) (shut : Bool) (served drawn : ℕ) (v : View E G) : Type 0 where
      pub base_is : v.base ≡ base
      pub basis_is : v.basis ≡ Some basis
      pub own : Claim base log v.ids v.seen v.mine
      pub other : Claim base log v.joined_ids v.joined_seen v.joined_mine
      pub shut_is : v.shut ≡ true → shut ≡ true
      pub idle : v.parts ≡ 0 → Idle v
      pub waits : v.queued ≡ true → (served ≤ v.ticket) × (v.ticket < drawn)
      pub turn_is : v.turn ≡ true → (v.queued ≡ true) × (v.ticket ≡ served) × (v.seen ≡ log) × (v.shut ≡ shut)

    -- A seat knows what is true, or was joined into another.
    abbrev pub Good : List E → G → List E → Bool → ℕ → ℕ → View E G → Type 0
    Good base basis log shut served drawn v = Fits base basis log shut served drawn v ⊎ (v ≡ spent)

    -- Each entry bears a number that some seat claims.
    abbrev pub Covered : List E → List (View E G) → Type 0
    Covered [] views = Unit {0}
    Covered (e ∷ es) views = (0 < total (claim_count (num e)) views) × Covered es views

    -- All shares add up to 2^32, no two seats have one number, and each added entry's number is claimed.
    pub record Counts (added : List E) (views : List (View E G)) : Type 0 where
      pub parts : total (λ v. v.parts) views ≡ 4294967296
      pub numbers : (x : ℕ) → total (holding_count x) views ≤ 1
      pub covered : Covered added views

    -- No two seats wait with one ticket.
    abbrev pub Apart : List (View E G) → Type 0
    Apart views = (i j : ℕ) (v w : View E G) → get_elem? views i ≡ some v → get_elem? views j ≡ some w → v.queued ≡ true → w.queued ≡ true → v.ticket ≡ w.ticket → i ≡ j

    module _ {S : Type 0} (history : S → List E) (is_shut : S → Bool) (basis_of : S → G) where
      -- The value is in its slot, and no seat has the turn.
      pub record Home (basis : G) (log : List E) (shut : Bool) (homes : List (maybe.Option (Option S))) (views : List (View E G)) : Type 0 where
        pub value : S
        pub homes_are : homes ≡ some (Some value) ∷ []
        pub log_is : history value ≡ log
        pub shut_is : is_shut value ≡ shut
        pub basis_is : basis_of value ≡ basis
        pub alone : (id : ℕ) (v : View E G) → get_elem? views id ≡ some v → v.turn ≡ false

      -- The slot is empty, and some seat has the turn.
      pub record Away (homes : List (maybe.Option (Option S))) (views : List (View E G)) : Type 0 where
        pub id : ℕ
        pub view : View E G
        pub homes_are : homes ≡ none ∷ []
        pub at : get_elem? views id ≡ some view
        pub turn : view.turn ≡ true

      -- What holds of the lock between any two steps. The log is the base and the added entries; so many tickets are
      -- drawn and so many served.
      pub record IsKept (base : List E) (basis : G) (s : State (Option S) (View E G)) : Type 0 where
        pub log : List E
        pub added : List E
        pub shut : Bool
        pub served : ℕ
        pub drawn : ℕ
        pub log_is : log ≡ base ++ added
        pub words_are : s.words ≡ (2 * length log + bit shut) ∷ (drawn % 2 ^ 64) ∷ (served % 2 ^ 64) ∷ []
        pub slot : Home basis log shut s.homes s.views ⊎ Away s.homes s.views
        pub good : (id : ℕ) (v : View E G) → get_elem? s.views id ≡ some v → Good base basis log shut served drawn v
        pub apart : Apart s.views
        pub queue : total (λ v. bit v.queued) s.views + served ≡ drawn
        pub counts : Counts added s.views

      -- A seat draws a ticket: the one that the word has, modulo 2^64.
      abbrev pub Draws : Me (Option S) (View E G) → ℕ → Me (Option S) (View E G) → Type 0
      Draws m found w = (k : ℕ) × (k % 2 ^ 64 ≡ found) × (w ≡ (after_draw m.0 k, m.1))

      -- A seat gets its turn, and with it the slot and the value, whose history begins with what it had seen.
      pub record Enters (m w : Me (Option S) (View E G)) : Type 0 where
        pub value : S
        pub later : List E
        pub me_is : w ≡ (after_enter m.0 (history value) (is_shut value), (0, Some value) ∷ m.1)
        pub basis_is : m.0.basis ≡ Some (basis_of value)
        pub seen_is : history value ≡ m.0.seen ++ later
        pub clear : NoneBear num m.0.ids later
        pub shut_is : m.0.shut ≡ true → is_shut value ≡ true

      -- A seat looks whether its ticket is served.
      abbrev pub Looks : Me (Option S) (View E G) → ℕ → Me (Option S) (View E G) → Type 0
      Looks m found w = MatchBool (found == m.0.ticket % 2 ^ 64) (Enters m w) (w ≡ m)

      -- The value that the seat has put into the slot becomes the lock's.
      pub record Writes (m w : Me (Option S) (View E G)) : Type 0 where
        pub value : S
        pub further : List E
        pub slots_are : m.1 ≡ (0, Some value) ∷ []
        pub log_is : history value ≡ m.0.seen ++ further
        pub me_is : w ≡ (after_write m.0 (history value) (m.0.mine ++ further) (is_shut value), m.1)

      -- A seat's turn is over.
      abbrev pub Leaves : Me (Option S) (View E G) → Me (Option S) (View E G) → Type 0
      Leaves m w = w ≡ (after_leave m.0, rest m.1)

      -- A seat sees the history so far. It has all its entries in it, and all of a seat that was joined into it.
      pub record Sees (m w : Me (Option S) (View E G)) : Type 0 where
        pub log : List E
        pub all : List E
        pub shut : Bool
        pub later : List E
        pub other_later : List E
        pub added : List E
        pub me_is : w ≡ (after_look m.0 log all shut, m.1)
        pub seen_is : log ≡ m.0.seen ++ later
        pub joined_is : log ≡ m.0.joined_seen ++ other_later
        pub log_is : log ≡ m.0.base ++ added
        pub all_is : all ≡ entries_of num (m.0.ids ++ m.0.joined_ids) added
        pub once : (x : ℕ) → times x (m.0.ids ++ m.0.joined_ids) ≤ 1
        pub mine_is : entries_of num m.0.ids all ≡ m.0.mine
        pub other_is : entries_of num m.0.joined_ids all ≡ m.0.joined_mine
        pub same : m.0.joined_ids ≡ [] → all ≡ m.0.mine
        pub shut_is : m.0.shut ≡ true → shut ≡ true
        pub parts_fit : m.0.parts ≤ 4294967296

      -- What the value is once all seats were joined into one: its history is the base and the entries of that seat.
      pub record Ends (base : List E) (basis : G) (v : View E G) (slots : List (Option S)) : Type 0 where
        pub value : S
        pub later : List E
        pub at : get_elem? slots 0 ≡ some (Some value)
        pub log_is : history value ≡ base ++ v.mine
        pub seen_is : history value ≡ v.seen ++ later
        pub basis_is : basis_of value ≡ basis
        pub shut_is : v.shut ≡ true → is_shut value ≡ true
