-- What a seat knows (`View`), and what each step makes of it.
use Rattle.std.specs.Prelude.{◌≡◌, ℕ, ◌+◌, ◌-◌, ◌/◌, ◌==◌, List, [], ◌∷◌, ◌++◌, filter, Bool, true, false, ◌||◌, ◌&&◌, cond, nat_lt, nat_le, Option, Some, None}
use Rattle.qz_row_lock.specs.declared.view.View.{View}

-- 1 for true.
abbrev pub bit : Bool → ℕ
bit b = cond b 1 0

-- How often the number is in the list.
abbrev pub times : ℕ → List ℕ → ℕ
times x [] = 0
times x (y ∷ ys) = bit (y == x) + times x ys

-- Whether the number is in the list.
abbrev pub has : List ℕ → ℕ → Bool
has [] x = false
has (y ∷ ys) x = (y == x) || has ys x

-- f of each element, added up.
abbrev pub total : {A : Type 0} → (A → ℕ) → List A → ℕ
total f [] = 0
total f (x ∷ xs) = f x + total f xs

-- 1 where x is one of the n numbers after `first`, and else 0.
abbrev pub within : ℕ → ℕ → ℕ → ℕ
within x first n = bit (nat_lt first x && nat_le x (first + n))

module _ {E : Type 0} (num : E → ℕ) where
  -- The entries that bear one of these numbers, in order.
  abbrev pub entries_of : List ℕ → List E → List E
  entries_of ids es = filter (λ e. has ids (num e)) es

  -- No entry bears one of these numbers.
  abbrev pub NoneBear : List ℕ → List E → Type 0
  NoneBear ids [] = Unit {0}
  NoneBear ids (e ∷ es) = (times (num e) ids ≡ 0) × NoneBear ids es

  -- Each entry bears this number.
  abbrev pub AllBear : ℕ → List E → Type 0
  AllBear n [] = Unit {0}
  AllBear n (e ∷ es) = (num e ≡ n) × AllBear n es

  -- The log is what was seen, and after it entries that bear this number.
  pub record GoesOn (n : ℕ) (seen log : List E) : Type 0 where
    pub further : List E
    pub log_is : log ≡ seen ++ further
    pub bear : AllBear n further

module _ {E G : Type 0} where
  -- The view of the first seat of a lock over a value with this history and this basis.
  abbrev pub first_view : List E → G → Bool → View E G
  first_view log basis shut = record { live = true; base = log; basis = Some basis; number = 0; more = 4294967295; parts = 4294967296; ids = 0 ∷ []; seen = log; mine = []; shut = shut; joined_ids = []; joined_seen = log; joined_mine = []; queued = false; ticket = 0; turn = false }

  -- The view of a seat that was joined into another.
  abbrev pub spent : View E G
  spent = record { live = false; base = []; basis = None; number = 0; more = 0; parts = 0; ids = []; seen = []; mine = []; shut = false; joined_ids = []; joined_seen = []; joined_mine = []; queued = false; ticket = 0; turn = false }

  -- After the seat drew the ticket k.
  abbrev pub after_draw : View E G → ℕ → View E G
  after_draw v k = record v { queued = true; ticket = k }

  -- After it got its turn, and with that saw the value.
  abbrev pub after_enter : View E G → List E → Bool → View E G
  after_enter v log shut = record v { seen = log; shut = shut; turn = true }

  -- After it wrote the mark of its value with the history log, in which its own entries are mine.
  abbrev pub after_write : View E G → List E → List E → Bool → View E G
  after_write v log mine shut = record v { seen = log; mine = mine; shut = shut }

  -- After it ended its turn.
  abbrev pub after_leave : View E G → View E G
  after_leave v = record v { queued = false; turn = false }

  -- After it looked at the mark: it has seen the log, in which `all` are its own entries and those of a seat that was
  -- joined into it.
  abbrev pub after_look : View E G → List E → List E → Bool → View E G
  after_look v log all shut = record v { seen = log; mine = all; shut = shut; ids = v.ids ++ v.joined_ids; joined_ids = []; joined_seen = log; joined_mine = [] }

  -- The number of a seat that is split off, and the views of the two seats afterwards.
  abbrev pub next_number : View E G → ℕ
  next_number v = v.number + v.more / 2 + 1

  abbrev pub first_half : View E G → View E G
  first_half v = record v { more = v.more / 2; parts = v.parts - (v.more + 1) / 2 }

  abbrev pub second_half : View E G → View E G
  second_half v = record v { number = next_number v; more = (v.more + 1) / 2 - 1; parts = (v.more + 1) / 2; ids = next_number v ∷ []; mine = []; joined_ids = []; joined_seen = v.seen; joined_mine = [] }

  -- The view of a note: what the seat has seen, and nothing of its own.
  abbrev pub note_of : View E G → View E G
  note_of v = record v { number = 0; more = 0; parts = 0; ids = []; mine = []; joined_ids = []; joined_seen = v.seen; joined_mine = [] }

  -- After another seat was joined into it, before it looks.
  abbrev pub after_join : View E G → View E G → View E G
  after_join v w = record v { parts = v.parts + w.parts; shut = v.shut || w.shut; joined_ids = w.ids; joined_seen = w.seen; joined_mine = w.mine }

  -- How often a seat claims the number: as one of its ids, or of those that were just joined into it.
  abbrev pub claim_count : ℕ → View E G → ℕ
  claim_count x v = times x v.ids + times x v.joined_ids

  -- How often a seat has the number: claimed, or still to be handed on.
  abbrev pub holding_count : ℕ → View E G → ℕ
  holding_count x v = claim_count x v + within x v.number v.more

-- The slots of the table that a seat holds: with the turn it has the only one, from which it took the value.
abbrev pub slots_of : {S : Type 0} → Bool → List (ℕ × Option S)
slots_of true = (0, None) ∷ []
slots_of false = []
