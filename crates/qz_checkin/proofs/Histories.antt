-- Histories that go on, and histories of one whole list.
use Rattle.std.proofs.Common.{◌≡◌, ℕ, List, [], ◌∷◌, ◌++◌, refl}
use Rattle.std.specs.Prelude.{Option}
use Rattle.qz_types.specs.Entries.{StateEntryData}
use Rattle.qz_stores.proofs.Histories as store
use Rattle.qz_checkin.specs.Rows.{StateTables, IsAccepted, state_transaction}
use Rattle.qz_checkin.specs.History.{StateHistory, rows_left, IsLegalFrom, replay_from, replay_states}
use Rattle.qz_checkin.specs.Kinds.{state_kind}
use Rattle.qz_checkin.specs.Laws.{state_lawful}
use Rattle.qz_checkin.specs.Bytes.{Whole, BeginsAs, IsWhole, MayBe, AreEnds}

pub replay_from-append : (T : StateTables) (es fs : List StateEntryData) → replay_from T (es ++ fs) ≡ replay_from (replay_from T es) fs
replay_from-append T [] fs = refl
replay_from-append T (e ∷ es) fs = replay_from-append (rows_left T (state_transaction T e)) es fs

IsLegalFrom-append : (T : StateTables) (es fs : List StateEntryData) → IsLegalFrom T es → IsLegalFrom (replay_from T es) fs → IsLegalFrom T (es ++ fs)
IsLegalFrom-append T [] fs legal more = more
IsLegalFrom-append T (e ∷ es) fs legal more = (legal.0, IsLegalFrom-append (rows_left T (state_transaction T e)) es fs legal.1 more)

-- an accepted entry may follow
pub IsLegalFrom-entry : (T : StateTables) (es : List StateEntryData) (e : StateEntryData) → IsLegalFrom T es → IsAccepted (state_transaction (replay_from T es) e) → IsLegalFrom T (es ++ e ∷ [])
IsLegalFrom-entry T es e legal now = IsLegalFrom-append T es (e ∷ []) legal (now, tt)

-- ends of one whole list leave the same rows
pub same_rows : (start : StateTables) (h g : StateHistory) → AreEnds start h g → replay_states h ≡ replay_states g
same_rows start h g = store.same_state state_kind state_lawful start h g

-- what a crash leaves is a whole list
pub may_hold : (w : Whole) (h : StateHistory) (undecided : Option StateEntryData) (bytes : List ℕ) → MayBe w h undecided bytes → (v : Whole) × BeginsAs w v × IsWhole v bytes
may_hold w h undecided bytes = store.may_hold state_kind state_lawful w h undecided bytes
