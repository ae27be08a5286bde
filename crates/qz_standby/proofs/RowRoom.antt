-- A new state store takes the check-ins of all members: there are no more than it may have rows, and they have room.
use Rattle.std.proofs.Common.{◌≡◌, ℕ, ℤ, ◌+◌, ◌-◌, ◌*◌, ◌<◌, ◌≤◌, Bool, true, false, List, [], ◌∷◌, length, length-append, filter, cond, refl, ap, arith, if◌then◌else◌}
use Rattle.std.proofs.lemmas.Bool.{lt-leb, lt-ltb}
use Rattle.std.specs.Prelude.{Option, Some, None, Err}
use Rattle.std.specs.Ordering.{is_gt}
use Rattle.std.specs.declared.cmp.Ordering.{Ordering}
use Rattle.std.specs.Int.{w64}
use Rattle.qz_types.specs.Entries.{StateEntryData}
use Rattle.qz_types.specs.Rows.{StateData}
use Rattle.qz_types.specs.Sorted.{put}
use Rattle.qz_types.specs.Words.{text_cmp}
use Rattle.qz_types.specs.declared.limits.TheConstants.{STATE_LIMIT}
use Rattle.qz_types.specs.declared.replies.Refusal.{Refusal}
use Rattle.qz_types.specs.declared.replies.Refusal.TheVariants.{RowsFull}
use Rattle.qz_types.specs.declared.states.StateCommand.{StateCommand}
use Rattle.qz_types.specs.declared.states.StateCommand.TheVariants.{CheckIn, Forget}
use Rattle.qz_values.specs.Fields.{number, integer, text}
use Rattle.qz_codec.specs.States.{state_entry, state_command}
use Rattle.qz_journal.specs.Commits.{IsFull}
use Rattle.qz_journal.specs.declared.layout.TheConstants.{MAX_BYTES, MAX_PAYLOADS}
use Rattle.qz_checkin.specs.Entries.{answer_of, state_record_of}
use Rattle.qz_checkin.specs.History.{replay_from, rows_left}
use Rattle.qz_checkin.specs.Rows.{StateTables, new_state_tables, state_of, with_state, without_state, state_moment, accepted, unless, check_in_refusal, forget_refusal, state_transaction}

-- Each entry adds a row at most.

filter_few : (q : StateData → Bool) (rows : List StateData) → length (filter q rows) ≤ length rows
filter_few q [] = omega arith
filter_few q (r ∷ rows) = elim (q r) as (λ b. length (cond b (r ∷ filter q rows) (filter q rows)) ≤ length (r ∷ rows)) [
  | true ↦ omega (arith, filter_few q rows)
  | false ↦ omega (arith, filter_few q rows)
]

put_one : (cmp : List ℕ → List ℕ → Ordering) (r : StateData) (rows : List StateData) → length (put cmp (λ x. x.node) r rows) ≡ length rows + 1
put_one cmp r [] = refl
put_one cmp r (x ∷ rows) = elim (is_gt (cmp r.node x.node)) as (λ b. length (if b then x ∷ put cmp (λ y. y.node) r rows else r ∷ x ∷ rows) ≡ length (x ∷ rows) + 1) [
  | true ↦ omega (arith, put_one cmp r rows)
  | false ↦ omega arith
]

without_few : (node : List ℕ) (rows : List StateData) → length (without_state node rows) ≤ length rows
unfolding without_state
without_few node rows = filter_few _ rows

with_one : (r : StateData) (rows : List StateData) → length (with_state r rows) ≤ length rows + 1
unfolding with_state
with_one r rows = omega (arith, put_one text_cmp r (without_state r.node rows), without_few r.node rows)

left_few : (T : StateTables) (x : Option Refusal) (rows : List StateData) (m : ℤ) → length rows ≤ length T.rows + 1 → length (rows_left T (unless x (accepted (record { rows = rows; last_moment = m })))).rows ≤ length T.rows + 1
left_few T None rows m few = few
left_few T (Some refusal) rows m few = omega arith

entry_few : (T : StateTables) (at : ℤ) (seat : ℕ) (c : StateCommand) → length (rows_left T (state_transaction T (record { at = at; seat = seat; command = c }))).rows ≤ length T.rows + 1
entry_few T at seat (CheckIn node interval) =
    let row : StateData = record { node = node; last = state_moment T at; interval = interval } in
    left_few T (check_in_refusal T (state_of node T.rows)) (with_state row T.rows) (state_moment T at) (with_one row T.rows)
entry_few T at seat (Forget node last) = left_few T (forget_refusal (state_of node T.rows) last) (without_state node T.rows) (state_moment T at) (omega (arith, without_few node T.rows))

replay_few : (T : StateTables) (es : List StateEntryData) → length (replay_from T es).rows ≤ length T.rows + length es
replay_few T [] = omega arith
replay_few T (e ∷ es) = omega (arith, replay_few (rows_left T (state_transaction T e)) es, entry_few T e.at e.seat e.command)

pub rows_few : (es : List StateEntryData) → length (replay_from new_state_tables es).rows ≤ length es
rows_few es = omega (arith, replay_few new_state_tables es)

-- So a check-in isn't refused.

no_refusal : (T : StateTables) (o : Option StateData) → length T.rows < STATE_LIMIT → check_in_refusal T o ≡ None
unfolding check_in_refusal
no_refusal T (Some row) few = refl
no_refusal T None few = ap (λ (b : Bool). if◌then◌else◌ {A = Option Refusal} b (Some RowsFull) None) (lt-leb STATE_LIMIT (length T.rows) few)

taken : (T U : StateTables) (x : Option Refusal) (refusal : Refusal) → x ≡ None → answer_of (unless x (accepted U)) ≡ Err refusal → ⊥
taken T U None refusal none is = cc
taken T U (Some other) refusal none is = cc

pub never_refused : (T : StateTables) (at : ℤ) (seat : ℕ) (node : List ℕ) (interval : ℤ) (refusal : Refusal) → length T.rows < STATE_LIMIT
    → answer_of (state_transaction T (record { at = at; seat = seat; command = CheckIn node interval })) ≡ Err refusal → ⊥
never_refused T at seat node interval refusal few is = taken T _ (check_in_refusal T (state_of node T.rows)) refusal (no_refusal T (state_of node T.rows) few) is

-- And it has room.

pub record_long : (at : ℤ) (seat : ℕ) (node : List ℕ) (interval : ℤ) → length (state_record_of (record { at = at; seat = seat; command = CheckIn node interval })) ≡ 24 + length node
unfolding state_entry state_command text integer number
record_long at seat node interval = omega (arith, length-append node (integer w64 interval))

pub room_left : (gate payloads need room size : ℕ) → payloads < 256 → gate ≤ 16 + 160 * payloads → size ≤ 150 → IsFull gate payloads size need room → ⊥
room_left gate payloads need room size few low short full =
    let is : room ≡ (if◌then◌else◌ {A = ℕ} true (MAX_BYTES - (gate + 1)) 0) = (rw (lt-ltb payloads MAX_PAYLOADS (omega (arith, few))) at full.1) in
    omega (arith, is, full.0, full.2, low, few, short)
