-- Members check in one after another on a new state store.
use Rattle.std.proofs.Common.{◌≡◌, ℕ, ◌+◌, ◌*◌, ◌≤◌, true, false, List, [], ◌∷◌, ◌++◌, length, map, take, drop, zero, suc, drop-cons, sym, ◌∙◌, ap, subst, arith, IsTrue}
use Rattle.std.specs.Prelude.{⊤, Some, None, Err}
use Rattle.std.specs.List.{slice_get}
use Rattle.std.proofs.lemmas.Bool.{and_parts, leb-true}
use Rattle.std.proofs.lemmas.List.{map_more, map-append, length-map, take-append-drop}
use Rattle.std.proofs.lemmas.Option.{slice_get_within, get_or_from_slice_get}
use Rattle.qz_types.specs.Entries.{StateEntryData}
use Rattle.qz_types.specs.Rows.{MemberData, is_node}
use Rattle.qz_types.specs.Tables.{SchedulerTables}
use Rattle.qz_types.specs.declared.limits.TheConstants.{NODE_LIMIT, MEMBER_LIMIT}
use Rattle.qz_types.specs.declared.replies.Refusal.{Refusal}
use Rattle.qz_stores.specs.Stores.{Appends, Refuses, Overflows, Starves, Fails, Stops}
use Rattle.qz_checkin.specs.Entries.{StatesState, of_states, answer_of}
use Rattle.qz_checkin.specs.History.{StateHistory, new_state_history, with_state_entry, replay_states}
use Rattle.qz_checkin.specs.Kinds.{state_kind}
use Rattle.qz_checkin.specs.Rows.{state_transaction}
use Rattle.qz_standby.specs.CheckIns.{check_in_of, check_ins, rows_list}
use Rattle.qz_standby.specs.declared.checking_in.TheConstants.{CHECK_IN_INTERVAL}
use Rattle.qz_standby.proofs.Firsts.{HasFirst, IsNext}
use Rattle.qz_standby.proofs.RowRoom.{rows_few, never_refused, record_long, room_left}

-- the check-ins of the first members
abbrev pub first_of : SchedulerTables → ℕ → List StateEntryData
first_of T i = map (check_in_of T.last_moment) (take i T.members)

-- So many members have checked in, on a store that was new.
pub record HaveCheckedIn (T : SchedulerTables) (i : ℕ) (s : StatesState) : Type 0 where
  pub history : s.history ≡ record new_state_history { entries = first_of T i }
  pub decided : s.undecided ≡ None
  pub is_open : s.is_open ≡ true
  pub payloads : s.payloads ≡ i
  pub gate : s.gate ≤ 16 + 160 * i

take_few : (n : ℕ) (ms : List MemberData) → length (take n ms) ≤ n
take_few zero ms = omega arith
take_few (suc n) [] = omega arith
take_few (suc n) (m ∷ ms) = omega (arith, take_few n ms)

first_length : (T : SchedulerTables) (i : ℕ) → length (first_of T i) ≤ i
first_length T i = omega (arith, length-map (take i T.members) (check_in_of T.last_moment), take_few i T.members)

next_of : (ms : List MemberData) (i : ℕ) (m : MemberData) → slice_get ms i ≡ Some m → drop i ms ≡ m ∷ drop (suc i) ms
next_of ms i m is = drop-cons ms i m (slice_get_within ms i m is) ∙ ap (λ (x : MemberData). x ∷ drop (suc i) ms) (get_or_from_slice_get ms i m m is)

module _ (T : SchedulerTables) (i : ℕ) (m : MemberData) (is : slice_get T.members i ≡ Some m) (s : StatesState) (have : HaveCheckedIn T i s) where
  entry : StateEntryData
  entry = check_in_of T.last_moment m

  -- all that there are
  split : (j : ℕ) → check_ins T ≡ first_of T j ++ map (check_in_of T.last_moment) (drop j T.members)
  split j = sym (ap (map (check_in_of T.last_moment)) (take-append-drop j T.members)) ∙ map-append (check_in_of T.last_moment) (take j T.members) (drop j T.members)

  one_more : first_of T i ++ check_in_of T.last_moment m ∷ [] ≡ first_of T (i + 1)
  one_more =
      ap (λ (x : MemberData). first_of T i ++ check_in_of T.last_moment x ∷ []) (sym (get_or_from_slice_get T.members i m m is))
      ∙ sym (map_more (check_in_of T.last_moment) T.members i m (slice_get_within T.members i m is))

  pub checked_more : length m.node ≤ 120 → (t : StatesState) (reply : ⊤) → Appends of_states (check_in_of T.last_moment m) reply s t → HaveCheckedIn T (i + 1) t
  checked_more short t reply added = record {
    history = added.history ∙ ap (with_state_entry (check_in_of T.last_moment m)) have.history ∙ ap (λ (l : List StateEntryData). record new_state_history { entries = l }) one_more;
    decided = added.undecided;
    is_open = added.is_open;
    payloads = added.payloads ∙ ap (λ (n : ℕ). n + 1) have.payloads;
    gate = omega (arith, added.gate, have.gate, record_long T.last_moment 0 m.node CHECK_IN_INTERVAL, short);
  }

  pub fails_first : (t : StatesState) → Fails of_states (check_in_of T.last_moment m) s t → HasFirst state_kind (rows_list T) (map (check_in_of T.last_moment) (drop i T.members)) t
  fails_first t failed = record {
    first = first_of T i;
    entries = split i;
    history = failed.history ∙ have.history;
    next = subst (λ u. IsNext u (map (check_in_of T.last_moment) (drop i T.members))) (sym failed.undecided) (map (check_in_of T.last_moment) (drop (suc i) T.members), ap (map (check_in_of T.last_moment)) (next_of T.members i m is));
  }

  pub starves_first : (t : StatesState) → Starves of_states (check_in_of T.last_moment m) s t → HasFirst state_kind (rows_list T) (map (check_in_of T.last_moment) (drop i T.members)) t
  starves_first t starved = record {
    first = first_of T i;
    entries = split i;
    history = starved.same.history ∙ have.history;
    next = subst (λ u. IsNext u (map (check_in_of T.last_moment) (drop i T.members))) (sym (starved.same.undecided ∙ have.decided)) tt;
  }

  pub not_refused : length T.members ≤ MEMBER_LIMIT → (t : StatesState) (refusal : Refusal) → Refuses of_states (check_in_of T.last_moment m) refusal s t → ⊥
  not_refused few t refusal refuses =
      let rows = rows_few (first_of T i) in
      never_refused (replay_states (record new_state_history { entries = first_of T i })) T.last_moment 0 m.node CHECK_IN_INTERVAL refusal
      (omega (arith, rows, first_length T i, slice_get_within T.members i m is, few))
      (subst (λ (h : StateHistory). answer_of (state_transaction (replay_states h) (check_in_of T.last_moment m)) ≡ Err refusal) have.history refuses.refused_as)

  pub not_full : length T.members ≤ MEMBER_LIMIT → length m.node ≤ 120 → (t : StatesState) (need room : ℕ) → Overflows of_states (check_in_of T.last_moment m) need room s t → ⊥
  not_full few short t need room full =
      room_left s.gate s.payloads need room _ (omega (arith, have.payloads, slice_get_within T.members i m is, few)) (omega (arith, have.gate, have.payloads)) (omega (arith, record_long T.last_moment 0 m.node CHECK_IN_INTERVAL, short)) full.full

  pub not_closed : (t : StatesState) → Stops s t → ⊥
  not_closed t stops = let both : true ≡ false = sym have.is_open ∙ stops.was_closed in cc

  pub short_name : IsTrue (is_node m.node) → length m.node ≤ 120
  short_name valid = leb-true (length m.node) NODE_LIMIT (and_parts _ _ valid).1

module _ (T : SchedulerTables) where
  pub checked_first : (i : ℕ) (s : StatesState) → HaveCheckedIn T i s → HasFirst state_kind (rows_list T) (map (check_in_of T.last_moment) (drop i T.members)) s
  checked_first i s have = record {
    first = first_of T i;
    entries = sym (ap (map (check_in_of T.last_moment)) (take-append-drop i T.members)) ∙ map-append (check_in_of T.last_moment) (take i T.members) (drop i T.members);
    history = have.history;
    next = subst (λ u. IsNext u (map (check_in_of T.last_moment) (drop i T.members))) (sym have.decided) tt;
  }
