-- A round adds only such entries as the rules say.
use Rattle.std.proofs.Common.{◌≡◌, ℕ, ℤ, List, [], ◌∷◌, ◌++◌, Bool, true, false, ◌⊎◌, inl, inr, refl, sym, subst}
use Rattle.std.specs.Prelude.{⊤, Option, Some, None, IfSome, if◌then◌else◌, Ok, Err, MatchBool, MatchOption, MatchResult}
use Rattle.std.specs.declared.result.Result.{Result}
use mathlib.Core.List.{IsPrefix}
use Rattle.qz_types.specs.Rows.{EvidenceData, MemberData}
use Rattle.qz_types.specs.Entries.{EntryData, StateEntryData}
use Rattle.qz_types.specs.declared.errors.SubmitError.{SubmitError}
use Rattle.qz_types.specs.declared.errors.SubmitError.TheVariants as submit
use Rattle.qz_types.specs.declared.replies.Reply.{Reply}
use Rattle.qz_stores.specs.Stores.{EntryKind, StoreState}
use Rattle.qz_checkin.specs.Rows.{StateTables}
use Rattle.qz_shared.specs.Calls.{Known}
use Rattle.qz_rounds.specs.Looking.{HasCheckedIn, HasCheckedInAgain, FindsLate, is_awake, found_in, late_in, check_in_by}
use Rattle.qz_rounds.specs.Adding.{IsRecovery, IsRoundEntry, AddsRounds}
use Rattle.qz_rounds.specs.Recovering.{SubmitsNone, Forgets, Recovers, Decides, LooksAndRecovers, is_gone, told, recover_by, forget_by}
use Rattle.qz_rounds.specs.Rounds.{ChecksIn, LooksOnce, LooksIfLater, MakesRound}
use Rattle.qz_rounds.proofs.Lists.{prefix_refl, prefix_trans}
use Rattle.qz_rounds.proofs.Seen.{sees_on, all_after}
use Rattle.qz_rounds.proofs.Lasting.{checked_on, checked_again_on, has_checked_in, has_checked_in_again, finds_on, recoveries_on, entries_on, adds_on}

-- where a choice is known
pub match_true : (A B : Type 0) (b : Bool) → b ≡ true → A → MatchBool b A B
match_true A B true is a = a
match_true A B false is a = absurd cc

module _ {H G : Type 0} (kind : EntryKind H StateEntryData ⊤) (listed : H → List StateEntryData) (opened : StoreState H StateEntryData)
    (trigger_kind : EntryKind G EntryData Reply) (trigger_listed : G → List EntryData) (trigger_opened : StoreState G EntryData)
    (leaves : List StateEntryData → StateTables → Type 0) (at : ℤ) (me : MemberData) (trigger_seat state_seat : ℕ) where
  -- A check-in and a look are a round that isn't the first one.
  pub later_round : (before : Option ℤ) (of : ℤ) (x : ⊤) (result : Result ⊤ SubmitError) (s t : Known EntryData) (u k v : Known StateEntryData) → before ≡ Some of
      → ChecksIn kind listed opened (check_in_by at state_seat me.node) (Ok x) u k
      → LooksOnce kind listed opened trigger_kind trigger_listed trigger_opened leaves of at me trigger_seat state_seat result s t k v
      → MakesRound kind listed opened trigger_kind trigger_listed trigger_opened leaves before at me trigger_seat state_seat result s t u v
  later_round before of x result s t u k v is checks looks = record {
    answer = Ok x;
    checked_in = k;
    checks_in = checks;
    goes_on = subst (λ b. LooksIfLater kind listed opened trigger_kind trigger_listed trigger_opened leaves b at me trigger_seat state_seat result s t k v) (sym is) looks;
  }

module _ {H G : Type 0} (kind : EntryKind H StateEntryData ⊤) (listed : H → List StateEntryData) (opened : StoreState H StateEntryData)
    (trigger_kind : EntryKind G EntryData Reply) (trigger_listed : G → List EntryData) (trigger_opened : StoreState G EntryData)
    (lists : (e : StateEntryData) (h : H) → listed (kind.with_entry e h) ≡ listed h ++ e ∷ [])
    (trigger_lists : (e : EntryData) (h : G) → trigger_listed (trigger_kind.with_entry e h) ≡ trigger_listed h ++ e ∷ [])
    (shows : ℤ → Type 0) (leaves : List StateEntryData → StateTables → Type 0)
    (at : ℤ) (shown : shows at) (me : MemberData) (trigger_seat state_seat : ℕ) where
  abbrev first : List StateEntryData
  first = listed opened.history

  -- all that was added is such, and what the state seat had seen stays seen
  abbrev Keeps : Known EntryData → Known StateEntryData → Known StateEntryData → Type 0
  Keeps t u v = AddsRounds shows leaves first me t v × IsPrefix u.seen v.seen

  -- the node checked in at the reading of the round before, and again at this one
  abbrev pub CheckedIn : ℤ → List StateEntryData → Type 0
  CheckedIn before seen = HasCheckedIn first me.node at seen × HasCheckedInAgain first me.node before at seen

  pub checked_in_on : (before : ℤ) (seen more : List StateEntryData) → IsPrefix seen more → CheckedIn before seen → CheckedIn before more
  checked_in_on before seen more p c = (checked_on first me.node at seen more p c.0, checked_again_on first me.node before at seen more p c.1)

  -- both, where a check-in was accepted
  pub has_checked_in_since : (before : Option ℤ) (x : ⊤) (u k : Known StateEntryData) → IfSome before (λ b. HasCheckedIn first me.node b u.seen)
      → ChecksIn kind listed opened (check_in_by at state_seat me.node) (Ok x) u k → IfSome before (λ b. CheckedIn b k.seen)
  has_checked_in_since None x u k h c = tt
  has_checked_in_since (Some before) x u k h c =
      (has_checked_in kind listed opened lists at me.node state_seat x u k c, has_checked_in_again kind listed opened lists before at me.node state_seat x u k h c)

  found_awake : (awake : Bool) (late : Option EvidenceData) (found : EvidenceData) → (if awake then late else None) ≡ Some found → (awake ≡ true) × (late ≡ Some found)
  found_awake true late found is = (refl, is)
  found_awake false late found is = absurd cc

  pub finds : (before : ℤ) (seen : List StateEntryData) (T : StateTables) (found : EvidenceData) → CheckedIn before seen → leaves seen T → found_in (Some before) T at me.node ≡ Some found
      → FindsLate leaves first me.node at seen found
  finds before seen T found checked rows is =
      let both = found_awake (is_awake (Some before) T at) (late_in T at me.node) found is in
      record { looked = seen; tables = T; begins = prefix_refl seen; checked_in = checked.0; rows = rows; found_is = both.1; before = before; again = checked.1; awake = both.0 }

  none_added : (answer result : Result (Option Reply) SubmitError) (s t : Known EntryData) (u v : Known StateEntryData) → SubmitsNone answer result s t u v → AddsRounds shows leaves first me s u → Keeps t u v
  none_added answer result s t u v n a = subst (λ k. Keeps t u k) (sym n.state) (subst (λ k. AddsRounds shows leaves first me k u) (sym n.trigger) a, prefix_refl u.seen)

  -- the row is forgotten by the evidence
  forgets_keep : (found : EvidenceData) (answer result : Result (Option Reply) SubmitError) (t : Known EntryData) (u v : Known StateEntryData)
      → FindsLate leaves first me.node at u.seen found → Forgets kind listed opened (forget_by at state_seat found.node found.last) answer result u v → AddsRounds shows leaves first me t u → Keeps t u v
  forgets_keep found answer result t u v late f a =
      let e : StateEntryData = forget_by at state_seat found.node found.last in
      let p = sees_on kind listed lists opened e f.forgot u v f.called in
      let is : IsRoundEntry shows leaves first me.node v.seen e = record { shown = shown; command = (found, refl, refl, finds_on shows leaves first me.node at u.seen v.seen found p late) } in (
        record {
          recoveries = recoveries_on shows leaves first me u.seen v.seen t.mine p a.recoveries;
          entries = all_after kind listed lists opened e (IsRoundEntry shows leaves first me.node v.seen) f.forgot u v f.called is (entries_on shows leaves first me.node u.seen v.seen u.mine p a.entries);
        },
        p,
      )

  follows_keep : (found : EvidenceData) (gone : Bool) (answer result : Result (Option Reply) SubmitError) (t : Known EntryData) (u v : Known StateEntryData)
      → FindsLate leaves first me.node at u.seen found
      → MatchBool gone (Forgets kind listed opened (forget_by at state_seat found.node found.last) answer result u v) ((result ≡ answer) × (v ≡ u)) → AddsRounds shows leaves first me t u → Keeps t u v
  follows_keep found true answer result t u v late f a = forgets_keep found answer result t u v late f a
  follows_keep found false answer result t u v late f a = subst (λ k. Keeps t u k) (sym f.1) (a, prefix_refl u.seen)

  recovers_keep : (found : EvidenceData) (result : Result (Option Reply) SubmitError) (s t : Known EntryData) (u v : Known StateEntryData)
      → FindsLate leaves first me.node at u.seen found
      → Recovers kind listed opened trigger_kind trigger_listed trigger_opened (recover_by at trigger_seat me found.node) (forget_by at state_seat found.node found.last) result s t u v
      → AddsRounds shows leaves first me s u → Keeps t u v
  recovers_keep found result s t u v late r a =
      let e : EntryData = recover_by at trigger_seat me found.node in
      let is : IsRecovery shows leaves first me u.seen e = record { found = found; actor = refl; command = refl; shown = shown; late = late } in
      follows_keep found (is_gone r.answer) (told r.answer) result t u v late r.follows (record {
        recoveries = all_after trigger_kind trigger_listed trigger_lists trigger_opened e (IsRecovery shows leaves first me u.seen) r.answer s t r.called is a.recoveries;
        entries = a.entries;
      })

  -- a look that belongs to a round finds nobody unless it is awake
  decides_keep : (before : ℤ) (result : Result (Option Reply) SubmitError) (s t : Known EntryData) (u v : Known StateEntryData) (T : StateTables) (late : Option EvidenceData)
      → CheckedIn before u.seen → leaves u.seen T → found_in (Some before) T at me.node ≡ late
      → MatchOption late (SubmitsNone (Ok None) result s t u v) (λ found. Recovers kind listed opened trigger_kind trigger_listed trigger_opened (recover_by at trigger_seat me found.node) (forget_by at state_seat found.node found.last) result s t u v)
      → AddsRounds shows leaves first me s u → Keeps t u v
  decides_keep before result s t u v T None checked rows is n a = none_added (Ok None) result s t u v n a
  decides_keep before result s t u v T (Some found) checked rows is r a = recovers_keep found result s t u v (finds before u.seen T found checked rows is) r a

  does_keep : (before : ℤ) (result : Result (Option Reply) SubmitError) (s t : Known EntryData) (u v : Known StateEntryData) → CheckedIn before u.seen
      → SubmitsNone (Err submit.NoMemory) result s t u v ⊎ Decides kind listed opened trigger_kind trigger_listed trigger_opened leaves (Some before) at me trigger_seat state_seat result s t u v
      → AddsRounds shows leaves first me s u → Keeps t u v
  does_keep before result s t u v checked (inl n) a = none_added (Err submit.NoMemory) result s t u v n a
  does_keep before result s t u v checked (inr d) a = decides_keep before result s t u v d.tables (found_in (Some before) d.tables at me.node) checked d.rows refl d.does a

  -- a look, after a check-in at the same reading
  pub looks_keep : (before : ℤ) (result : Result (Option Reply) SubmitError) (s t : Known EntryData) (u v : Known StateEntryData) → CheckedIn before u.seen
      → LooksAndRecovers kind listed opened trigger_kind trigger_listed trigger_opened leaves (Some before) at me trigger_seat state_seat result s t u v → AddsRounds shows leaves first me s u → Keeps t u v
  looks_keep before result s t u v checked l a =
      let p = l.looks.begins in
      let k = does_keep before result s t l.looked v (checked_in_on before u.seen l.looked.seen p checked) l.does (adds_on shows leaves first me s u l.looked p l.looks.mine a) in
      (k.0, prefix_trans u.seen l.looked.seen v.seen p k.1)

  -- the same, or there is none in a first round
  pub later_keep : (before : Option ℤ) (result : Result ⊤ SubmitError) (s t : Known EntryData) (u v : Known StateEntryData) → IfSome before (λ b. CheckedIn b u.seen)
      → LooksIfLater kind listed opened trigger_kind trigger_listed trigger_opened leaves before at me trigger_seat state_seat result s t u v → AddsRounds shows leaves first me s u → Keeps t u v
  later_keep None result s t u v checked l a = subst (λ k. Keeps t u k) (sym l.2) (subst (λ k. AddsRounds shows leaves first me k u) (sym l.1) a, prefix_refl u.seen)
  later_keep (Some before) result s t u v checked l a = looks_keep before l.answer s t u v checked l.looks a

  abbrev checking : StateEntryData
  checking = check_in_by at state_seat me.node

  pub checks_keep : (r : Result ⊤ SubmitError) (s : Known EntryData) (u v : Known StateEntryData) → ChecksIn kind listed opened checking r u v → AddsRounds shows leaves first me s u → AddsRounds shows leaves first me s v
  checks_keep r s u v (inl n) a = subst (λ k. AddsRounds shows leaves first me s k) (sym n.1) a
  checks_keep r s u v (inr c) a =
      let p = sees_on kind listed lists opened checking r u v c in
      record {
        recoveries = recoveries_on shows leaves first me u.seen v.seen s.mine p a.recoveries;
        entries = all_after kind listed lists opened checking (IsRoundEntry shows leaves first me.node v.seen) r u v c (record { shown = shown; command = (refl, refl) }) (entries_on shows leaves first me.node u.seen v.seen u.mine p a.entries);
      }

  goes_keep : (before : Option ℤ) (r result : Result ⊤ SubmitError) (s t : Known EntryData) (u k v : Known StateEntryData) → IfSome before (λ b. HasCheckedIn first me.node b u.seen)
      → ChecksIn kind listed opened checking r u k
      → MatchResult r
      (λ _. LooksIfLater kind listed opened trigger_kind trigger_listed trigger_opened leaves before at me trigger_seat state_seat result s t k v)
      (λ error. (result ≡ Err error) × (t ≡ s) × (v ≡ k))
      → AddsRounds shows leaves first me s k → AddsRounds shows leaves first me t v
  goes_keep before (Ok x) result s t u k v h c l a = (later_keep before result s t k v (has_checked_in_since before x u k h c) l a).0
  goes_keep before (Err error) result s t u k v h c l a = subst (λ w. AddsRounds shows leaves first me t w) (sym l.2) (subst (λ w. AddsRounds shows leaves first me w k) (sym l.1) a)

  pub round_keeps : (before : Option ℤ) (result : Result ⊤ SubmitError) (s t : Known EntryData) (u v : Known StateEntryData) → IfSome before (λ b. HasCheckedIn first me.node b u.seen)
      → MakesRound kind listed opened trigger_kind trigger_listed trigger_opened leaves before at me trigger_seat state_seat result s t u v
      → AddsRounds shows leaves first me s u → AddsRounds shows leaves first me t v
  round_keeps before result s t u v h m a = goes_keep before m.answer result s t u m.checked_in v h m.checks_in m.goes_on (checks_keep m.answer s u m.checked_in m.checks_in a)
