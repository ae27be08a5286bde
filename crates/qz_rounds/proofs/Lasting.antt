-- What holds of a member's entries stays true as more is seen.
use Rattle.std.proofs.Common.{◌≡◌, ℕ, ℤ, List, [], ◌∷◌, ◌++◌, inl, inr, sym, ap, ◌∙◌, subst, append_assoc}
use Rattle.std.specs.Prelude.{⊤, Ok}
use Rattle.std.specs.List.{AllByRecursion}
use mathlib.Core.List.{IsPrefix}
use Rattle.qz_types.specs.Rows.{EvidenceData, MemberData}
use Rattle.qz_types.specs.Entries.{EntryData, StateEntryData}
use Rattle.qz_types.specs.declared.states.StateCommand.{StateCommand}
use Rattle.qz_types.specs.declared.states.StateCommand.TheVariants.{CheckIn, Forget}
use Rattle.qz_checkin.specs.Rows.{StateTables}
use Rattle.qz_stores.specs.Stores.{EntryKind, StoreState}
use Rattle.qz_shared.specs.Since.{further}
use Rattle.qz_shared.specs.Calls.{Known}
use Rattle.qz_rounds.specs.Looking.{HasCheckedIn, HasCheckedInAgain, FindsLate, check_in_by}
use Rattle.qz_rounds.specs.Adding.{IsRecovery, IsOfRound, IsRoundEntry, AddsRounds}
use Rattle.qz_rounds.specs.Rounds.{ChecksIn}
use Rattle.qz_rounds.proofs.Lists.{prefix_trans, all_map}
use Rattle.qz_rounds.proofs.Seen.{seen_last}

-- a check-in stays in what was seen
pub checked_on : (first : List StateEntryData) (own : List ℕ) (at : ℤ) (seen more : List StateEntryData) → IsPrefix seen more → HasCheckedIn first own at seen → HasCheckedIn first own at more
checked_on first own at seen more p h = record {
  before = h.before;
  seat = h.seat;
  later = h.later ++ p.0;
  entries_are = sym p.1 ∙ ap (λ l. l ++ p.0) h.entries_are ∙ append_assoc (first ++ h.before) (check_in_by at h.seat own ∷ h.later) p.0;
}

-- an accepted check-in has been seen
pub has_checked_in : {H : Type 0} (kind : EntryKind H StateEntryData ⊤) (listed : H → List StateEntryData) (opened : StoreState H StateEntryData)
    (lists : (e : StateEntryData) (h : H) → listed (kind.with_entry e h) ≡ listed h ++ e ∷ [])
    (at : ℤ) (own : List ℕ) (seat : ℕ) (x : ⊤) (u v : Known StateEntryData) → ChecksIn kind listed opened (check_in_by at seat own) (Ok x) u v → HasCheckedIn (listed opened.history) own at v.seen
has_checked_in kind listed opened lists at own seat x u v (inl n) = absurd (let is = n.0 in cc)
has_checked_in kind listed opened lists at own seat x u v (inr c) = record {
  before = further listed opened (listed c.before.history);
  seat = seat;
  later = [];
  entries_are = seen_last kind listed lists opened (check_in_by at seat own) x u v c;
}

-- a second one stays, too
pub checked_again_on : (first : List StateEntryData) (own : List ℕ) (before at : ℤ) (seen more : List StateEntryData) → IsPrefix seen more → HasCheckedInAgain first own before at seen → HasCheckedInAgain first own before at more
checked_again_on first own before at seen more p h = record {
  earlier = h.earlier;
  seat = h.seat;
  later = h.later ++ p.0;
  checked_in = h.checked_in;
  entries_are = sym p.1 ∙ ap (λ l. l ++ p.0) h.entries_are ∙ append_assoc h.earlier (check_in_by at h.seat own ∷ h.later) p.0;
}

-- It is the second one where another had been seen before.
pub has_checked_in_again : {H : Type 0} (kind : EntryKind H StateEntryData ⊤) (listed : H → List StateEntryData) (opened : StoreState H StateEntryData)
    (lists : (e : StateEntryData) (h : H) → listed (kind.with_entry e h) ≡ listed h ++ e ∷ [])
    (before at : ℤ) (own : List ℕ) (seat : ℕ) (x : ⊤) (u v : Known StateEntryData) → HasCheckedIn (listed opened.history) own before u.seen
    → ChecksIn kind listed opened (check_in_by at seat own) (Ok x) u v → HasCheckedInAgain (listed opened.history) own before at v.seen
has_checked_in_again kind listed opened lists before at own seat x u v h (inl n) = absurd (let is = n.0 in cc)
has_checked_in_again kind listed opened lists before at own seat x u v h (inr c) = record {
  earlier = listed c.before.history;
  seat = seat;
  later = [];
  checked_in = checked_on (listed opened.history) own before u.seen (listed c.before.history) c.begins h;
  entries_are = c.seen_is ∙ ap listed c.submits.history ∙ lists (check_in_by at seat own) c.before.history;
}

module _ (shows : ℤ → Type 0) (leaves : List StateEntryData → StateTables → Type 0) (first : List StateEntryData) where
  -- More was seen: what was found stays found.
  pub finds_on : (own : List ℕ) (at : ℤ) (seen more : List StateEntryData) (found : EvidenceData) → IsPrefix seen more → FindsLate leaves first own at seen found → FindsLate leaves first own at more found
  finds_on own at seen more found p f = record {
    looked = f.looked;
    tables = f.tables;
    begins = prefix_trans f.looked seen more f.begins p;
    checked_in = f.checked_in;
    rows = f.rows;
    found_is = f.found_is;
    before = f.before;
    again = f.again;
    awake = f.awake;
  }

  pub recovery_on : (me : MemberData) (seen more : List StateEntryData) → IsPrefix seen more → (e : EntryData) → IsRecovery shows leaves first me seen e → IsRecovery shows leaves first me more e
  recovery_on me seen more p e r = record {
    found = r.found;
    actor = r.actor;
    command = r.command;
    shown = r.shown;
    late = finds_on me.node e.at seen more r.found p r.late;
  }

  command_on : (own : List ℕ) (seen more : List StateEntryData) → IsPrefix seen more → (at : ℤ) (command : StateCommand) → IsOfRound shows leaves first own seen at command → IsOfRound shows leaves first own more at command
  command_on own seen more p at (CheckIn node interval) is = is
  command_on own seen more p at (Forget node last) is = (is.0, is.1, is.2, finds_on own at seen more is.0 p is.3)

  entry_on : (own : List ℕ) (seen more : List StateEntryData) → IsPrefix seen more → (e : StateEntryData) → IsRoundEntry shows leaves first own seen e → IsRoundEntry shows leaves first own more e
  entry_on own seen more p e r = record { shown = r.shown; command = command_on own seen more p e.at e.command r.command }

  -- so do the rules of a member's entries, for each that it added
  pub recoveries_on : (me : MemberData) (seen more : List StateEntryData) (es : List EntryData) → IsPrefix seen more → AllByRecursion (IsRecovery shows leaves first me seen) es → AllByRecursion (IsRecovery shows leaves first me more) es
  recoveries_on me seen more es p all = all_map (IsRecovery shows leaves first me seen) (IsRecovery shows leaves first me more) (recovery_on me seen more p) es all

  pub entries_on : (own : List ℕ) (seen more : List StateEntryData) (es : List StateEntryData) → IsPrefix seen more → AllByRecursion (IsRoundEntry shows leaves first own seen) es → AllByRecursion (IsRoundEntry shows leaves first own more) es
  entries_on own seen more es p all = all_map (IsRoundEntry shows leaves first own seen) (IsRoundEntry shows leaves first own more) (entry_on own seen more p) es all

  -- The seats are new.
  pub adds_none : (me : MemberData) (s : Known EntryData) (u : Known StateEntryData) → s.mine ≡ [] → u.mine ≡ [] → AddsRounds shows leaves first me s u
  adds_none me s u trigger state = record {
    recoveries = subst (AllByRecursion (IsRecovery shows leaves first me u.seen)) (sym trigger) tt;
    entries = subst (AllByRecursion (IsRoundEntry shows leaves first me.node u.seen)) (sym state) tt;
  }

  -- The state seat saw more, and nothing was added.
  pub adds_on : (me : MemberData) (s : Known EntryData) (u v : Known StateEntryData) → IsPrefix u.seen v.seen → v.mine ≡ u.mine → AddsRounds shows leaves first me s u → AddsRounds shows leaves first me s v
  adds_on me s u v p same a = record {
    recoveries = recoveries_on me u.seen v.seen s.mine p a.recoveries;
    entries = subst (AllByRecursion (IsRoundEntry shows leaves first me.node v.seen)) (sym same) (entries_on me.node u.seen v.seen u.mine p a.entries);
  }
