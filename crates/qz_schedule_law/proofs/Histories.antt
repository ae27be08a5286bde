-- The law over the entries of a history.
use Rattle.std.proofs.Common.{◌≡◌, inl, ℤ, false, List, [], ◌∷◌, ◌++◌, Option, Some, None, IsSome, IfSome, IsTrue, refl, sym, ap, ◌∙◌, subst}
use Rattle.std.specs.List.{AllByRecursion}
use Rattle.qz_types.specs.Rows.{TriggerData}
use Rattle.qz_types.specs.Entries.{EntryData, is_entry}
use Rattle.qz_types.specs.declared.keys.Key.{Key}
use Rattle.qz_types.specs.declared.triggers.TriggerSpec.{TriggerSpec}
use Rattle.qz_types.specs.declared.replies.Reply.{Reply}
use Rattle.qz_types.specs.Tables.{SchedulerTables}
use Rattle.qz_types.specs.Outcomes.{Outcome, accepted, refused, IsAccepted}
use Rattle.qz_types.specs.Words.{trigger_of}
use Rattle.qz_model.specs.History.{tables_left, onto_replies, IsLegalFrom, replay_from, replies_from}
use Rattle.qz_model.specs.Invariant.{TablesValid}
use Rattle.qz_model.specs.Plan.{next_after}
use Rattle.qz_model.specs.Transaction.{transaction}
use Rattle.qz_model.proofs.Histories.{replay_from-append, valid-left, valid-replay}
use Rattle.qz_model.proofs.RowLaws.{trigger_of-key, All-trigger_of}
use Rattle.qz_schedule_law.specs.Turns.{onto_times, fired_times, AreInTurn}
use Rattle.qz_schedule_law.specs.Undisturbed.{is_chain_changed, IsUndisturbed, IsUndisturbedBy, GoesOn, IsStretch}
use Rattle.qz_schedule_law.proofs.Entries.{facts}
use Rattle.qz_schedule_law.proofs.Stays.{HasTurned}
use Rattle.qz_schedule_law.proofs.Turns.{turns-alike, turns-onto}

-- the trigger after an entry: as it was stored, gone on by the times of the reply, and on the same plan
pub record HasGoneOn (T : SchedulerTables) (key : Key) (t : TriggerData) (r : Reply) (U : SchedulerTables) (u : TriggerData) : Type 0 where
  pub spec : u.spec ≡ t.spec
  pub turned : AreInTurn (next_after T t.spec) t.next (onto_times key r []) u.next
  pub plan : (a : ℤ) → next_after U t.spec a ≡ next_after T t.spec a

stored_value : (P : TriggerData → Type 0) (o : Option TriggerData) (t : TriggerData) → o ≡ Some t → IfSome o P → P t
stored_value P None t found holds = absurd (cc)
stored_value P (Some u) t found holds = let one : u ≡ t = cc in subst P one holds

pub gone_on : (T U : SchedulerTables) (e : EntryData) (r : Reply) (key : Key) (t u : TriggerData) → TablesValid T → transaction T e ≡ accepted U r → trigger_of key T.triggers ≡ Some t → trigger_of key U.triggers ≡ Some u
    → IsUndisturbed key T e.command r U → HasGoneOn T key t r U u
gone_on T U e r key t u valid way before after alone =
    let f = facts T U key e r valid alone.kept (inl alone.on_time) (inl alone.version) way in
    let turned = All-trigger_of (HasTurned T key r) key u U.triggers f.triggers after (trigger_of-key key u U.triggers after) t before in record {
      spec = turned.0;
      turned = turned.1;
      plan = f.plan t before (stored_value (λ (s : TriggerData). is_chain_changed T s.spec e.command ≡ false) (trigger_of key T.triggers) t before alone.calendars);
    }

abbrev pub AreValid : List EntryData → Type 0
AreValid es = AllByRecursion (λ e. IsTrue (is_entry e)) es

-- what the law says from these tables on, where the trigger is that at the end
abbrev pub Goes : SchedulerTables → Key → TriggerData → List Reply → TriggerData → Type 0
Goes T key t rs u = (u.spec ≡ t.spec) × AreInTurn (next_after T t.spec) t.next (fired_times key rs) u.next

-- one entry, and those that follow
step_on : (T U : SchedulerTables) (key : Key) (t v u : TriggerData) (r : Reply) (rs : List Reply) → HasGoneOn T key t r U v → Goes U key v rs u → Goes T key t (r ∷ rs) u
step_on T U key t v u r rs step later = (
  later.0 ∙ step.spec,
  turns-onto (next_after T t.spec) key r t.next v.next u.next (fired_times key rs) step.turned
      (turns-alike (next_after U v.spec) (next_after T t.spec) (λ a. ap (λ (s : TriggerSpec). next_after U s a) step.spec ∙ step.plan a) v.next (fired_times key rs) u.next later.1),
)

-- the entry in front: its outcome, and what the entries behind it do
first_entry : (T : SchedulerTables) (e : EntryData) (o : Outcome) (key : Key) (t u : TriggerData) (rs : List Reply) → TablesValid T → IsAccepted o → transaction T e ≡ o → trigger_of key T.triggers ≡ Some t → IsUndisturbedBy key T e.command o
    → ((v : TriggerData) → trigger_of key (tables_left T o).triggers ≡ Some v → Goes (tables_left T o) key v rs u) → Goes T key t (onto_replies o rs) u
first_entry T e (refused x) key t u rs valid is way found alone later = absurd is
first_entry T e (accepted U r) key t u rs valid is way found alone later =
    elim (trigger_of key U.triggers) as (λ o. trigger_of key U.triggers ≡ o → IsSome o → Goes T key t (r ∷ rs) u) [
      | None ↦ λ after stored. absurd (cc)
      | Some v ↦ λ after stored. step_on T U key t v u r rs (gone_on T U e r key t v valid way found after alone) (later v after)
    ] refl alone.stored

pub goes_on : (T : SchedulerTables) (es : List EntryData) (key : Key) (t u : TriggerData) → TablesValid T → AreValid es → IsLegalFrom T es → trigger_of key T.triggers ≡ Some t → trigger_of key (replay_from T es).triggers ≡ Some u → GoesOn key T es
    → Goes T key t (replies_from T es) u
goes_on T [] key t u valid good legal before after goes = let one : t ≡ u = cc in (ap (λ (x : TriggerData). x.spec) (sym one), ap (λ (x : TriggerData). x.next) one)
goes_on T (e ∷ es) key t u valid good legal before after goes =
    first_entry T e (transaction T e) key t u (replies_from (tables_left T (transaction T e)) es) valid legal.0 refl before goes.0
    (λ v found. goes_on (tables_left T (transaction T e)) es key v u (valid-left T e good.0 valid) good.1 legal.1 found after goes.1)

-- Moments of a history.

pub All-back : (P : EntryData → Type 0) (front back : List EntryData) → AllByRecursion P (front ++ back) → AllByRecursion P front × AllByRecursion P back
All-back P [] back all = (tt, all)
All-back P (e ∷ front) back all = let rest = All-back P front back all.1 in ((all.0, rest.0), rest.1)

pub legal_back : (T : SchedulerTables) (front back : List EntryData) → IsLegalFrom T (front ++ back) → IsLegalFrom T front × IsLegalFrom (replay_from T front) back
legal_back T [] back legal = (tt, legal)
legal_back T (e ∷ front) back legal = let rest = legal_back (tables_left T (transaction T e)) front back legal.1 in ((legal.0, rest.0), rest.1)

-- the entries after any moment of a legal history are a stretch
pub later_stretch : (T : SchedulerTables) (before es : List EntryData) (key : Key) (t u : TriggerData) → TablesValid T → AreValid (before ++ es) → IsLegalFrom T (before ++ es) → trigger_of key (replay_from T before).triggers ≡ Some t
    → trigger_of key (replay_from T (before ++ es)).triggers ≡ Some u → GoesOn key (replay_from T before) es → IsStretch (replay_from T before) es key t u
later_stretch T before es key t u valid good legal begins ends goes =
    let entries = All-back (λ e. IsTrue (is_entry e)) before es good in
    let parts = legal_back T before es legal in record {
      valid = valid-replay T before entries.0 valid parts.0;
      entries = entries.1;
      legal = parts.1;
      begins = begins;
      ends = subst (λ (U : SchedulerTables). trigger_of key U.triggers ≡ Some u) (replay_from-append T before es) ends;
      goes_on = goes;
    }
