-- Transactions that lose no execution and add no recovery.
use Rattle.std.proofs.Common.{◌≡◌, ℕ, nat_eq, ◌<◌, ◌≤◌, Bool, true, false, not, ◌&&◌, [], ◌∷◌, codes, count_by, inl, Some, None, is_some, sym, ap, ◌∙◌, subst, arith}
use Rattle.std.specs.List.{AllByRecursion, ends_with}
use Rattle.std.specs.Fmt.{decimal}
use Rattle.std.proofs.lemmas.Bool.{and_parts, false_from_ne_true, not-true}
use Rattle.qz_types.specs.Rows.{TriggerData, MemberData}
use Rattle.qz_types.specs.declared.commands.Command.{Command}
use Rattle.qz_types.specs.declared.replies.Reply.{Reply}
use Rattle.qz_types.specs.Tables.{SchedulerTables}
use Rattle.qz_types.specs.Outcomes.{accepted}
use Rattle.qz_types.specs.Words.{same_text, trigger_of, fired_of}
use Rattle.qz_model.specs.Invariant.{TablesValid}
use Rattle.qz_model.proofs.RowLaws.{each_trigger, each_fired}
use Rattle.qz_model.proofs.RowPoints.{All-weaker, count_by-none}
use Rattle.qz_laws.specs.Losses.{Lost, lost_in, is_recovery, AreForIt}
use Rattle.qz_laws.proofs.Counts.{count_by-both}
use Rattle.qz_laws.proofs.Facts.{asked_for, IsNot, Origin, EntryFacts}

-- it is in the group of recoveries
abbrev pub is_in_recovery : TriggerData → Bool
is_in_recovery t = same_text t.spec.key.group (codes "RECOVERING_JOBS")

-- a trigger of that group was stored before
abbrev pub WasStored : SchedulerTables → TriggerData → Type 0
WasStored T t = is_in_recovery t ≡ true → is_some (trigger_of t.spec.key T.triggers) ≡ true

-- Whatever rows and triggers of that group stand then come from those that stood; numbers, epochs and members as in the facts.
pub record Quiet (T : SchedulerTables) (r : Reply) (U : SchedulerTables) : Type 0 where
  pub next_entry : T.next_entry ≤ U.next_entry
  pub origins : AllByRecursion (Origin T r) U.fired
  pub triggers : AllByRecursion (WasStored T) U.triggers
  pub next_epoch : T.next_epoch ≤ U.next_epoch
  pub members : (me : MemberData) → me.epoch < T.next_epoch → AllByRecursion (IsNot me) T.members → AllByRecursion (IsNot me) U.members

-- at first each was
pub were_stored : (T : SchedulerTables) → TablesValid T → AllByRecursion (WasStored T) T.triggers
were_stored T valid =
    All-weaker (λ t. trigger_of t.spec.key T.triggers ≡ Some t) (WasStored T) T.triggers (λ t found is. ap is_some found) (each_trigger T.triggers valid.references_and_limits.ordered.triggers)

-- and each row stood
pub all_stood : (T : SchedulerTables) (r : Reply) → TablesValid T → AllByRecursion (Origin T r) T.fired
all_stood T r valid = All-weaker (λ f. fired_of f.entry T.fired ≡ Some f) (Origin T r) T.fired (λ f found. inl found) (each_fired T.fired valid.references_and_limits.ordered.fired)

-- where the members and the numbers stay
pub steady : (T : SchedulerTables) (r : Reply) (U : SchedulerTables) → U.next_entry ≡ T.next_entry → U.next_epoch ≡ T.next_epoch → U.members ≡ T.members → AllByRecursion (Origin T r) U.fired
    → AllByRecursion (WasStored T) U.triggers → Quiet T r U
steady T r U entry epoch members origins triggers = record {
  next_entry = omega (arith, entry);
  origins = origins;
  triggers = triggers;
  next_epoch = omega (arith, epoch);
  members = λ me below none. subst (AllByRecursion (IsNot me)) (sym members) none;
}

-- where the rows and the triggers stay too
pub same : (T : SchedulerTables) (r : Reply) (U : SchedulerTables) → TablesValid T → U.next_entry ≡ T.next_entry → U.next_epoch ≡ T.next_epoch → U.members ≡ T.members → U.fired ≡ T.fired → U.triggers ≡ T.triggers → Quiet T r U
same T r U valid entry epoch members fired triggers =
    steady T r U entry epoch members (subst (AllByRecursion (Origin T r)) (sym fired) (all_stood T r valid)) (subst (AllByRecursion (WasStored T)) (sym triggers) (were_stored T valid))

-- the tables of an accepted outcome
pub accepted_quiet : (T U T' : SchedulerTables) (s r : Reply) → accepted U s ≡ accepted T' r → Quiet T s U → Quiet T r T'
accepted_quiet T U T' s r is quiet =
    let tables : U ≡ T' = cc in
    let reply : s ≡ r = cc in
    subst (λ (q : Reply). Quiet T q T') reply (subst (λ (V : SchedulerTables). Quiet T s V) tables quiet)

-- a trigger that was stored is no new recovery
pub none_new : (T : SchedulerTables) (number : ℕ) (t : TriggerData) → WasStored T t → (not (is_some (trigger_of t.spec.key T.triggers)) && is_recovery number t) ≡ false
unfolding is_recovery
none_new T number t stored = false_from_ne_true (not (is_some (trigger_of t.spec.key T.triggers)) && is_recovery number t) (λ both.
    let parts = and_parts (not (is_some (trigger_of t.spec.key T.triggers))) (is_recovery number t) both in
    let absent : is_some (trigger_of t.spec.key T.triggers) ≡ false = not-true (is_some (trigger_of t.spec.key T.triggers)) parts.0 in
    let found : is_some (trigger_of t.spec.key T.triggers) ≡ true = stored (and_parts (is_in_recovery t) (ends_with nat_eq t.spec.key.name (95 ∷ decimal number)) parts.1).0 in
    absurd (cc))

-- so the law's facts hold
pub quiet_facts : (T : SchedulerTables) (r : Reply) (U : SchedulerTables) (c : Command) → lost_in T c ≡ [] → Quiet T r U → EntryFacts T c r U
quiet_facts T r U c nothing quiet = record {
  next_entry = quiet.next_entry;
  origins = quiet.origins;
  gone = subst (AllByRecursion (λ (l : Lost). fired_of l.row.entry U.fired ≡ None)) (sym nothing) tt;
  recovers = λ number small.
      count_by-both (is_recovery number) (λ t. not (is_some (trigger_of t.spec.key T.triggers))) U.triggers
      ∙ count_by-none (λ t. not (is_some (trigger_of t.spec.key T.triggers)) && is_recovery number t) U.triggers
      (All-weaker (WasStored T) (λ t. (not (is_some (trigger_of t.spec.key T.triggers)) && is_recovery number t) ≡ false) U.triggers (none_new T number) quiet.triggers)
      ∙ sym (ap (count_by (asked_for number)) nothing);
  faithful = subst (AllByRecursion (AreForIt T U)) (sym nothing) tt;
  next_epoch = quiet.next_epoch;
  members = quiet.members;
}
