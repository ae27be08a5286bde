-- What one accepted transaction does to executions and recoveries, as the law needs it, and what each command loses.
use Rattle.std.proofs.Common.{◌≡◌, ◌⊎◌, ⊎_elim, ℕ, ◌<◌, ◌≤◌, ◌^◌, ◌==◌, Bool, true, false, ◌&&◌, map, count_by, Option, Some, None, is_some, sym, ap, subst, arith}
use Rattle.std.specs.List.{AllByRecursion}
use Rattle.std.specs.Ordering.{nat_cmp}
use Rattle.std.proofs.lemmas.Bool.{and_parts, eqb-true, false_from_ne_true}
use Rattle.std.proofs.lemmas.Cmp.{nat_cmp_total}
use Rattle.qz_types.specs.Rows.{MemberData, FiredData}
use Rattle.qz_types.specs.declared.commands.Command.{Command}
use Rattle.qz_types.specs.declared.commands.Command.TheVariants.{Join, Recover}
use Rattle.qz_types.specs.declared.replies.Reply.{Reply}
use Rattle.qz_types.specs.Tables.{SchedulerTables}
use Rattle.qz_types.specs.Words.{member_of, fired_of}
use Rattle.qz_model.specs.Invariant.{TablesValid}
use Rattle.qz_model.proofs.LookUps.{count_of_id}
use Rattle.qz_model.proofs.RowLaws.{same_number, each_fired, fired_of-none}
use Rattle.qz_model.proofs.RowPoints.{All-filter, All-weaker}
use Rattle.qz_laws.specs.Losses.{IsBegunBy, is_executing, is_held_by, executions_of, Lost, lost_as, lost_in, is_lost, is_recovery, added, AreForIt}
use Rattle.qz_laws.proofs.Counts.{count_by-both, count_by-fewer, count_by-mapped, All-mapped}

-- the lost execution asked, and had this entry number
abbrev pub asked_for : ℕ → Lost → Bool
asked_for number l = l.asked && (number == l.row.entry)

-- it isn't this member
abbrev pub IsNot : MemberData → MemberData → Type 0
IsNot me m = m ≡ me → ⊥

-- Where the rows come from that stand after a transaction.

-- it is new, and acquired
pub record IsNew (T : SchedulerTables) (f : FiredData) : Type 0 where
  pub acquired : is_executing f.state ≡ false
  pub above : T.next_entry ≤ f.entry

-- its execution begins
pub record Begins (T : SchedulerTables) (r : Reply) (f : FiredData) : Type 0 where
  pub row : is_some (fired_of f.entry T.fired) ≡ true
  pub reply : IsBegunBy f r

-- it stood, or is one of these
abbrev pub Origin : SchedulerTables → Reply → FiredData → Type 0
Origin T r f = (fired_of f.entry T.fired ≡ Some f) ⊎ (IsNew T f ⊎ Begins T r f)

-- so an entry number that was given and has no row gets none
pub no_row_again : (T U : SchedulerTables) (r : Reply) (number : ℕ) → AllByRecursion (Origin T r) U.fired → number < T.next_entry → fired_of number T.fired ≡ None → fired_of number U.fired ≡ None
no_row_again T U r number origins below none =
    fired_of-none number U.fired
    (All-weaker (Origin T r) (λ f. (number == f.entry) ≡ false) U.fired
    (λ f origin. false_from_ne_true (number == f.entry) (λ is.
    let same : number ≡ f.entry = eqb-true number f.entry is in
    let absent : fired_of f.entry T.fired ≡ None = subst (λ n. fired_of n T.fired ≡ None) same none in
    ⊎_elim (λ stood. absurd (cc)) (λ other. ⊎_elim (λ new. absurd (omega (arith, new.above))) (λ begun. let wrong : is_some (fired_of f.entry T.fired) ≡ false = ap is_some absent in let right = begun.row in absurd (cc)) other) origin))
    origins)

-- Entry numbers and epochs never come again, a lost execution leaves no row, and each one that asked adds one recovery, which
-- is for it.
pub record EntryFacts (T : SchedulerTables) (c : Command) (r : Reply) (U : SchedulerTables) : Type 0 where
  pub next_entry : T.next_entry ≤ U.next_entry
  pub origins : AllByRecursion (Origin T r) U.fired
  pub gone : AllByRecursion (λ l. fired_of l.row.entry U.fired ≡ None) (lost_in T c)
  pub recovers : (number : ℕ) → number < 2 ^ 64 → count_by (is_recovery number) (added T U) ≡ count_by (asked_for number) (lost_in T c)
  pub faithful : AllByRecursion (AreForIt T U) (lost_in T c)
  pub next_epoch : T.next_epoch ≤ U.next_epoch
  pub members : (me : MemberData) → me.epoch < T.next_epoch → AllByRecursion (IsNot me) T.members → AllByRecursion (IsNot me) U.members

-- the lost execution stood in the tables
abbrev pub Stood : SchedulerTables → Lost → Type 0
Stood T l = fired_of l.row.entry T.fired ≡ Some l.row

stood_of : (T : SchedulerTables) (o : Option MemberData) → TablesValid T → AllByRecursion (Stood T) (map (lost_as T) (executions_of o T.fired))
stood_of T None valid = tt
stood_of T (Some member) valid =
    All-mapped (Stood T) (lost_as T) (executions_of (Some member) T.fired)
    (All-filter (λ f. fired_of f.entry T.fired ≡ Some f) (λ f. is_executing f.state && is_held_by member f) T.fired
    (All-weaker (λ f. fired_of f.entry T.fired ≡ Some f) (λ f. (is_executing f.state && is_held_by member f) ≡ true → fired_of f.entry T.fired ≡ Some f) T.fired (λ f found is. found)
    (each_fired T.fired valid.references_and_limits.ordered.fired)))

pub stood : (T : SchedulerTables) (c : Command) → TablesValid T → AllByRecursion (Stood T) (lost_in T c)
stood T (Recover node) valid = stood_of T (member_of node T.members) valid
stood T (Join node) valid = stood_of T (member_of node T.members) valid
stood T c valid = tt

once_of : (T : SchedulerTables) (o : Option MemberData) (number : ℕ) → TablesValid T → count_by (is_lost number) (map (lost_as T) (executions_of o T.fired)) ≤ 1
once_of T None number valid = omega arith
once_of T (Some member) number valid =
    omega (
      arith,
      count_by-mapped (is_lost number) (lost_as T) (executions_of (Some member) T.fired),
      count_by-both (λ f. number == f.entry) (λ f. is_executing f.state && is_held_by member f) T.fired,
      count_by-fewer (λ f. (is_executing f.state && is_held_by member f) && (number == f.entry)) (λ f. number == f.entry) T.fired (λ f both. (and_parts (is_executing f.state && is_held_by member f) (number == f.entry) both).1),
      count_of_id nat_cmp (λ r. r.entry) nat_cmp_total (λ f. number == f.entry) number T.fired (λ f. sym (same_number number f.entry)) valid.references_and_limits.ordered.fired,
    )

-- a command loses no execution twice
pub once : (T : SchedulerTables) (c : Command) (number : ℕ) → TablesValid T → count_by (is_lost number) (lost_in T c) ≤ 1
once T (Recover node) number valid = once_of T (member_of node T.members) number valid
once T (Join node) number valid = once_of T (member_of node T.members) number valid
once T c number valid = omega arith
