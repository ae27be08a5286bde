-- The rows of the triggers that are acquired, put in one after the other.
use Rattle.std.proofs.Common.{◌≡◌, ℕ, ◌+◌, ◌<◌, ◌≤◌, ℤ, ◌+ℤ◌, List, [], ◌∷◌, map, fold, length, None, refl, sym, ap, ◌∙◌, subst, arith}
use Rattle.std.proofs.Math.Logic.{∥∥₁_elim}
use Rattle.std.proofs.Props.{props}
use Rattle.std.specs.List.{AllByRecursion, AllByRecursion-prop}
use Rattle.qz_types.specs.Rows.{TriggerData, MemberData, FiredData}
use Rattle.qz_types.specs.declared.replies.Taken.{Taken}
use Rattle.qz_types.specs.declared.replies.Reply.TheVariants as reply
use Rattle.qz_types.specs.declared.limits.TheConstants.{NUMBER_LIMIT}
use Rattle.qz_types.specs.Tables.{SchedulerTables}
use Rattle.qz_types.specs.Outcomes.{accepted, unless}
use Rattle.qz_model.specs.Acquiring.{acquire_refusal, acquired_row, next_time, with_acquired, taken_from, chosen, acquire_each, acquire}
use Rattle.qz_model.specs.Invariant.{TablesValid}
use Rattle.qz_model.specs.Membership.{node_refusal}
use Rattle.qz_model.specs.Tests.{or_refusal, stored_job}
use Rattle.qz_model.proofs.KeptAcquiring.{few_chosen, room_for}
use Rattle.qz_model.proofs.RowLaws.{fired_of-above, All-put_fired}
use Rattle.qz_model.proofs.RowPoints.{All-weaker}
use Rattle.qz_apply.proofs.Accepted.{same_outcome}
use Rattle.qz_tables.specs.Contents.{TablesData}
use Rattle.qz_acquire.specs.Choosing.{rows_from, with_row, AreNew, taken_row}
use Rattle.qz_acquire.specs.Prepared.{CanGrant}

-- what is put in is what the transaction acquires
pub granted : (me : MemberData) (T U : SchedulerTables) (ts : List TriggerData) → U.jobs ≡ T.jobs → fold with_row U (rows_from T me U.next_entry ts) ≡ fold (with_acquired me) U ts
unfolding with_acquired acquired_row
granted me T U [] jobs = refl
granted me T U (t ∷ ts) jobs =
    let same : with_row U (acquired_row U.next_entry me t (stored_job t.spec.job T.jobs)) ≡ with_acquired me U t = ap (λ js. with_row U (acquired_row U.next_entry me t (stored_job t.spec.job js))) (sym jobs) in
    ap (λ V. fold with_row V (rows_from T me (U.next_entry + 1) ts)) same ∙ granted me T (with_acquired me U t) ts jobs

-- the reply lists it
pub listed : (me : MemberData) (T : SchedulerTables) (entry : ℕ) (ts : List TriggerData) → map taken_row (rows_from T me entry ts) ≡ taken_from entry ts
unfolding acquired_row
listed me T entry [] = refl
listed me T entry (t ∷ ts) = ap (λ rows. record { entry = entry; trigger = t.spec.key; next = next_time t } ∷ rows) (listed me T (entry + 1) ts)

pub length-rows : (me : MemberData) (T : SchedulerTables) (entry : ℕ) (ts : List TriggerData) → length (rows_from T me entry ts) ≡ length ts
length-rows me T entry [] = refl
length-rows me T entry (t ∷ ts) = omega (arith, length-rows me T (entry + 1) ts)

-- each has a new entry number
new_each : (me : MemberData) (T U : SchedulerTables) (ts : List TriggerData) → AllByRecursion (λ f. f.entry < U.next_entry) U.fired → AreNew U (rows_from T me U.next_entry ts)
unfolding acquired_row
new_each me T U [] below = tt
new_each me T U (t ∷ ts) below =
    let row = acquired_row U.next_entry me t (stored_job t.spec.job T.jobs) in (
      fired_of-above U.next_entry U.fired below,
      new_each me T (with_row U row) ts
          (All-put_fired (λ f. f.entry < U.next_entry + 1) row U.fired (omega arith) (All-weaker (λ f. f.entry < U.next_entry) (λ f. f.entry < U.next_entry + 1) U.fired (λ f less. omega arith) below)),
    )

below_next : (T : SchedulerTables) → ∥ TablesValid T ∥₁ → AllByRecursion (λ f. f.entry < T.next_entry) T.fired
below_next T valid = ∥∥₁_elim valid (AllByRecursion-prop (λ f. f.entry < T.next_entry) (λ f. hlevel props) T.fired) (λ is. is.fresh.fired)

pub new_rows : (me : MemberData) (T : SchedulerTables) (ts : List TriggerData) → ∥ TablesValid T ∥₁ → AreNew T (rows_from T me T.next_entry ts)
new_rows me T ts valid = new_each me T T ts (below_next T valid)

-- the numbers and the rows that are taken stay within
pub record IsRoom (T : SchedulerTables) (count max : ℕ) : Type 0 where
  pub few : count ≤ max
  pub numbers : T.next_entry + count ≤ NUMBER_LIMIT

pub room_of_chosen : (T : SchedulerTables) (m limit : ℤ) (max : ℕ) → acquire_refusal T max ≡ None → IsRoom T (length (chosen T m limit max)) max
room_of_chosen T m limit max clear = record { few = few_chosen T m limit max; numbers = omega (arith, few_chosen T m limit max, (room_for T max clear).numbers) }

-- the rows can be put in where there is memory for them
pub can_grant : (old new : TablesData) (m limit : ℤ) (max : ℕ) (me : MemberData) (rows : List FiredData) → ∥ TablesValid old.tables ∥₁ → acquire_refusal old.tables max ≡ None → new.tables ≡ old.tables
    → rows ≡ rows_from old.tables me old.tables.next_entry (chosen old.tables m limit max) → length rows ≤ new.spare.fired → CanGrant new rows
can_grant old new m limit max me rows valid clear same these space =
    let ts = chosen old.tables m limit max in
    let within = room_of_chosen old.tables m limit max clear in
    record {
      new = subst (λ T. AreNew T rows) (sym same) (subst (AreNew old.tables) (sym these) (new_rows me old.tables ts valid));
      numbers = omega (arith, ap (λ T. T.next_entry) same, ap length these, length-rows me old.tables old.tables.next_entry ts, within.numbers);
      room = space;
    }

-- what an accepted Acquire comes to
pub outcome : (T U : SchedulerTables) (m n no_later window limit : ℤ) (max : ℕ) (me : MemberData) (rows : List FiredData) (taken : List Taken) → node_refusal T me ≡ None → acquire_refusal T max ≡ None → n ≡ m → limit ≡ (no_later +ℤ window)
    → rows ≡ rows_from T me T.next_entry (chosen T n limit max) → taken ≡ map taken_row rows → U ≡ record (fold with_row T rows) { last_moment = n } → acquire T m me no_later window max ≡ accepted U (reply.Acquired taken)
outcome T U m n no_later window limit max me rows taken clear room moment to these lists leaves =
    let ts = chosen T n limit max in
    let left : U ≡ record (fold (with_acquired me) T ts) { last_moment = n } = leaves ∙ ap (λ (V : SchedulerTables). record V { last_moment = n }) (ap (fold with_row T) these ∙ granted me T T ts refl) in
    let list : taken ≡ taken_from T.next_entry ts = lists ∙ ap (map taken_row) these ∙ listed me T T.next_entry ts in
    ap (λ x. acquire T x me no_later window max) (sym moment)
    ∙ ap (λ x. unless (or_refusal x (acquire_refusal T max)) (acquire_each T n me (chosen T n (no_later +ℤ window) max))) clear
    ∙ ap (λ x. unless x (acquire_each T n me (chosen T n (no_later +ℤ window) max))) room
    ∙ ap (λ (x : ℤ). acquire_each T n me (chosen T n x max)) (sym to)
    ∙ same_outcome U (record (fold (with_acquired me) T ts) { last_moment = n }) (reply.Acquired taken) (reply.Acquired (taken_from T.next_entry ts)) left (ap reply.Acquired list)
