-- Rows that are put in one by one.
use Rattle.qz_types.specs.Tables.{SchedulerTables}
use Rattle.std.proofs.Common.{◌≡◌, ℕ, ◌+◌, List, [], ◌∷◌, ◌++◌, length, refl, sym, ap, ◌∙◌, arith, append_assoc, append-nil}

pub pushed : {R : Type 0} (all xs left rest : List R) (r : R) → xs ++ left ≡ all → left ≡ r ∷ rest → (xs ++ r ∷ []) ++ rest ≡ all
pushed {R} all xs left rest r parts is = append_assoc xs (r ∷ []) rest ∙ ap (λ (l : List R). xs ++ l) (sym is) ∙ parts

pub shorter : {R : Type 0} (left rest : List R) (r : R) (n m : ℕ) → n ≡ length left → left ≡ r ∷ rest → m + 1 ≡ n → m ≡ length rest
shorter left rest r n m long is step = omega (arith, long, step, ap length is)

pub none_left : {R : Type 0} (l : List R) → length l ≡ 0 → l ≡ []
none_left [] is = refl
none_left (x ∷ l) is = absurd (omega (arith, is))

pub all_taken : {R : Type 0} (all xs left : List R) (n : ℕ) → n ≡ length left → n ≡ 0 → xs ++ left ≡ all → xs ≡ all
all_taken {R} all xs left n long none parts = sym (append-nil xs) ∙ ap (λ (l : List R). xs ++ l) (sym (none_left left (sym long ∙ none))) ∙ parts

-- kinds that were filled one after the other, and then the numbers
pub all_filled : (P empty with_jobs with_triggers with_calendars with_zones with_groups with_job_groups with_members with_fired with_numbers : SchedulerTables) → with_jobs ≡ record empty { jobs = P.jobs } → with_triggers ≡ record with_jobs { triggers = P.triggers } → with_calendars ≡ record with_triggers { calendars = P.calendars } → with_zones ≡ record with_calendars { zones = P.zones }
    → with_groups ≡ record with_zones { paused_groups = P.paused_groups } → with_job_groups ≡ record with_groups { paused_job_groups = P.paused_job_groups } → with_members ≡ record with_job_groups { members = P.members } → with_fired ≡ record with_members { fired = P.fired }
    → with_numbers ≡ record with_fired { next_entry = P.next_entry; next_epoch = P.next_epoch; threshold = P.threshold; last_moment = P.last_moment; horizon = P.horizon } → with_numbers ≡ P
all_filled P empty with_jobs with_triggers with_calendars with_zones with_groups with_job_groups with_members with_fired with_numbers jobs_are triggers_are calendars_are zones_are groups_are job_groups_are members_are fired_are numbers_are =
    numbers_are
    ∙ ap (λ (T : SchedulerTables). record T { next_entry = P.next_entry; next_epoch = P.next_epoch; threshold = P.threshold; last_moment = P.last_moment; horizon = P.horizon })
    (fired_are ∙ ap (λ (T : SchedulerTables). record T { fired = P.fired }) (members_are ∙ ap (λ (T : SchedulerTables). record T { members = P.members }) (job_groups_are ∙ ap (λ (T : SchedulerTables). record T { paused_job_groups = P.paused_job_groups }) (groups_are ∙ ap (λ (T : SchedulerTables). record T { paused_groups = P.paused_groups }) (zones_are ∙ ap (λ (T : SchedulerTables). record T { zones = P.zones }) (calendars_are ∙ ap (λ (T : SchedulerTables). record T { calendars = P.calendars }) (triggers_are ∙ ap (λ (T : SchedulerTables). record T { triggers = P.triggers }) jobs_are)))))))
