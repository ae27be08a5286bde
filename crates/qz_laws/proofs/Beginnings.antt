-- Each lost execution began by a reply that handed out its job, and has that job's flag.
use Rattle.std.proofs.Common.{◌≡◌, ◌⊎◌, inl, inr, ⊎_elim, ℕ, true, false, ◌&&◌, List, [], ◌∷◌, map, Option, Some, None, sym, subst}
use Rattle.std.specs.List.{AllByRecursion}
use Rattle.std.proofs.lemmas.Bool.{and_parts}
use Rattle.qz_types.specs.Rows.{MemberData}
use Rattle.qz_types.specs.Entries.{EntryData}
use Rattle.qz_types.specs.declared.commands.Command.{Command}
use Rattle.qz_types.specs.declared.commands.Command.TheVariants.{Join, Recover}
use Rattle.qz_types.specs.declared.replies.Reply.{Reply}
use Rattle.qz_types.specs.Tables.{SchedulerTables, empty}
use Rattle.qz_types.specs.Words.{fired_of, member_of}
use Rattle.qz_model.specs.History.{tables_left, replies_from, IsLegalFrom}
use Rattle.qz_model.specs.Invariant.{TablesValid}
use Rattle.qz_model.specs.Transaction.{transaction}
use Rattle.qz_model.proofs.Histories.{valid-left}
use Rattle.qz_model.proofs.Kept.{valid-empty}
use Rattle.qz_model.proofs.RowLaws.{All-fired_of, fired_of-none}
use Rattle.qz_model.proofs.RowPoints.{All-from, All-weaker, All-both, All-filter}
use Rattle.qz_laws.specs.Losses.{is_executing, is_held_by, executions_of, Lost, lost_as, lost_in, lost_from, IsBegunByOne}
use Rattle.qz_laws.proofs.Counts.{All-append, All-mapped}
use Rattle.qz_laws.proofs.Facts.{Origin, Stood, stood}
use Rattle.qz_laws.proofs.Histories.{AreValid, facts_left}

abbrev IsExecution : Lost → Type 0
IsExecution l = is_executing l.row.state ≡ true

executing_of : (T : SchedulerTables) (o : Option MemberData) → AllByRecursion IsExecution (map (lost_as T) (executions_of o T.fired))
executing_of T None = tt
executing_of T (Some member) =
    All-mapped IsExecution (lost_as T) (executions_of (Some member) T.fired)
    (All-filter (λ f. is_executing f.state ≡ true) (λ f. is_executing f.state && is_held_by member f) T.fired
    (All-from (λ f. (is_executing f.state && is_held_by member f) ≡ true → is_executing f.state ≡ true) T.fired (λ f is. (and_parts (is_executing f.state) (is_held_by member f) is).0)))

executing_in : (T : SchedulerTables) (c : Command) → AllByRecursion IsExecution (lost_in T c)
executing_in T (Recover node) = executing_of T (member_of node T.members)
executing_in T (Join node) = executing_of T (member_of node T.members)
executing_in T c = tt

executing_from : (T : SchedulerTables) (es : List EntryData) → AllByRecursion IsExecution (lost_from T es)
executing_from T [] = tt
executing_from T (e ∷ es) = All-append IsExecution (lost_in T e.command) (lost_from (tables_left T (transaction T e)) es) (executing_in T e.command) (executing_from (tables_left T (transaction T e)) es)

-- it stood at first, or began by one of these replies
abbrev HasBegun : SchedulerTables → List Reply → Lost → Type 0
HasBegun T rs l = (fired_of l.row.entry T.fired ≡ Some l.row) ⊎ IsBegunByOne l.row rs

-- what is lost later had begun before
had_begun : (T U : SchedulerTables) (r : Reply) (rs : List Reply) (l : Lost) → AllByRecursion (Origin T r) U.fired → IsExecution l → HasBegun U rs l → HasBegun T (r ∷ rs) l
had_begun T U r rs l origins executes begun =
    ⊎_elim
    (λ found.
    ⊎_elim (λ stood. inl stood) (λ other. ⊎_elim (λ new. let idle : is_executing l.row.state ≡ false = new.acquired in absurd (cc)) (λ begins. inr (inl begins.reply)) other)
    (All-fired_of (Origin T r) l.row.entry l.row U.fired origins found))
    (λ later. inr (inr later)) begun

all_begun : (T : SchedulerTables) (es : List EntryData) → TablesValid T → AreValid es → IsLegalFrom T es → AllByRecursion (HasBegun T (replies_from T es)) (lost_from T es)
all_begun T [] valid good legal = tt
all_begun T (e ∷ es) valid good legal =
    let f = facts_left T e valid legal.0 in
    let U : SchedulerTables = tables_left T (transaction T e) in
    All-append (HasBegun T (replies_from T (e ∷ es))) (lost_in T e.command) (lost_from U es)
    (All-weaker (Stood T) (HasBegun T (replies_from T (e ∷ es))) (lost_in T e.command) (λ l found. inl found) (stood T e.command valid))
    (All-both IsExecution (HasBegun U (replies_from U es)) (HasBegun T (replies_from T (e ∷ es))) (lost_from U es)
    (λ l executes begun. subst (λ (rs : List Reply). HasBegun T rs l) (sym (f.1 (replies_from U es))) (had_begun T U f.0 (replies_from U es) l f.2.origins executes begun))
    (executing_from U es) (all_begun U es (valid-left T e good.0 valid) good.1 legal.1))

none_at_first : (entry version : ℕ) → fired_of entry (empty version).fired ≡ None
none_at_first entry version = fired_of-none entry [] tt

-- in a new store nothing stands at first
pub begun_by_replies : (version : ℕ) (es : List EntryData) → AreValid es → IsLegalFrom (empty version) es
    → AllByRecursion (λ l. IsBegunByOne l.row (replies_from (empty version) es)) (lost_from (empty version) es)
begun_by_replies version es good legal =
    All-weaker (HasBegun (empty version) (replies_from (empty version) es)) (λ l. IsBegunByOne l.row (replies_from (empty version) es)) (lost_from (empty version) es)
    (λ l begun. ⊎_elim (λ found. let none = none_at_first l.row.entry version in absurd (cc)) (λ is. is) begun)
    (all_begun (empty version) es (valid-empty version) good legal)
