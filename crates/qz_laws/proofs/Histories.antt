-- The law on lost executions over a history, from what each accepted transaction does.
use Rattle.std.proofs.Common.{◌≡◌, ℕ, ◌+◌, ◌<◌, ◌≤◌, ◌^◌, ◌==◌, true, false, cond, ◌&&◌, List, [], ◌∷◌, count_by, None, IsTrue, refl, sym, ◌∙◌, subst, arith, if◌then◌else◌}
use Rattle.std.specs.List.{AllByRecursion, list_any}
use Rattle.std.proofs.lemmas.Bool.{eqb-true, eq-eqb, and_parts, false_from_ne_true}
use Rattle.qz_types.specs.Entries.{EntryData, is_entry}
use Rattle.qz_types.specs.declared.commands.Command.{Command}
use Rattle.qz_types.specs.declared.replies.Reply.{Reply}
use Rattle.qz_types.specs.Tables.{SchedulerTables}
use Rattle.qz_types.specs.Outcomes.{Outcome, accepted, refused, IsAccepted}
use Rattle.qz_types.specs.Words.{fired_of}
use Rattle.qz_model.specs.History.{tables_left, onto_replies, IsLegalFrom}
use Rattle.qz_model.specs.Invariant.{TablesValid}
use Rattle.qz_model.specs.Transaction.{transaction}
use Rattle.qz_model.proofs.Histories.{valid-left}
use Rattle.qz_model.proofs.RowLaws.{All-fired_of}
use Rattle.qz_model.proofs.RowPoints.{All-weaker, All-both, All-none, count_by-cons, count_by-none, none_from_count}
use Rattle.qz_laws.specs.Losses.{Lost, lost_in, lost_from, is_lost, recoveries_in, recoveries_from, AreForIt, IsOneIfAsked, RecoversAtOnce, AreExact}
use Rattle.qz_laws.proofs.Counts.{count_by-append, count_by-fewer, one_that_passes, All-append}
use Rattle.qz_laws.proofs.Entries.{facts}
use Rattle.qz_laws.proofs.Facts.{asked_for, EntryFacts, no_row_again, Stood, stood, once}

-- each entry is valid
abbrev pub AreValid : List EntryData → Type 0
AreValid es = AllByRecursion (λ e. IsTrue (is_entry e)) es

-- Lists of lost executions.

-- a lost one is counted where it asked, and no other has its entry number
abbrev IsLostOnce : List Lost → Lost → Type 0
IsLostOnce ls = IsOneIfAsked (λ number. count_by (asked_for number) ls)

-- those that asked are no more than all
no_more_asked : (number : ℕ) (ls : List Lost) → count_by (asked_for number) ls ≤ count_by (is_lost number) ls
no_more_asked number ls = count_by-fewer (asked_for number) (is_lost number) ls (λ l both. (and_parts l.asked (number == l.row.entry) both).1)

head_once : (l : Lost) (ls : List Lost) → count_by (is_lost l.row.entry) ls ≡ 0 → IsLostOnce (l ∷ ls) l
head_once l ls none =
    let fewer = no_more_asked l.row.entry ls in
    rw (count_by-cons (asked_for l.row.entry) l ls, eq-eqb l.row.entry l.row.entry refl)
    (elim (l.asked) as (λ b. cond (b && true) 1 0 + count_by (asked_for l.row.entry) ls ≡ (if b then 1 else 0)) [ true ↦ omega (arith, none, fewer) | false ↦ omega (arith, none, fewer) ])

tail_once : (k l : Lost) (ls : List Lost) → (k.row.entry == l.row.entry) ≡ false → IsLostOnce ls l → IsLostOnce (k ∷ ls) l
tail_once k l ls other is =
    let differ : (l.row.entry == k.row.entry) ≡ false = false_from_ne_true (l.row.entry == k.row.entry) (λ same. let also : (k.row.entry == l.row.entry) ≡ true = eq-eqb k.row.entry l.row.entry (sym (eqb-true l.row.entry k.row.entry same)) in absurd (cc)) in
    rw (count_by-cons (asked_for l.row.entry) k ls, differ) (elim (k.asked) as (λ b. cond (b && false) 1 0 + count_by (asked_for l.row.entry) ls ≡ (if l.asked then 1 else 0)) [ true ↦ omega (arith, is) | false ↦ omega (arith, is) ])

-- where no entry number comes twice, each that asked is counted once
each_once : (ls : List Lost) → ((number : ℕ) → count_by (is_lost number) ls ≤ 1) → AllByRecursion (IsLostOnce ls) ls
each_once [] apart = tt
each_once (l ∷ ls) apart =
    let no_more : count_by (is_lost l.row.entry) ls ≡ 0 =
    let all : cond (l.row.entry == l.row.entry) 1 0 + count_by (is_lost l.row.entry) ls ≤ 1 = subst (λ n. n ≤ 1) (count_by-cons (is_lost l.row.entry) l ls) (apart l.row.entry) in
    let own : 1 + count_by (is_lost l.row.entry) ls ≤ 1 = subst (λ b. cond b 1 0 + count_by (is_lost l.row.entry) ls ≤ 1) (eq-eqb l.row.entry l.row.entry refl) all in
    omega arith in (
      head_once l ls no_more,
      All-both (λ k. is_lost l.row.entry k ≡ false) (IsLostOnce ls) (IsLostOnce (l ∷ ls)) ls (λ k other is. tail_once l k ls other is)
          (none_from_count (is_lost l.row.entry) ls no_more)
          (each_once ls (λ number. let all : cond (number == l.row.entry) 1 0 + count_by (is_lost number) ls ≤ 1 = subst (λ n. n ≤ 1) (count_by-cons (is_lost number) l ls) (apart number) in omega arith)),
    )

-- what an accepted entry does, with its reply
abbrev pub FactsWithReply : SchedulerTables → EntryData → Outcome → Type 0
FactsWithReply T e o = (r : Reply) × ((rs : List Reply) → onto_replies o rs ≡ r ∷ rs) × EntryFacts T e.command r (tables_left T o)

facts_at : (T : SchedulerTables) (e : EntryData) (o : Outcome) → TablesValid T → IsAccepted o → transaction T e ≡ o → FactsWithReply T e o
facts_at T e (accepted T' r) valid is way = (r, λ rs. refl, facts T T' e r valid way)
facts_at T e (refused x) valid is way = absurd is

pub facts_left : (T : SchedulerTables) (e : EntryData) → TablesValid T → IsAccepted (transaction T e) → FactsWithReply T e (transaction T e)
facts_left T e valid is = facts_at T e (transaction T e) valid is refl

-- an entry number that was given and has no row is lost no more
lost_no_more : (T : SchedulerTables) (es : List EntryData) (number : ℕ) → TablesValid T → AreValid es → IsLegalFrom T es → number < T.next_entry → fired_of number T.fired ≡ None
    → count_by (is_lost number) (lost_from T es) ≡ 0
lost_no_more T [] number valid good legal below none = refl
lost_no_more T (e ∷ es) number valid good legal below none =
    let f = (facts_left T e valid legal.0).2 in
    let here : count_by (is_lost number) (lost_in T e.command) ≡ 0 =
    count_by-none (is_lost number) (lost_in T e.command)
    (All-weaker (Stood T) (λ l. is_lost number l ≡ false) (lost_in T e.command)
    (λ l found. false_from_ne_true (is_lost number l) (λ same. let gone : fired_of l.row.entry T.fired ≡ None = subst (λ n. fired_of n T.fired ≡ None) (eqb-true number l.row.entry same) none in absurd (cc)))
    (stood T e.command valid)) in
    let later : count_by (is_lost number) (lost_from (tables_left T (transaction T e)) es) ≡ 0 =
    lost_no_more (tables_left T (transaction T e)) es number (valid-left T e good.0 valid) good.1 legal.1 (omega (arith, f.next_entry)) (no_row_again T (tables_left T (transaction T e)) (facts_left T e valid legal.0).0 number f.origins below none) in
    count_by-append (is_lost number) (lost_in T e.command) (lost_from (tables_left T (transaction T e)) es) ∙ omega arith

-- an execution is lost at most once
lost_once : (T : SchedulerTables) (es : List EntryData) (number : ℕ) → TablesValid T → AreValid es → IsLegalFrom T es → count_by (is_lost number) (lost_from T es) ≤ 1
lost_once T [] number valid good legal = omega arith
lost_once T (e ∷ es) number valid good legal =
    let f = (facts_left T e valid legal.0).2 in
    let all = count_by-append (is_lost number) (lost_in T e.command) (lost_from (tables_left T (transaction T e)) es) in
    elim (list_any (is_lost number) (lost_in T e.command)) as (λ b. list_any (is_lost number) (lost_in T e.command) ≡ b → count_by (is_lost number) (lost_from T (e ∷ es)) ≤ 1) [
      | true ↦ λ some.
          let l = one_that_passes (λ l. Stood T l × (fired_of l.row.entry (tables_left T (transaction T e)).fired ≡ None)) (is_lost number) (lost_in T e.command)
          (All-both (Stood T) (λ l. fired_of l.row.entry (tables_left T (transaction T e)).fired ≡ None) (λ l. Stood T l × (fired_of l.row.entry (tables_left T (transaction T e)).fired ≡ None)) (lost_in T e.command)
          (λ l was gone. (was, gone)) (stood T e.command valid) f.gone) some in
          let same : number ≡ l.0.row.entry = eqb-true number l.0.row.entry l.1 in
          let below : l.0.row.entry < T.next_entry = All-fired_of (λ g. g.entry < T.next_entry) l.0.row.entry l.0.row T.fired valid.fresh.fired l.2.0 in
          let later : count_by (is_lost number) (lost_from (tables_left T (transaction T e)) es) ≡ 0 =
          lost_no_more (tables_left T (transaction T e)) es number (valid-left T e good.0 valid) good.1 legal.1 (omega (arith, f.next_entry)) (subst (λ n. fired_of n (tables_left T (transaction T e)).fired ≡ None) (sym same) l.2.1) in
          omega (arith, once T e.command number valid, all)
      | false ↦ λ none.
          let here : count_by (is_lost number) (lost_in T e.command) ≡ 0 = count_by-none (is_lost number) (lost_in T e.command) (All-none (is_lost number) (lost_in T e.command) none) in
          omega (arith, all, lost_once (tables_left T (transaction T e)) es number (valid-left T e good.0 valid) good.1 legal.1)
    ] refl

-- as many recoveries are added as there are losses that asked
recoveries_exact : (T : SchedulerTables) (es : List EntryData) (number : ℕ) → TablesValid T → AreValid es → IsLegalFrom T es → number < 2 ^ 64
    → recoveries_from T es number ≡ count_by (asked_for number) (lost_from T es)
recoveries_exact T [] number valid good legal small = refl
recoveries_exact T (e ∷ es) number valid good legal small =
    let f = (facts_left T e valid legal.0).2 in
    omega (
      arith,
      count_by-append (asked_for number) (lost_in T e.command) (lost_from (tables_left T (transaction T e)) es),
      f.recovers number small,
      recoveries_exact (tables_left T (transaction T e)) es number (valid-left T e good.0 valid) good.1 legal.1 small,
    )

-- the entry numbers that are lost are small
abbrev IsSmall : Lost → Type 0
IsSmall l = l.row.entry < 2 ^ 64

stood_small : (T : SchedulerTables) (c : Command) → TablesValid T → AllByRecursion IsSmall (lost_in T c)
stood_small T c valid =
    All-weaker (Stood T) IsSmall (lost_in T c)
    (λ l found. let below : l.row.entry < T.next_entry = All-fired_of (λ g. g.entry < T.next_entry) l.row.entry l.row T.fired valid.fresh.fired found in omega (arith, valid.references_and_limits.limits.next_entry))
    (stood T c valid)

lost_small : (T : SchedulerTables) (es : List EntryData) → TablesValid T → AreValid es → IsLegalFrom T es → AllByRecursion IsSmall (lost_from T es)
lost_small T [] valid good legal = tt
lost_small T (e ∷ es) valid good legal =
    All-append IsSmall (lost_in T e.command) (lost_from (tables_left T (transaction T e)) es) (stood_small T e.command valid)
    (lost_small (tables_left T (transaction T e)) es (valid-left T e good.0 valid) good.1 legal.1)

-- each entry recovers by itself what it loses
at_once : (T : SchedulerTables) (es : List EntryData) → TablesValid T → AreValid es → IsLegalFrom T es → RecoversAtOnce T es
at_once T [] valid good legal = tt
at_once T (e ∷ es) valid good legal =
    let f = (facts_left T e valid legal.0).2 in
    let counted : AllByRecursion (IsOneIfAsked (recoveries_in T e)) (lost_in T e.command) =
    All-both IsSmall (IsLostOnce (lost_in T e.command)) (IsOneIfAsked (recoveries_in T e)) (lost_in T e.command) (λ l small is. f.recovers l.row.entry small ∙ is)
    (stood_small T e.command valid)
    (each_once (lost_in T e.command) (λ number. once T e.command number valid)) in (
      All-both (IsOneIfAsked (recoveries_in T e)) (AreForIt T (tables_left T (transaction T e))) (λ l. IsOneIfAsked (recoveries_in T e) l × AreForIt T (tables_left T (transaction T e)) l) (lost_in T e.command) (λ l one for_it. (one, for_it)) counted f.faithful,
      at_once (tables_left T (transaction T e)) es (valid-left T e good.0 valid) good.1 legal.1,
    )

pub exact : (T : SchedulerTables) (es : List EntryData) → TablesValid T → AreValid es → IsLegalFrom T es → AreExact T es
exact T es valid good legal = record {
  once = λ number. lost_once T es number valid good legal;
  yields = All-both IsSmall (IsLostOnce (lost_from T es)) (IsOneIfAsked (recoveries_from T es)) (lost_from T es) (λ l small is. recoveries_exact T es l.row.entry valid good legal small ∙ is)
      (lost_small T es valid good legal)
      (each_once (lost_from T es) (λ number. lost_once T es number valid good legal));
  at_once = at_once T es valid good legal;
  no_others = λ number small none. omega (
    arith,
    recoveries_exact T es number valid good legal small,
    no_more_asked number (lost_from T es),
  );
}
