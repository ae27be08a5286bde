-- What the first job of a class tells.
use Rattle.std.proofs.Common.{◌≡◌, inl, inr, ℕ, List, [], ◌∷◌, ◌++◌, Bool, true, false, ◌||◌, if◌then◌else◌, refl, sym, ap, ◌∙◌, subst, rules, append_assoc, append-nil}
use Rattle.std.specs.Prelude.{Option, Some, None}
use Rattle.std.specs.Cmp.Lexicographic.{bytes_decides}
use Rattle.std.specs.List.{list_any}
use Rattle.std.specs.Str.{bytes_eq}
use Rattle.qz_types.specs.declared.commands.Code.{Code}
use Rattle.qz_node.specs.declared.contexts.JobContext.{JobContext}
use Rattle.qz_node.specs.declared.contexts.Call.{Call}
use Rattle.qz_node.specs.Jobs.{JobMeaning, is_of_class, counted, TellsOneMore, IsCalled, CallsFirst, Executes}
use Rattle.qz_run.specs.declared.commands.NodeCommand.{NodeCommand}
use Rattle.qz_run.specs.declared.commands.NodeCommand.TheVariants as asks
use Rattle.qz_run.specs.Stores.{Event}
use Rattle.qz_run.specs.Laws.{context_in, Ran, RanBy, Calls}
use Rattle.qz_run.specs.JobLaw.{told, asked_for, asked_by, asked, AreTold, Grows}

true_false : true ≡ false → ⊥
true_false is = search rules

same_class : (a b : List ℕ) → bytes_eq a b ≡ true → a ≡ b
same_class a b is = (bytes_decides a b).0 is

-- one call of the class
abbrev Tells : Call → Bool → Option (List Call) → Option (List Call) → Type 0
Tells call true before after = TellsOneMore call before after
Tells call false before after = after ≡ before

chosen : (context : JobContext) (answer : Code) (b : Bool) (job new : JobMeaning) (rest : Option (List Call)) → IsCalled context answer job new
    → Tells (record { context = context; code = answer }) b (if b then job.calls else rest) (if b then new.calls else rest)
chosen context answer true job new rest called = called.told
chosen context answer false job new rest called = refl

-- the called job stands here
step_here : (context : JobContext) (answer : Code) (b c d : Bool) (job new : JobMeaning) (rest : Option (List Call)) → c ≡ b → d ≡ b → IsCalled context answer job new
    → Tells (record { context = context; code = answer }) b (if c then job.calls else rest) (if d then new.calls else rest)
step_here context answer b c d job new rest is_c is_d called = rw (is_c, is_d) (chosen context answer b job new rest called)

-- it stands further on, so this one has another class
step_on : (context : JobContext) (answer : Code) (b c : Bool) (job : JobMeaning) (before after : Option (List Call)) → (c ≡ true → b ≡ false)
    → Tells (record { context = context; code = answer }) b before after
    → Tells (record { context = context; code = answer }) b (if c then job.calls else before) (if c then job.calls else after)
step_on context answer b true job before after other tells = subst (λ x. Tells (record { context = context; code = answer }) x job.calls job.calls) (sym (other refl)) refl
step_on context answer b false job before after other tells = tells

not_both : (class : List ℕ) (context : JobContext) (job : JobMeaning) (b : Bool) → bytes_eq context.job.class class ≡ b → bytes_eq job.class context.job.class ≡ false → bytes_eq job.class class ≡ true → b ≡ false
not_both class context job true is apart here =
    let e = same_class context.job.class class is in
    absurd (true_false (sym here ∙ ap (λ k. bytes_eq job.class k) (sym e) ∙ apart))
not_both class context job false is apart here = refl

neither : (a b : Bool) → (a || b) ≡ false → (a ≡ false) × (b ≡ false)
neither true b is = absurd (true_false is)
neither false b is = (refl, is)

first_tells : (context : JobContext) (answer : Code) (class : List ℕ) (b : Bool) → bytes_eq context.job.class class ≡ b → (others : List JobMeaning) (job new : JobMeaning) (further : List JobMeaning)
    → list_any (is_of_class context.job.class) others ≡ false → bytes_eq job.class context.job.class ≡ true → IsCalled context answer job new
    → Tells (record { context = context; code = answer }) b (told class (others ++ job ∷ further)) (told class (others ++ new ∷ further))
first_tells context answer class b is [] job new further first here called =
    let e = same_class job.class context.job.class here in
    step_here context answer b (bytes_eq job.class class) (bytes_eq new.class class) job new (told class further)
    (ap (λ k. bytes_eq k class) e ∙ is) (ap (λ k. bytes_eq k class) (called.class ∙ e) ∙ is) called
first_tells context answer class b is (o ∷ others) job new further first here called =
    let n = neither (bytes_eq o.class context.job.class) (list_any (is_of_class context.job.class) others) first in
    step_on context answer b (bytes_eq o.class class) o (told class (others ++ job ∷ further)) (told class (others ++ new ∷ further)) (not_both class context o b is n.0)
    (first_tells context answer class b is others job new further n.1 here called)

-- where no job has the class nothing is told
none_chosen : (b c : Bool) (calls rest : Option (List Call)) → (b || c) ≡ false → (c ≡ false → rest ≡ None) → (if b then calls else rest) ≡ None
none_chosen true c calls rest is goes = absurd (true_false is)
none_chosen false c calls rest is goes = goes is

none_told : (class : List ℕ) (jobs : List JobMeaning) → list_any (is_of_class class) jobs ≡ false → told class jobs ≡ None
none_told class [] is = refl
none_told class (job ∷ jobs) is = none_chosen (bytes_eq job.class class) (list_any (is_of_class class) jobs) job.calls (told class jobs) is (none_told class jobs)

-- the calls have grown by these, and by one more
more_told : (xs : List (JobContext × Code)) (made : List Call) (context : JobContext) (code answer : Code) → code ≡ counted context.refires answer → AreTold xs made → AreTold (xs ++ (context, code) ∷ []) (made ++ record { context = context; code = answer } ∷ [])
more_told [] [] context code answer counts are = (refl, counts, tt)
more_told [] (m ∷ made) context code answer counts are = absurd are
more_told (x ∷ xs) [] context code answer counts are = absurd are
more_told (x ∷ xs) (m ∷ made) context code answer counts are = (are.0, are.1, more_told xs made context code answer counts are.2)

grows_one : (xs : List (JobContext × Code)) (context : JobContext) (code answer : Code) (before mid after : Option (List Call)) → code ≡ counted context.refires answer → Grows xs before mid → TellsOneMore (record { context = context; code = answer }) mid after → Grows (xs ++ (context, code) ∷ []) before after
grows_one xs context code answer before mid None counts grows tells = tt
grows_one xs context code answer before None (Some after) counts grows tells = search rules
grows_one xs context code answer None (Some mid) (Some after) counts grows tells = absurd grows
grows_one xs context code answer (Some before) (Some mid) (Some after) counts grows tells = record {
  made = grows.made ++ record { context = context; code = answer } ∷ [];
  calls = tells ∙ ap (λ (l : List Call). l ++ record { context = context; code = answer } ∷ []) grows.calls ∙ append_assoc before grows.made (record { context = context; code = answer } ∷ []);
  told = more_told xs grows.made context code answer counts grows.told;
}

grows_same : (xs : List (JobContext × Code)) (before mid after : Option (List Call)) → after ≡ mid → Grows xs before mid → Grows (xs ++ []) before after
grows_same xs before mid after is grows = subst (λ l. Grows l before after) (sym (append-nil xs)) (subst (λ o. Grows xs before o) (sym is) grows)

grows_by : (b : Bool) (xs : List (JobContext × Code)) (context : JobContext) (code answer : Code) (before mid after : Option (List Call)) → code ≡ counted context.refires answer → Grows xs before mid → Tells (record { context = context; code = answer }) b mid after
    → Grows (xs ++ (if b then (context, code) ∷ [] else [])) before after
grows_by true xs context code answer before mid after counts grows tells = grows_one xs context code answer before mid after counts grows tells
grows_by false xs context code answer before mid after counts grows tells = grows_same xs before mid after tells grows

grows_none : (b : Bool) (xs : List (JobContext × Code)) (context : JobContext) (code : Code) (before mid after : Option (List Call)) → after ≡ mid → (b ≡ true → mid ≡ None) → Grows xs before mid
    → Grows (xs ++ (if b then (context, code) ∷ [] else [])) before after
grows_none true xs context code before mid after is none grows = subst (λ o. Grows (xs ++ (context, code) ∷ []) before o) (sym (is ∙ none refl)) tt
grows_none false xs context code before mid after is none grows = grows_same xs before mid after is grows

first_told : (class : List ℕ) (context : JobContext) (code : Code) (mid after : List JobMeaning) (is : CallsFirst context code mid after)
    → Tells (record { context = context; code = is.counts.answer }) (bytes_eq context.job.class class) (told class mid) (told class after)
first_told class context code mid after is =
    subst (λ (js : List JobMeaning). Tells (record { context = context; code = is.counts.answer }) (bytes_eq context.job.class class) (told class js) (told class after)) (sym is.jobs_are)
    (subst (λ (js : List JobMeaning). Tells (record { context = context; code = is.counts.answer }) (bytes_eq context.job.class class) (told class (is.others ++ is.job ∷ is.further)) (told class js)) (sym is.after_are)
    (first_tells context is.counts.answer class (bytes_eq context.job.class class) refl is.others is.job is.called is.further is.is_first is.is_of is.counts.called))

executes_grow : (class : List ℕ) (xs : List (JobContext × Code)) (context : JobContext) (code : Code) (start mid after : List JobMeaning) → Executes context code mid after → Grows xs (told class start) (told class mid)
    → Grows (xs ++ (if bytes_eq context.job.class class then (context, code) ∷ [] else [])) (told class start) (told class after)
executes_grow class xs context code start mid after (inl is) grows =
    grows_by (bytes_eq context.job.class class) xs context code is.counts.answer (told class start) (told class mid) (told class after) is.counts.counts grows
    (first_told class context code mid after is)
executes_grow class xs context code start mid after (inr none) grows =
    grows_none (bytes_eq context.job.class class) xs context code (told class start) (told class mid) (told class after) (ap (told class) none.same)
    (λ same. none_told class mid (subst (λ k. list_any (is_of_class k) mid ≡ false) (same_class context.job.class class same) none.no_job)) grows

calls_grow : (class : List ℕ) (xs : List (JobContext × Code)) (x : ℕ) (code : Code) (past : List Event) (start after : List JobMeaning) (ran : List JobMeaning → Type 0) → ((mid : List JobMeaning) → ran mid → Grows xs (told class start) (told class mid))
    → Calls x code past ran after → Grows (xs ++ asked_for class code (context_in x past)) (told class start) (told class after)
calls_grow class xs x code past start after ran goes calls =
    subst (λ o. Grows (xs ++ asked_for class code o) (told class start) (told class after)) (sym calls.told)
    (executes_grow class xs calls.context code start calls.mid after calls.executes (goes calls.mid calls.before))

one_grows : (class : List ℕ) (command : NodeCommand) (past : List Event) (start after : List JobMeaning) → ((mid : List JobMeaning) → Ran past start mid → Grows (asked class past) (told class start) (told class mid)) → RanBy command past (Ran past start) after → Grows (asked class past ++ asked_by class command past) (told class start) (told class after)
one_grows class (asks.Complete x code) past start after goes ran = calls_grow class (asked class past) x code past start after (Ran past start) goes ran
one_grows class asks.Join past start after goes ran = grows_same _ _ _ _ refl (goes after ran)
one_grows class asks.Leave past start after goes ran = grows_same _ _ _ _ refl (goes after ran)
one_grows class asks.Misfires past start after goes ran = grows_same _ _ _ _ refl (goes after ran)
one_grows class (asks.Acquire no_later) past start after goes ran = grows_same _ _ _ _ refl (goes after ran)
one_grows class (asks.Fire x) past start after goes ran = grows_same _ _ _ _ refl (goes after ran)

start_grows : (o : Option (List Call)) → Grows [] o o
start_grows None = tt
start_grows (Some calls) = record { made = []; calls = sym (append-nil calls); told = tt }

pub tells : (class : List ℕ) (log : List Event) (start after : List JobMeaning) → Ran log start after → Grows (asked class log) (told class start) (told class after)
tells class [] start after ran = subst (λ (js : List JobMeaning). Grows [] (told class start) (told class js)) (sym ran) (start_grows (told class start))
tells class (e ∷ past) start after ran = one_grows class e.command past start after (λ mid r. tells class past start mid r) ran
