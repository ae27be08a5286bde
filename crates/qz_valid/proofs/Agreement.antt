-- Executing rows agree on concurrency, from the tests of rows and back.
use Rattle.std.proofs.Common.{◌≡◌, Bool, true, false, not, ◌&&◌, ◌||◌, List, [], ◌∷◌, Option, Some, None, refl, sym, ap, subst, ◌∙◌}
use Rattle.std.specs.List.{AllByRecursion, list_any}
use Rattle.std.proofs.lemmas.Bool.{and_parts, not-true, or_right}
use Rattle.qz_types.specs.Rows.{JobData, FiredData}
use Rattle.qz_types.specs.States.{is_acquired}
use Rattle.qz_types.specs.Sorted.{IsAscending, row_of}
use Rattle.qz_types.specs.Words.{key_cmp, same_key, job_of}
use Rattle.qz_types.specs.declared.keys.Key.{Key}
use Rattle.qz_model.specs.Executions.{is_exclusive_of, is_busy}
use Rattle.qz_model.specs.Invariant.{HasFlag, ConcurrencyAgrees}
use Rattle.qz_model.proofs.LookUps.{each_found}
use Rattle.qz_model.proofs.RowPoints.{All-from, All-weaker, All-both, any_none}
use Rattle.qz_model.proofs.RowLaws.{key_total, same_key_laws, same_key-exact, All-job_of, job_of-key}
use Rattle.qz_valid.specs.Fired.{has_flag}
use Rattle.qz_valid.specs.Keys.{has}
use Rattle.qz_valid.specs.declared.keys.Counted.TheVariants.{Exclusive}
use Rattle.qz_valid.proofs.FiredTests.{Agrees, flag_decided}
use Rattle.qz_valid.proofs.Sets.{Counts, busy_is}

module _ {R : Type 0} where
  -- a row that passes is one of those that pass
  each_any : (p : R → Bool) (xs : List R) → AllByRecursion (λ x. p x ≡ true → list_any p xs ≡ true) xs
  each_any p [] = tt
  each_any p (x ∷ xs) = (
    λ is. rw is refl,
    All-weaker (λ y. p y ≡ true → list_any p xs ≡ true) (λ y. p y ≡ true → list_any p (x ∷ xs) ≡ true) xs (λ y any is. or_right (p x) (list_any p xs) (any is)) (each_any p xs),
  )

  -- a relation of each of these with each of those, from the other side
  all_at_all : {S : Type 0} (P : R → S → Type 0) (xs : List R) (ys : List S) → AllByRecursion (λ x. AllByRecursion (P x) ys) xs → AllByRecursion (λ y. AllByRecursion (λ x. P x y) xs) ys
  all_at_all P [] ys all = All-from (λ y. AllByRecursion (λ x. P x y) []) ys (λ y. tt)
  all_at_all P (x ∷ xs) ys all = All-both (P x) (λ y. AllByRecursion (λ z. P z y) xs) (λ y. AllByRecursion (λ z. P z y) (x ∷ xs)) ys (λ y here there. (here, there)) all.0 (all_at_all P xs ys all.1)

exclusive : (key : Key) (f : FiredData) → is_acquired f.state ≡ false → f.no_concurrent ≡ true → same_key key f.job ≡ true → is_exclusive_of key f ≡ true
unfolding is_exclusive_of
exclusive key f executing flag same = rw (executing, flag, same) refl

exclusive_parts : (key : Key) (f : FiredData) → is_exclusive_of key f ≡ true → (is_acquired f.state ≡ false) × (f.no_concurrent ≡ true) × (same_key key f.job ≡ true)
unfolding is_exclusive_of
exclusive_parts key f h =
    let one = and_parts (not (is_acquired f.state) && f.no_concurrent) (same_key key f.job) h in
    let two = and_parts (not (is_acquired f.state)) f.no_concurrent one.0 in
    (not-true (is_acquired f.state) two.0, two.1, one.1)

-- From the tests.

alone_flag : (flag there : Bool) → (flag || not there) ≡ true → there ≡ true → flag ≡ true
alone_flag true there h is = refl
alone_flag false there h is = absurd (cc)

agree : (fired : List FiredData) (keys : List Key) → Counts Exclusive fired keys → (jobs : List JobData) (f g : FiredData)
    → (is_exclusive_of f.job f ≡ true → is_busy f.job fired ≡ true) → (is_exclusive_of f.job g ≡ true → is_busy f.job fired ≡ true)
    → is_acquired f.state ≡ false → Agrees jobs keys f → is_acquired g.state ≡ false → Agrees jobs keys g → same_key f.job g.job ≡ true → g.no_concurrent ≡ f.no_concurrent
agree fired keys set jobs f g mine yours executing fits going also same =
    elim f.no_concurrent as (λ b. f.no_concurrent ≡ b → g.no_concurrent ≡ b) [
      | true ↦ λ e.
          let there : has f.job keys ≡ true = sym (busy_is fired keys set f.job) ∙ mine (exclusive f.job f executing e (same_key_laws.refl f.job)) in
          alone_flag g.no_concurrent (has g.job keys) also.alone (ap (λ (k : Key). has k keys) (sym (same_key-exact f.job g.job same)) ∙ there)
      | false ↦ λ e. elim g.no_concurrent as (λ b. g.no_concurrent ≡ b → b ≡ false) [
        | true ↦ λ flag.
            let there : has f.job keys ≡ true = sym (busy_is fired keys set f.job) ∙ yours (exclusive f.job g going flag same) in
            let flagged : f.no_concurrent ≡ true = alone_flag f.no_concurrent (has f.job keys) fits.alone there in
            absurd (cc)
        | false ↦ λ flag. refl
      ] refl
    ] refl

any_busy : (key : Key) (fired : List FiredData) → AllByRecursion (λ g. is_exclusive_of key g ≡ true → is_busy key fired ≡ true) fired
unfolding is_busy
any_busy key fired = each_any (is_exclusive_of key) fired

own_of : (fired gs : List FiredData) → ((key : Key) → AllByRecursion (λ g. is_exclusive_of key g ≡ true → is_busy key fired ≡ true) gs) → AllByRecursion (λ f. is_exclusive_of f.job f ≡ true → is_busy f.job fired ≡ true) gs
own_of fired [] all = tt
own_of fired (g ∷ gs) all = ((all g.job).0, own_of fired gs (λ key. (all key).1))

own_busy : (fired : List FiredData) → AllByRecursion (λ f. is_exclusive_of f.job f ≡ true → is_busy f.job fired ≡ true) fired
own_busy fired = own_of fired fired (λ key. any_busy key fired)

flag_of : (jobs : List JobData) (j : JobData) (f : FiredData) → row_of key_cmp (λ r. r.key) j.key jobs ≡ Some j → has_flag f.no_concurrent (job_of f.job jobs) ≡ true → same_key j.key f.job ≡ true → f.no_concurrent ≡ j.no_concurrent
unfolding job_of
flag_of jobs j f found fits same =
    let here : row_of key_cmp (λ r. r.key) f.job jobs ≡ Some j = ap (λ (k : Key). row_of key_cmp (λ r. r.key) k jobs) (sym (same_key-exact j.key f.job same)) ∙ found in
    sym ((flag_decided f.no_concurrent (Some j)).0 (subst (λ (o : Option JobData). has_flag f.no_concurrent o ≡ true) here fits))

pub concurrency_agrees : (jobs : List JobData) (fired : List FiredData) (keys : List Key) → Counts Exclusive fired keys → IsAscending key_cmp (λ r. r.key) jobs
    → AllByRecursion (λ f. is_acquired f.state ≡ false → Agrees jobs keys f) fired → ConcurrencyAgrees jobs fired
concurrency_agrees jobs fired keys set ascending all = record {
  with_rows = All-both (λ f. is_acquired f.state ≡ false → Agrees jobs keys f) (λ f. is_exclusive_of f.job f ≡ true → is_busy f.job fired ≡ true) (λ f. is_acquired f.state ≡ false → AllByRecursion (HasFlag f.job f.no_concurrent) fired) fired
      (λ f fits mine executing. All-both (λ g. is_acquired g.state ≡ false → Agrees jobs keys g) (λ g. is_exclusive_of f.job g ≡ true → is_busy f.job fired ≡ true) (HasFlag f.job f.no_concurrent) fired
      (λ g also yours going same. agree fired keys set jobs f g mine yours executing (fits executing) going (also going) same) all (any_busy f.job fired))
      all (own_busy fired);
  with_jobs = All-weaker (λ j. row_of key_cmp (λ r. r.key) j.key jobs ≡ Some j) (λ j. AllByRecursion (HasFlag j.key j.no_concurrent) fired) jobs
      (λ j found. All-weaker (λ f. is_acquired f.state ≡ false → Agrees jobs keys f) (HasFlag j.key j.no_concurrent) fired
      (λ f fits executing same. flag_of jobs j f found (fits executing).job same) all)
      (each_found key_cmp (λ r. r.key) key_total jobs ascending);
}

-- And back.

not_busy : (fired : List FiredData) (f : FiredData) → f.no_concurrent ≡ false → AllByRecursion (HasFlag f.job f.no_concurrent) fired → is_busy f.job fired ≡ false
unfolding is_busy
not_busy fired f flag all = any_none (is_exclusive_of f.job) fired (All-weaker (HasFlag f.job f.no_concurrent) (λ g. is_exclusive_of f.job g ≡ false) fired
    (λ g same. elim (is_exclusive_of f.job g) as (λ b. is_exclusive_of f.job g ≡ b → b ≡ false) [
      | true ↦ λ e. let parts = exclusive_parts f.job g e in let flagged : g.no_concurrent ≡ f.no_concurrent = same parts.0 parts.2 in let yes : g.no_concurrent ≡ true = parts.1 in absurd (cc)
      | false ↦ λ e. refl
    ] refl) all)

alone_where : (flag there : Bool) → (flag ≡ false → there ≡ false) → (flag || not there) ≡ true
alone_where true there f = refl
alone_where false there f = let no = f refl in rw no refl

found_flag : (jobs : List JobData) (f : FiredData) (o : Option JobData) → job_of f.job jobs ≡ o → is_acquired f.state ≡ false → AllByRecursion (λ j. HasFlag j.key j.no_concurrent f) jobs → has_flag f.no_concurrent o ≡ true
found_flag jobs f None found executing all = refl
found_flag jobs f (Some j) found executing all =
    let flag : HasFlag j.key j.no_concurrent f = All-job_of (λ (i : JobData). HasFlag i.key i.no_concurrent f) f.job j jobs all found in
    let same : same_key j.key f.job ≡ true = sym (same_key_laws.symm f.job j.key) ∙ job_of-key f.job j jobs found in
    (flag_decided f.no_concurrent (Some j)).1 (sym (flag executing same))

pub agrees_each : (jobs : List JobData) (fired : List FiredData) (keys : List Key) → Counts Exclusive fired keys → ConcurrencyAgrees jobs fired → AllByRecursion (λ f. is_acquired f.state ≡ false → Agrees jobs keys f) fired
agrees_each jobs fired keys set agrees = All-both (λ f. is_acquired f.state ≡ false → AllByRecursion (HasFlag f.job f.no_concurrent) fired) (λ f. AllByRecursion (λ j. HasFlag j.key j.no_concurrent f) jobs) (λ f. is_acquired f.state ≡ false → Agrees jobs keys f) fired
    (λ f rows all executing. record {
      job = found_flag jobs f (job_of f.job jobs) refl executing all;
      alone = alone_where f.no_concurrent (has f.job keys) (λ flag. sym (busy_is fired keys set f.job) ∙ not_busy fired f flag (rows executing));
    }) agrees.with_rows (all_at_all (λ j f. HasFlag j.key j.no_concurrent f) jobs fired agrees.with_jobs)
