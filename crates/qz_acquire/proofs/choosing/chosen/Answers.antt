use Rattle.std.proofs.Common.{◌≡◌, ◌||◌, ◌<◌, ◌≤◌, ◌++◌, ◌∷◌, [], length, ℤ, ◌-ℤ◌, List, map, Option, Some, w64, to_z, of_z, option_copied, refl, ap, ◌∙◌, sym, subst, arith}
use Rattle.std.proofs.lemmas.Int.{to_z-of_z}
use Rattle.std.proofs.lemmas.List.{length-map}
use Rattle.std.proofs.lemmas.Grind.{common_steps}
use Rattle.qz_types.specs.Rows.{TriggerData}
use Rattle.qz_types.specs.Tables.{SchedulerTables}
use Rattle.qz_types.specs.declared.keys.Key.{Key}
use Rattle.qz_tables.proofs.Filled.{map_snoc}
use Rattle.qz_tables.specs.Due.{due_next}
use Rattle.qz_model.specs.Acquiring.{chosen}
use Rattle.qz_acquire.specs.Choosing.{may_take}
use Rattle.qz_acquire.specs.Walk.{is_past, unless_past}
use Rattle.qz_acquire.proofs.Facts.{ordered}
use Rattle.qz_acquire.proofs.ChoosingWalk.{IsChoosing, choose_begins, choose_adds, choose_full, choose_ends}
use Rattle.qz_acquire.proofs.choosing.chosen.Goals as goal

pub loop-last-init : goal.loop-last-init
loop-last-init c = rw c.new-taken.ensures.items (choose_begins c.args.tables.now.tables (to_z w64 (of_z w64 c.args.moment)) (to_z w64 (of_z w64 c.args.limit)) c.args.max (ordered c.args.tables.now.tables c.requires.valid))

-- what the walk found, by the earliest time that isn't misfired
told : (T : SchedulerTables) (e f l : ℤ) (taken : List TriggerData) (last : Option Key) (o : Option TriggerData) → e ≡ f
    → o ≡ unless_past (λ t. is_past l t.next) (due_next last (λ t. is_past l t.next || may_take e l T.jobs taken t) T.triggers)
    → o ≡ unless_past (λ t. is_past l t.next) (due_next last (λ t. is_past l t.next || may_take f l T.jobs taken t) T.triggers)
told T e f l taken last o is h = subst (λ (x : ℤ). o ≡ unless_past (λ t. is_past l t.next) (due_next last (λ t. is_past l t.next || may_take x l T.jobs taken t) T.triggers)) is h

pub loop-last-preserved : goal.loop-last-preserved
loop-last-preserved c =
    let T = c.args.tables.now.tables in
    let m = to_z w64 (of_z w64 c.args.moment) in
    let l = to_z w64 (of_z w64 c.args.limit) in
    let taken = map (λ r. r.now) c.loop-last.taken.items in
    let last = option_copied c.loop-last.last in
    let read : to_z w64 (of_z w64 c.earliest-earliest.result) ≡ c.earliest-earliest.result = grind (arith, common_steps, to_z-of_z) in
    let next = told T (to_z w64 (of_z w64 c.earliest-earliest.result)) (m -ℤ T.threshold) l taken last (option_copied c.next_taken.result) (read ∙ c.earliest-earliest.ensures) (rw c.deref.ensures.value at c.next_taken.ensures) in
    let count : c.len.result ≡ length taken = omega (arith, c.len.ensures, c.loop-last.taken.ok.0, length-map c.loop-last.taken.items (λ r. r.now)) in
    let less : length taken < c.args.max = let short = c.loop-last-test.true in omega (arith, count) in
    let more : map (λ r. r.now) c.push.new.self.items ≡ taken ++ c.in-Some.trigger.now ∷ [] = ap (map (λ r. r.now)) c.in_ok-push.ensures.items ∙ map_snoc (λ r. r.now) c.loop-last.taken.items c.in-Some.trigger in
    let key : c.trigger.inside.spec.key ≡ c.in-Some.trigger.now.spec.key = ap (λ v. v.spec.key) c.trigger.view_is in
    let one = choose_adds T m l c.args.max taken last c.loop-last.invariant (ordered T c.requires.valid) (due_next last (λ t. is_past l t.next || may_take (m -ℤ T.threshold) l T.jobs taken t) T.triggers) c.in-Some.trigger.now refl (sym (ap option_copied c.in-Some.is) ∙ next) less in
    subst (λ k. IsChoosing T m l c.args.max (map (λ r. r.now) c.push.new.self.items) (Some k)) (sym key) (subst (λ xs. IsChoosing T m l c.args.max xs (Some c.in-Some.trigger.now.spec.key)) (sym more) one)

pub returns-in_default : goal.returns-in_default
returns-in_default c =
    let T = c.args.tables.now.tables in
    let m = to_z w64 (of_z w64 c.args.moment) in
    let l = to_z w64 (of_z w64 c.args.limit) in
    let moment : to_z w64 (of_z w64 c.args.moment) ≡ c.args.moment = grind (arith, common_steps, to_z-of_z) in
    let limit : to_z w64 (of_z w64 c.args.limit) ≡ c.args.limit = grind (arith, common_steps, to_z-of_z) in
    let taken = map (λ r. r.now) c.loop-last.taken.items in
    let last = option_copied c.loop-last.last in
    let read : to_z w64 (of_z w64 c.earliest-earliest.result) ≡ c.earliest-earliest.result = grind (arith, common_steps, to_z-of_z) in
    let next = told T (to_z w64 (of_z w64 c.earliest-earliest.result)) (m -ℤ T.threshold) l taken last (option_copied c.next_taken.result) (read ∙ c.earliest-earliest.ensures) (rw c.deref.ensures.value at c.next_taken.ensures) in
    choose_ends T m l c.args.max taken last c.loop-last.invariant (ordered T c.requires.valid) (due_next last (λ t. is_past l t.next || may_take (m -ℤ T.threshold) l T.jobs taken t) T.triggers) refl (sym (ap option_copied c.in_default.is) ∙ next)
    ∙ ap (λ (x : ℤ). chosen T x l c.args.max) moment ∙ ap (λ (x : ℤ). chosen T c.args.moment x c.args.max) limit

pub returns : goal.returns
returns c =
    let T = c.args.tables.now.tables in
    let taken = map (λ r. r.now) c.loop-last.taken.items in
    let moment : to_z w64 (of_z w64 c.args.moment) ≡ c.args.moment = grind (arith, common_steps, to_z-of_z) in
    let limit : to_z w64 (of_z w64 c.args.limit) ≡ c.args.limit = grind (arith, common_steps, to_z-of_z) in
    let count : c.len.result ≡ length taken = omega (arith, c.len.ensures, c.loop-last.taken.ok.0, length-map c.loop-last.taken.items (λ r. r.now)) in
    let full : c.args.max ≤ length taken = let long = c.loop-last-test.false in omega (arith, count) in
    choose_full T (to_z w64 (of_z w64 c.args.moment)) (to_z w64 (of_z w64 c.args.limit)) c.args.max taken (option_copied c.loop-last.last) c.loop-last.invariant full
    ∙ ap (λ (x : ℤ). chosen T x (to_z w64 (of_z w64 c.args.limit)) c.args.max) moment ∙ ap (λ (x : ℤ). chosen T c.args.moment x c.args.max) limit
