use Rattle.std.proofs.Common.{◌||◌, Option, ◌≡◌, ◌<◌, ◌≤◌, ◌++◌, ◌∷◌, [], length, ℤ, ◌-ℤ◌, map, Some, w64, to_z, of_z, option_copied, refl, ap, ◌∙◌, sym, subst, arith}
use Rattle.std.proofs.lemmas.Int.{to_z-of_z}
use Rattle.std.proofs.lemmas.List.{length-map}
use Rattle.std.proofs.lemmas.Grind.{common_steps}
use Rattle.qz_types.specs.declared.limits.TheConstants.{MISFIRE_LIMIT}
use Rattle.qz_tables.proofs.Filled.{map_snoc}
use Rattle.qz_types.specs.Rows.{TriggerData}
use Rattle.qz_types.specs.Tables.{SchedulerTables}
use Rattle.qz_types.specs.declared.keys.Key.{Key}
use Rattle.qz_tables.specs.Due.{due_next}
use Rattle.qz_model.specs.Misfires.{misfired_triggers}
use Rattle.qz_acquire.specs.Walk.{is_from, is_missed, unless_past}
use Rattle.qz_acquire.proofs.Facts.{ordered}
use Rattle.qz_acquire.proofs.MisfireWalk.{IsCollecting, collect_begins, collect_adds, collect_full, collect_ends}
use Rattle.qz_acquire.proofs.misfires.misfired_triggers.Goals as goal

pub loop-last-init : goal.loop-last-init
loop-last-init c = rw c.new-found.ensures.items (collect_begins c.args.tables.now.tables (to_z w64 (of_z w64 c.args.moment)) (ordered c.args.tables.now.tables c.requires.valid))

-- what the walk found, by the earliest time that isn't misfired
told : (T : SchedulerTables) (e f : ℤ) (last : Option Key) (o : Option TriggerData) → e ≡ f → o ≡ unless_past (λ t. is_from e t.next) (due_next last (λ t. is_from e t.next || is_missed e t) T.triggers) → o ≡ unless_past (λ t. is_from f t.next) (due_next last (λ t. is_from f t.next || is_missed f t) T.triggers)
told T e f last o is h = subst (λ (x : ℤ). o ≡ unless_past (λ t. is_from x t.next) (due_next last (λ t. is_from x t.next || is_missed x t) T.triggers)) is h

pub loop-last-preserved : goal.loop-last-preserved
loop-last-preserved c =
    let T = c.args.tables.now.tables in
    let m = to_z w64 (of_z w64 c.args.moment) in
    let found = map (λ r. r.now) c.loop-last.found.items in
    let last = option_copied c.loop-last.last in
    let read : to_z w64 (of_z w64 c.earliest-earliest.result) ≡ c.earliest-earliest.result = grind (arith, common_steps, to_z-of_z) in
    let next = told T (to_z w64 (of_z w64 c.earliest-earliest.result)) (m -ℤ T.threshold) last (option_copied c.next_missed.result) (read ∙ c.earliest-earliest.ensures) c.next_missed.ensures in
    let count : c.len.result ≡ length found = omega (arith, c.len.ensures, c.loop-last.found.ok.0, length-map c.loop-last.found.items (λ r. r.now)) in
    let less : length found < MISFIRE_LIMIT = let short = c.loop-last-test.true in omega (arith, count) in
    let more : map (λ r. r.now) c.push.new.self.items ≡ found ++ c.in-Some.trigger.now ∷ [] = ap (map (λ r. r.now)) c.in_ok-push.ensures.items ∙ map_snoc (λ r. r.now) c.loop-last.found.items c.in-Some.trigger in
    let key : c.trigger.inside.spec.key ≡ c.in-Some.trigger.now.spec.key = ap (λ v. v.spec.key) c.trigger.view_is in
    let one = collect_adds T m found last c.loop-last.invariant (ordered T c.requires.valid) (due_next last (λ t. is_from (m -ℤ T.threshold) t.next || is_missed (m -ℤ T.threshold) t) T.triggers) c.in-Some.trigger.now refl (sym (ap option_copied c.in-Some.is) ∙ next) less in
    subst (λ k. IsCollecting T m (map (λ r. r.now) c.push.new.self.items) (Some k)) (sym key) (subst (λ xs. IsCollecting T m xs (Some c.in-Some.trigger.now.spec.key)) (sym more) one)

pub returns-in_default : goal.returns-in_default
returns-in_default c =
    let T = c.args.tables.now.tables in
    let m = to_z w64 (of_z w64 c.args.moment) in
    let moment : to_z w64 (of_z w64 c.args.moment) ≡ c.args.moment = grind (arith, common_steps, to_z-of_z) in
    let last = option_copied c.loop-last.last in
    let read : to_z w64 (of_z w64 c.earliest-earliest.result) ≡ c.earliest-earliest.result = grind (arith, common_steps, to_z-of_z) in
    let next = told T (to_z w64 (of_z w64 c.earliest-earliest.result)) (m -ℤ T.threshold) last (option_copied c.next_missed.result) (read ∙ c.earliest-earliest.ensures) c.next_missed.ensures in
    collect_ends T m (map (λ r. r.now) c.loop-last.found.items) last c.loop-last.invariant (ordered T c.requires.valid) (due_next last (λ t. is_from (m -ℤ T.threshold) t.next || is_missed (m -ℤ T.threshold) t) T.triggers) refl (sym (ap option_copied c.in_default.is) ∙ next)
    ∙ ap (λ (x : ℤ). misfired_triggers T x) moment

pub returns : goal.returns
returns c =
    let T = c.args.tables.now.tables in
    let found = map (λ r. r.now) c.loop-last.found.items in
    let moment : to_z w64 (of_z w64 c.args.moment) ≡ c.args.moment = grind (arith, common_steps, to_z-of_z) in
    let count : c.len.result ≡ length found = omega (arith, c.len.ensures, c.loop-last.found.ok.0, length-map c.loop-last.found.items (λ r. r.now)) in
    let full : MISFIRE_LIMIT ≤ length found = let long = c.loop-last-test.false in omega (arith, count) in
    collect_full T (to_z w64 (of_z w64 c.args.moment)) found (option_copied c.loop-last.last) c.loop-last.invariant full ∙ ap (λ (x : ℤ). misfired_triggers T x) moment
