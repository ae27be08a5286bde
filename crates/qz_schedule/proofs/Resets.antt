-- A trigger that is reset.
use Rattle.std.proofs.Common.{◌≡◌, ℤ, List, [], ◌∷◌, Some, None, is_none, if◌then◌else◌, refl, sym, ap, ◌∙◌, subst}
use Rattle.std.specs.Ordering.{is_eq}
use Rattle.std.specs.declared.cmp.Ordering.{Ordering}
use Rattle.std.specs.declared.cmp.Ordering.TheVariants.{Less, Equal, Greater}
use Rattle.qz_types.specs.Rows.{TriggerData}
use Rattle.qz_types.specs.declared.keys.Key.{Key}
use Rattle.qz_types.specs.declared.replies.Reply.TheVariants.{Done}
use Rattle.qz_types.specs.declared.triggers.TriggerState.{TriggerState}
use Rattle.qz_types.specs.declared.triggers.TriggerState.TheVariants.{Complete}
use Rattle.qz_types.specs.Changes.{in_state}
use Rattle.qz_types.specs.Outcomes.{accepted, unless}
use Rattle.qz_types.specs.Sorted.{row_of, IsBefore, IsAscending}
use Rattle.qz_types.specs.Tables.{SchedulerTables}
use Rattle.qz_types.specs.Words.{key_cmp, same_key, trigger_of, with_trigger}
use Rattle.qz_tables.specs.Ids.{changed_at}
use Rattle.qz_tables.proofs.ByIds.{changed_at-before, before-same}
use Rattle.qz_model.specs.Resetting.{reset, reset_refusal, reset_trigger}
use Rattle.qz_model.specs.Triggers.{new_state}
use Rattle.qz_model.proofs.RowLaws.{key_total}

abbrev key_of : TriggerData → Key
key_of t = t.spec.key

alike_step : (o : Ordering) (k : Key) (t x : TriggerData) (f g : TriggerData → TriggerData) (xs : List TriggerData) → key_cmp k x.spec.key ≡ o → IsBefore key_cmp key_of x.spec.key xs → f t ≡ g t
    → (row_of key_cmp key_of k xs ≡ Some t → changed_at key_cmp key_of k f xs ≡ changed_at key_cmp key_of k g xs)
    → (if is_eq o then Some x else row_of key_cmp key_of k xs) ≡ Some t
    → (if is_eq o then f x else x) ∷ changed_at key_cmp key_of k f xs ≡ (if is_eq o then g x else x) ∷ changed_at key_cmp key_of k g xs
alike_step Less k t x f g xs e before same more found = ap (λ ys. x ∷ ys) (more found)
alike_step Equal k t x f g xs e before same more found =
    let is : t ≡ x = cc in
    let none = before-same key_cmp key_of key_total k x.spec.key xs e before in
    ap (λ y. y ∷ changed_at key_cmp key_of k f xs) (subst (λ y. f y ≡ g y) is same)
    ∙ ap (λ ys. g x ∷ ys) (changed_at-before key_cmp key_of k f xs none ∙ sym (changed_at-before key_cmp key_of k g xs none))
alike_step Greater k t x f g xs e before same more found = ap (λ ys. x ∷ ys) (more found)

changed_alike : (k : Key) (t : TriggerData) (f g : TriggerData → TriggerData) (rows : List TriggerData) → IsAscending key_cmp key_of rows → row_of key_cmp key_of k rows ≡ Some t → f t ≡ g t
    → changed_at key_cmp key_of k f rows ≡ changed_at key_cmp key_of k g rows
changed_alike k t f g [] ascending found same = refl
changed_alike k t f g (x ∷ xs) ascending found same = alike_step (key_cmp k x.spec.key) k t x f g xs refl ascending.0 same (λ further. changed_alike k t f g xs ascending.1 further same) found

-- a change of the trigger of a key is known by what it makes of the one that is stored
with_alike : (k : Key) (t : TriggerData) (f g : TriggerData → TriggerData) (rows : List TriggerData) → IsAscending key_cmp (λ r. r.spec.key) rows → trigger_of k rows ≡ Some t → f t ≡ g t → with_trigger k f rows ≡ with_trigger k g rows
unfolding with_trigger same_key trigger_of
with_alike k t f g rows ascending found same = changed_alike k t f g rows ascending found same

state_alike : (T : SchedulerTables) (t : TriggerData) (state : TriggerState) → state ≡ (if is_none t.next then Complete else new_state T t.spec) → in_state state t ≡ reset T t
unfolding reset
state_alike T t state is = ap (λ s. in_state s t) is

pub reset_done : (T U V : SchedulerTables) (m : ℤ) (key : Key) (t : TriggerData) (state : TriggerState) → reset_refusal (trigger_of key T.triggers) ≡ None → IsAscending key_cmp (λ r. r.spec.key) T.triggers → trigger_of key T.triggers ≡ Some t
    → state ≡ (if is_none t.next then Complete else new_state T t.spec) → U ≡ record T { triggers = with_trigger key (in_state state) T.triggers } → V ≡ record U { last_moment = m }
    → reset_trigger T m key ≡ accepted V Done
reset_done T U V m key t state clear ascending found is changed moment =
    let left : SchedulerTables = record T { triggers = with_trigger key (reset T) T.triggers; last_moment = m } in
    let rows : with_trigger key (in_state state) T.triggers ≡ with_trigger key (reset T) T.triggers = with_alike key t (in_state state) (reset T) T.triggers ascending found (state_alike T t state is) in
    let tables : V ≡ left = moment ∙ ap (λ (u : SchedulerTables). record u { last_moment = m }) changed ∙ ap (λ (ts : List TriggerData). record T { triggers = ts; last_moment = m }) rows in
    subst (λ x. unless x (accepted left Done) ≡ accepted V Done) (sym clear) (ap (λ (u : SchedulerTables). accepted u Done) (sym tables))
