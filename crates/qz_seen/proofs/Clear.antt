-- Where nothing is refused, and where only a limit is in the way.
use Rattle.std.proofs.Common.{◌≡◌, ◌+◌, ◌&&◌, ◌==◌, ℤ, ◌≤ℤ◌, int_lt, ℕ, Bool, List, [], ◌∷◌, true, false, not, nat_lt, filter, Option, Some, None, IfSome, IsSomeAnd, option_map, option_and_then, refl, sym, ap, ◌∙◌, subst, arith}
use Rattle.std.specs.List.{AllByRecursion}
use Rattle.std.proofs.lemmas.Bool.{and_from, and_right, eq-eqb, not-true, not-false}
use Rattle.std.proofs.lemmas.Int.{ints}
use Rattle.qz_types.specs.Rows.{TriggerData, MemberData, FiredData}
use Rattle.qz_types.specs.declared.commands.Code.{Code}
use Rattle.qz_types.specs.declared.commands.Code.TheVariants.{Noop, ReExecuteJob, SetTriggerComplete, DeleteTrigger, SetAllJobTriggersComplete, SetTriggerError, SetAllJobTriggersError}
use Rattle.qz_types.specs.declared.replies.Reply.{Reply}
use Rattle.qz_types.specs.declared.replies.Refusal.{Refusal}
use Rattle.qz_types.specs.declared.replies.Refusal.TheVariants.{TooMany, NotAcquired, NotExecuting}
use Rattle.qz_types.specs.declared.limits.TheConstants.{MEMBER_LIMIT, FIRED_LIMIT, NUMBER_LIMIT, TRIGGER_LIMIT}
use Rattle.qz_types.specs.States.{is_acquired}
use Rattle.qz_types.specs.Tables.{SchedulerTables}
use Rattle.qz_types.specs.Outcomes.{accepted, refused, unless}
use Rattle.qz_types.specs.Words.{same_text, member_of, trigger_of, fired_of}
use Rattle.qz_model.specs.Acquiring.{acquire_refusal, owner_refusal, acquired_refusal, acquire}
use Rattle.qz_model.specs.Completing.{complete_refusal, complete_one, complete_row, complete}
use Rattle.qz_model.specs.Firing.{next_of, early, fire_refusal, fire_row, fire}
use Rattle.qz_model.specs.Invariant.{IsRowOf, TablesValid}
use Rattle.qz_model.specs.Membership.{live_epoch, is_live, node_refusal}
use Rattle.qz_model.specs.Misfires.{misfires}
use Rattle.qz_model.specs.Recovery.{lost_of, recovery_refusal, epoch_refusal, join_refusal, joined, join, leave_refusal, leave}
use Rattle.qz_model.specs.Tests.{is_of, refuse_if, or_refusal}
use Rattle.qz_model.proofs.Changes.{HasMember, HasItsTrigger}
use Rattle.qz_model.proofs.RowPoints.{All-both}
use Rattle.qz_model.proofs.RowLaws.{each_fired, member_of-alike}
use Rattle.qz_run.specs.Stores.{Row}
use Rattle.qz_seen.specs.Effects.{IsTooMany}
use Rattle.qz_seen.specs.Seen.{rows_of}
use Rattle.qz_seen.proofs.Leaving.{others_alone}
use Rattle.qz_seen.proofs.NodeRows.{Picked, pick}

-- if anything is in the way, it is a limit
abbrev pub AreTooMany : Option Refusal → Type 0
AreTooMany o = IfSome o IsTooMany

many_if : (b : Bool) (count : ℕ) (next : Option Refusal) → AreTooMany next → AreTooMany (refuse_if b (TooMany count) next)
many_if true count next are = record { count = count; refusal = refl }
many_if false count next are = are

many_or : (first next : Option Refusal) → AreTooMany first → AreTooMany next → AreTooMany (or_refusal first next)
many_or None next are also = also
many_or (Some x) next are also = are

many_refused : (o : Option Refusal) (T' : SchedulerTables) (r : Reply) (x : Refusal) → AreTooMany o → unless o (accepted T' r) ≡ refused x → IsTooMany x
many_refused None T' r x are e = absurd (cc)
many_refused (Some y) T' r x are e = let is : y ≡ x = cc in subst IsTooMany is are

-- where nothing is in the way, nothing is refused
never : (o : Option Refusal) (T' : SchedulerTables) (r : Reply) (x : Refusal) → o ≡ None → unless o (accepted T' r) ≡ refused x → ⊥
never None T' r x clear e = cc
never (Some y) T' r x clear e = cc

clear_or : (first next : Option Refusal) → first ≡ None → next ≡ None → or_refusal first next ≡ None
clear_or first next a b = rw a b

clear_if : (b : Bool) (x : Refusal) → b ≡ false → refuse_if b x None ≡ None
clear_if b x fails = rw fails refl

-- The node is a member under its epoch.
abbrev pub IsLive : SchedulerTables → MemberData → Type 0
IsLive T me = IsSomeAnd (member_of me.node T.members) (λ m. m.epoch ≡ me.epoch)

live_by : (me : MemberData) (o : Option MemberData) → IsSomeAnd o (λ m. m.epoch ≡ me.epoch) → is_live me.epoch (option_map (λ member. member.epoch) o) ≡ true
live_by me None is = absurd is
live_by me (Some m) is = eq-eqb me.epoch m.epoch (sym is)

node_clear : (T : SchedulerTables) (me : MemberData) → IsLive T me → node_refusal T me ≡ None
unfolding node_refusal live_epoch
node_clear T me is = rw (live_by me (member_of me.node T.members) is) refl

-- Join.
epoch_many : (T : SchedulerTables) → AreTooMany (epoch_refusal T)
unfolding epoch_refusal
epoch_many T = many_if (nat_lt NUMBER_LIMIT (T.next_epoch + 1)) NUMBER_LIMIT None tt

recovery_many : (T : SchedulerTables) (member : MemberData) → AreTooMany (recovery_refusal T member)
unfolding recovery_refusal
recovery_many T member = many_if _ TRIGGER_LIMIT None tt

refused_joining : (T : SchedulerTables) (m : ℤ) (node : List ℕ) (o : Option MemberData) (x : Refusal) → unless (join_refusal T o) (joined T m node o) ≡ refused x → IsTooMany x
unfolding join_refusal
refused_joining T m node None x e = many_refused (join_refusal T None) _ _ x (many_if _ MEMBER_LIMIT (epoch_refusal T) (epoch_many T)) e
refused_joining T m node (Some member) x e = many_refused (join_refusal T (Some member)) _ _ x (many_or (recovery_refusal T member) (epoch_refusal T) (recovery_many T member) (epoch_many T)) e

pub refused_join : (T : SchedulerTables) (m : ℤ) (node : List ℕ) (x : Refusal) → join T m node ≡ refused x → IsTooMany x
refused_join T m node x e = refused_joining T m node (member_of node T.members) x e

-- Acquire.
acquire_many : (T : SchedulerTables) (max : ℕ) → AreTooMany (acquire_refusal T max)
unfolding acquire_refusal
acquire_many T max = many_if _ FIRED_LIMIT (refuse_if _ (TooMany NUMBER_LIMIT) None) (many_if _ NUMBER_LIMIT None tt)

pub refused_acquire : (T : SchedulerTables) (m : ℤ) (me : MemberData) (no_later window : ℤ) (max : ℕ) (x : Refusal) → IsLive T me → acquire T m me no_later window max ≡ refused x → IsTooMany x
refused_acquire T m me no_later window max x live e =
    many_refused (or_refusal (node_refusal T me) (acquire_refusal T max)) _ _ x
    (subst (λ o. AreTooMany (or_refusal o (acquire_refusal T max))) (sym (node_clear T me live)) (acquire_many T max)) e

-- Misfires.
pub no_refused_misfires : (T : SchedulerTables) (m : ℤ) (me : MemberData) (x : Refusal) → IsLive T me → misfires T m me ≡ refused x → ⊥
no_refused_misfires T m me x live e = never (node_refusal T me) _ _ x (node_clear T me live) e

-- Leave.
filter_none : {R : Type 0} (p q : R → Bool) (xs : List R) → AllByRecursion (λ x. q x ≡ false) xs → filter (λ x. p x && q x) xs ≡ []
filter_none p q [] all = refl
filter_none p q (x ∷ xs) all = rw (and_right (p x) (q x) all.0) (filter_none p q xs all.1)

leave_clear : (T : SchedulerTables) (me : MemberData) → rows_of me.node T.fired ≡ [] → leave_refusal T me ≡ None
unfolding leave_refusal lost_of
leave_clear T me none =
    let lost : filter (λ f. not (is_acquired f.state) && is_of me f) T.fired ≡ [] = filter_none (λ f. not (is_acquired f.state)) (is_of me) T.fired (others_alone me T.fired none) in
    rw lost refl

pub no_refused_leave : (T : SchedulerTables) (m : ℤ) (me : MemberData) (x : Refusal) → IsLive T me → rows_of me.node T.fired ≡ [] → leave T m me ≡ refused x → ⊥
no_refused_leave T m me x live none e =
    never (or_refusal (node_refusal T me) (leave_refusal T me)) _ _ x (clear_or (node_refusal T me) (leave_refusal T me) (node_clear T me live) (leave_clear T me none)) e

-- Rows of the node's own.
same_epochs : (a b : ℕ) (o : Option MemberData) → IsSomeAnd o (λ m. m.epoch ≡ a) → IsSomeAnd o (λ m. m.epoch ≡ b) → a ≡ b
same_epochs a b None is also = absurd is
same_epochs a b (Some m) is also = sym is ∙ also

mine_by : (T : SchedulerTables) (me : MemberData) (f : FiredData) → IsLive T me → HasMember T.members f → same_text me.node f.node ≡ true → is_of me f ≡ true
unfolding is_of
mine_by T me f live has same =
    and_from (same_text me.node f.node) (me.epoch == f.epoch) same
    (eq-eqb me.epoch f.epoch (same_epochs me.epoch f.epoch (member_of f.node T.members) (subst (λ o. IsSomeAnd o (λ m. m.epoch ≡ me.epoch)) (member_of-alike me.node f.node T.members same) live) has))

owner_clear : (me : MemberData) (f : FiredData) → is_of me f ≡ true → owner_refusal me f ≡ None
unfolding owner_refusal
owner_clear me f mine = rw mine refl

-- what holds of each row of valid tables
pub record Stands (T : SchedulerTables) (f : FiredData) : Type 0 where
  pub found : fired_of f.entry T.fired ≡ Some f
  pub member : HasMember T.members f
  pub trigger : HasItsTrigger T.triggers f

each_stands : (T : SchedulerTables) → TablesValid T → AllByRecursion (Stands T) T.fired
each_stands T valid =
    All-both (λ f. fired_of f.entry T.fired ≡ Some f) (λ f. HasMember T.members f × HasItsTrigger T.triggers f) (Stands T) T.fired (λ f found has. record { found = found; member = has.0; trigger = has.1 })
    (each_fired T.fired valid.references_and_limits.ordered.fired)
    (All-both (HasMember T.members) (HasItsTrigger T.triggers) (λ f. HasMember T.members f × HasItsTrigger T.triggers f) T.fired (λ f a b. (a, b)) valid.rows_of_members.rows valid.acquired_match.a_trigger)

-- Fire.
next_by : (f : FiredData) (o : Option TriggerData) → IsSomeAnd o (IsRowOf f) → option_and_then (λ t. t.next) o ≡ Some f.scheduled
next_by f None row = absurd row
next_by f (Some t) row = row.next

not_early : (m next : ℤ) (o : Option ℤ) → o ≡ Some next → next ≤ℤ m → early m o ≡ None
not_early m next o is due = let in_time : int_lt m next ≡ false = grind (arith, ints) in rw (is, in_time) refl

fire_clear : (T : SchedulerTables) (m : ℤ) (me : MemberData) (f : FiredData) → Stands T f → is_of me f ≡ true → is_acquired f.state ≡ true → f.scheduled ≤ℤ m → fire_refusal T m me f ≡ None
unfolding fire_refusal acquired_refusal next_of
fire_clear T m me f stands mine taken due =
    clear_or (acquired_refusal me f) (early m (next_of f.trigger T.triggers))
    (clear_or (owner_refusal me f) (refuse_if (not (is_acquired f.state)) NotAcquired None) (owner_clear me f mine) (clear_if (not (is_acquired f.state)) NotAcquired (ap not taken)))
    (not_early m f.scheduled (next_of f.trigger T.triggers) (next_by f (trigger_of f.trigger T.triggers) (stands.trigger taken)) due)

pub no_refused_fire : (T : SchedulerTables) (m next : ℤ) (me : MemberData) (entry : ℕ) (x : Refusal) → TablesValid T → IsLive T me
    → rows_of me.node T.fired ≡ record { entry = entry; executing = false; scheduled = next } ∷ [] → next ≤ℤ m → fire T m me entry ≡ refused x → ⊥
no_refused_fire T m next me entry x valid live one due e =
    let row : Row = record { entry = entry; executing = false; scheduled = next } in
    let own : Picked me.node row (Stands T) = pick me.node row (Stands T) T.fired one (each_stands T valid) in
    let f : FiredData = own.picked in
    let named : f.entry ≡ entry = ap (λ r. r.entry) own.shown in
    let at : f.scheduled ≡ next = ap (λ r. r.scheduled) own.shown in
    let taken : not (is_acquired f.state) ≡ false = ap (λ r. r.executing) own.shown in
    let found : fired_of entry T.fired ≡ Some f = subst (λ (n : ℕ). fired_of n T.fired ≡ Some f) named own.holds.found in
    let clear = fire_clear T m me f own.holds (mine_by T me f live own.holds.member own.own) (not-false (is_acquired f.state) taken) (subst (λ (s : ℤ). s ≤ℤ m) (sym at) due) in
    let first : unless (node_refusal T me) (fire_row T m me (Some f)) ≡ refused x = subst (λ o. unless (node_refusal T me) (fire_row T m me o) ≡ refused x) found e in
    let second : fire_row T m me (Some f) ≡ refused x = subst (λ o. unless o (fire_row T m me (Some f)) ≡ refused x) (node_clear T me live) first in
    never (fire_refusal T m me f) _ _ x clear second

-- Complete.
complete_clear : (me : MemberData) (f : FiredData) → is_of me f ≡ true → is_acquired f.state ≡ false → complete_refusal me f ≡ None
unfolding complete_refusal
complete_clear me f mine runs = clear_or (owner_refusal me f) (refuse_if (is_acquired f.state) NotExecuting None) (owner_clear me f mine) (clear_if (is_acquired f.state) NotExecuting runs)

no_code_refused : (T : SchedulerTables) (m : ℤ) (f : FiredData) (code : Code) (x : Refusal) → complete_one T m f code ≡ refused x → ⊥
no_code_refused T m f Noop x e = cc
no_code_refused T m f ReExecuteJob x e = cc
no_code_refused T m f SetTriggerComplete x e = cc
no_code_refused T m f DeleteTrigger x e = cc
no_code_refused T m f SetAllJobTriggersComplete x e = cc
no_code_refused T m f SetTriggerError x e = cc
no_code_refused T m f SetAllJobTriggersError x e = cc

pub no_refused_complete : (T : SchedulerTables) (m next : ℤ) (me : MemberData) (entry : ℕ) (code : Code) (x : Refusal) → TablesValid T → IsLive T me
    → rows_of me.node T.fired ≡ record { entry = entry; executing = true; scheduled = next } ∷ [] → complete T m me entry code ≡ refused x → ⊥
no_refused_complete T m next me entry code x valid live one e =
    let row : Row = record { entry = entry; executing = true; scheduled = next } in
    let own : Picked me.node row (Stands T) = pick me.node row (Stands T) T.fired one (each_stands T valid) in
    let f : FiredData = own.picked in
    let named : f.entry ≡ entry = ap (λ r. r.entry) own.shown in
    let runs : not (is_acquired f.state) ≡ true = ap (λ r. r.executing) own.shown in
    let found : fired_of entry T.fired ≡ Some f = subst (λ (n : ℕ). fired_of n T.fired ≡ Some f) named own.holds.found in
    let clear = complete_clear me f (mine_by T me f live own.holds.member own.own) (not-true (is_acquired f.state) runs) in
    let first : unless (node_refusal T me) (complete_row T m me (Some f) code) ≡ refused x = subst (λ o. unless (node_refusal T me) (complete_row T m me o code) ≡ refused x) found e in
    let second : complete_row T m me (Some f) code ≡ refused x = subst (λ o. unless o (complete_row T m me (Some f) code) ≡ refused x) (node_clear T me live) first in
    let third : complete_one T m f code ≡ refused x = subst (λ o. unless o (complete_one T m f code) ≡ refused x) clear second in
    no_code_refused T m f code x third
