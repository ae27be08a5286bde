-- Triggers no two of which have one key, as those of valid tables.
use Rattle.std.proofs.Common.{◌≡◌, ℕ, zero, suc, Bool, true, false, cond, List, [], ◌∷◌, filter, take, ap, ◌∙◌, if◌then◌else◌}
use Rattle.std.specs.Prelude.{⊤}
use Rattle.std.specs.List.{AllByRecursion}
use Rattle.std.specs.Ordering.{is_gt, is_eq}
use Rattle.qz_types.specs.Sorted.{put, IsBefore, IsAscending}
use Rattle.qz_types.specs.Rows.{TriggerData}
use Rattle.qz_types.specs.declared.keys.Key.{Key}
use Rattle.qz_types.specs.Words.{key_cmp, same_key}
use Rattle.qz_types.specs.Due.{due_cmp, in_due_order}
use Rattle.qz_model.proofs.RowPoints.{All-weaker, All-filter, All-put}
use Rattle.qz_model.proofs.RowLaws.{same_key_laws}
use Rattle.qz_model.proofs.DueLaws.{All-in_due_order}

-- the trigger isn't the one of this key
abbrev pub HasOtherKey : Key → TriggerData → Type 0
HasOtherKey k u = same_key k u.spec.key ≡ false

abbrev pub AreApart : List TriggerData → Type 0
AreApart [] = ⊤
AreApart (t ∷ ts) = AllByRecursion (HasOtherKey t.spec.key) ts × AreApart ts

pub All-take : (P : TriggerData → Type 0) (n : ℕ) (ts : List TriggerData) → AllByRecursion P ts → AllByRecursion P (take n ts)
All-take P zero ts all = tt
All-take P (suc n) [] all = tt
All-take P (suc n) (t ∷ ts) all = (all.0, All-take P n ts all.1)

pub All-filtered : (P : TriggerData → Type 0) (q : TriggerData → Bool) (ts : List TriggerData) → AllByRecursion P ts → AllByRecursion P (filter q ts)
All-filtered P q ts all = All-filter P q ts (All-weaker P (λ t. q t ≡ true → P t) ts (λ t is passes. is) all)

pub apart-take : (n : ℕ) (ts : List TriggerData) → AreApart ts → AreApart (take n ts)
apart-take zero ts apart = tt
apart-take (suc n) [] apart = tt
apart-take (suc n) (t ∷ ts) apart = (All-take (HasOtherKey t.spec.key) n ts apart.0, apart-take n ts apart.1)

pub apart-filter : (q : TriggerData → Bool) (ts : List TriggerData) → AreApart ts → AreApart (filter q ts)
apart-filter q [] apart = tt
apart-filter q (t ∷ ts) apart = elim (q t) as (λ b. AreApart (cond b (t ∷ filter q ts) (filter q ts))) [
  | true ↦ (All-filtered (HasOtherKey t.spec.key) q ts apart.0, apart-filter q ts apart.1)
  | false ↦ apart-filter q ts apart.1
]

apart-put : (t : TriggerData) (ts : List TriggerData) → AllByRecursion (HasOtherKey t.spec.key) ts → AreApart ts → AreApart (put due_cmp (λ x. x) t ts)
apart-put t [] others apart = (tt, tt)
apart-put t (u ∷ us) others apart = elim (is_gt (due_cmp t u)) as (λ b. AreApart (if b then u ∷ put due_cmp (λ x. x) t us else t ∷ u ∷ us)) [
  | true ↦ (All-put due_cmp (λ x. x) (HasOtherKey u.spec.key) t us (same_key_laws.symm u.spec.key t.spec.key ∙ others.0) apart.0, apart-put t us others.1 apart.1)
  | false ↦ (others, apart)
]

pub apart-in_due_order : (ts : List TriggerData) → AreApart ts → AreApart (in_due_order ts)
apart-in_due_order [] apart = tt
apart-in_due_order (t ∷ ts) apart = apart-put t (in_due_order ts) (All-in_due_order (HasOtherKey t.spec.key) ts apart.0) (apart-in_due_order ts apart.1)

before_apart : (k : Key) (ts : List TriggerData) → IsBefore key_cmp (λ r. r.spec.key) k ts → AllByRecursion (HasOtherKey k) ts
unfolding same_key
before_apart k [] before = tt
before_apart k (t ∷ ts) before = (ap is_eq before.0, before_apart k ts before.1)

-- triggers in the order of their keys are so
pub apart : (ts : List TriggerData) → IsAscending key_cmp (λ r. r.spec.key) ts → AreApart ts
apart [] ordered = tt
apart (t ∷ ts) ordered = (before_apart t.spec.key ts ordered.0, apart ts ordered.1)
