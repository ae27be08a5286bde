-- The order in which triggers are due.
use Rattle.std.specs.Prelude.{ℤ, List, [], ◌∷◌, Bool, true, false, if◌then◌else◌, Option, Some, None}
use Rattle.std.specs.Ordering.{int_cmp, ordering_then, is_gt}
use Rattle.std.specs.declared.cmp.Ordering.{Ordering}
use Rattle.std.specs.declared.cmp.Ordering.TheVariants.{Less, Equal, Greater}
use Rattle.qz_types.specs.Sorted.{put}
use Rattle.qz_types.specs.Rows.{TriggerData}
use Rattle.qz_types.specs.declared.triggers.TriggerState.{TriggerState}
use Rattle.qz_types.specs.declared.triggers.TriggerState.TheVariants.{Waiting}
use Rattle.qz_types.specs.Words.{key_cmp}

abbrev pub is_waiting : TriggerState → Bool
is_waiting Waiting = true
is_waiting state = false

-- none comes before each time
abbrev pub next_cmp : Option ℤ → Option ℤ → Ordering
next_cmp None None = Equal
next_cmp None (Some b) = Less
next_cmp (Some a) None = Greater
next_cmp (Some a) (Some b) = int_cmp a b

-- by next time, then the greater priority, then the key
unfoldable pub due_cmp : TriggerData → TriggerData → Ordering
due_cmp a b =
    ordering_then (next_cmp a.next b.next)
    (ordering_then (int_cmp b.spec.priority a.spec.priority) (key_cmp a.spec.key b.spec.key))

-- these triggers in due order, each put in its place
abbrev pub in_due_order : List TriggerData → List TriggerData
in_due_order [] = []
in_due_order (t ∷ ts) = put due_cmp (λ x. x) t (in_due_order ts)

-- the earlier of two triggers in due order, where they tie the first; or the trigger alone
abbrev pub earlier : TriggerData → Option TriggerData → TriggerData
earlier t None = t
earlier t (Some u) = if is_gt (due_cmp t u) then u else t
