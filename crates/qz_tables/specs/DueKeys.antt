-- The due queue of the triggers: those that wait, in due order, and then the others.
use Rattle.std.specs.Prelude.{◌≡◌, ◌≢◌, ℕ, ℤ, Bool, not, List, Option, Some, None, false, ◌||◌, IsSomeAnd, option_map, slice_index_or}
use Rattle.std.specs.Ordering.{bool_cmp, int_cmp, nat_cmp, ordering_then, is_lt}
use Rattle.std.specs.declared.cmp.Ordering.{Ordering}
use Rattle.qz_types.specs.Due.{is_waiting, next_cmp}
use Rattle.qz_types.specs.Rows.{TriggerData}
use Rattle.qz_types.specs.Words.{key_cmp}
use Rattle.qz_types.specs.declared.keys.Key.{Key}
use Rattle.qz_queue.specs.Order.{key_of}

-- What the queue has of a trigger: whether it rests, by what it is due, and the slot of its row.
pub record DueData : Type 0 where
  pub rests : Bool
  pub next : Option ℤ
  pub priority : ℤ
  pub key : Key
  pub slot : ℕ

-- of the trigger in this slot
abbrev pub due_of : ℕ → TriggerData → DueData
due_of slot t = record { rests = not (is_waiting t.state); next = t.next; priority = t.spec.priority; key = t.spec.key; slot = slot }

-- those that wait first, then by next time, then the greater priority
abbrev pub time_cmp : DueData → DueData → Ordering
time_cmp a b = ordering_then (bool_cmp a.rests b.rests) (ordering_then (next_cmp a.next b.next) (int_cmp b.priority a.priority))

-- then by the key. No two triggers have one key, but the slot makes this an order of all such data.
abbrev pub queue_cmp : DueData → DueData → Ordering
queue_cmp a b = ordering_then (time_cmp a b) (ordering_then (key_cmp a.key b.key) (nat_cmp a.slot b.slot))

-- the row in this slot, if a slot is given
abbrev pub row_in : List (Option TriggerData) → Option ℕ → Option TriggerData
row_in slots None = None
row_in slots (Some slot) = slice_index_or slots slot None

-- what the queue would have of the trigger in this slot if it waited
abbrev pub after_key : List (Option TriggerData) → Option ℕ → Option DueData
after_key slots None = None
after_key slots (Some slot) = option_map (λ t. record (due_of slot t) { rests = false }) (slice_index_or slots slot None)

-- the row rests, or passes
abbrev pub rests_or_passes : (TriggerData → Bool) → Option TriggerData → Bool
rests_or_passes p None = false
rests_or_passes p (Some t) = not (is_waiting t.state) || p t

unfoldable pub is_sooner : DueData → DueData → Bool
is_sooner a b = is_lt (queue_cmp a b)

-- the row in the slot has the key
abbrev pub IsKeyOfRow : List (Option TriggerData) → DueData → Type 0
IsKeyOfRow slots d = IsSomeAnd (slice_index_or slots d.slot None) (λ r. r.spec.key ≡ d.key)

-- this is of the slot, and the row there has the key
abbrev pub IsOwn : List (Option TriggerData) → ℕ → DueData → Type 0
IsOwn slots s d = (d.slot ≡ s) × IsSomeAnd (slice_index_or slots s None) (λ r. r.spec.key ≡ d.key)

module _ (slots : List (Option TriggerData)) (pairs : List (DueData × ℕ)) where
  -- the queue has of this slot what its row says
  abbrev pub IsTold : ℕ → Type 0
  IsTold slot = key_of slot pairs ≡ option_map (due_of slot) (slice_index_or slots slot None)

  -- of each slot the queue has what its row says
  pub record IsInStep : Type 0 where
    pub each : (slot : ℕ) → IsTold slot

  -- of each slot but this one
  pub record IsInStepBut (slot : ℕ) : Type 0 where
    pub each : (other : ℕ) → other ≢ slot → IsTold other
