-- What became of a store since it was put under its row.
use Rattle.std.specs.Prelude.{◌≡◌, ℕ, ◌+◌, ◌^◌, ◌≤◌, true, false, List, [], ◌∷◌, length, drop, sum_by}
use Rattle.qz_civil.specs.Causes.{Rose}
use Rattle.qz_journal.specs.Commits.{need_of}
use Rattle.qz_stores.specs.Stores.{EntryKind, StoreState}

-- a history with these entries after it
abbrev pub with_entries : {H E R : Type 0} → EntryKind H E R → H → List E → H
with_entries kind h [] = h
with_entries kind h (e ∷ es) = with_entries kind (kind.with_entry e h) es

-- the bytes that the records of these entries take in a journal
abbrev pub needs : {E : Type 0} → (E → ℕ) → List E → ℕ
needs size entries = sum_by (λ e. need_of (size e)) entries

-- what a list of entries has after those of the first state
abbrev pub further : {H E : Type 0} → (H → List E) → StoreState H E → List E → List E
further listed first entries = drop (length (listed first.history)) entries

-- the history that lists these entries, where they begin with those of the first state
abbrev pub history_at : {H E R : Type 0} → EntryKind H E R → (H → List E) → StoreState H E → List E → H
history_at kind listed first entries = with_entries kind first.history (further listed first entries)

-- the offset of the journal's gate after them
abbrev pub gate_at : {H E R : Type 0} → EntryKind H E R → (H → List E) → StoreState H E → List E → ℕ
gate_at kind listed first entries = first.gate + needs kind.size (further listed first entries)

-- the number of payloads before that gate
abbrev pub payloads_at : {H E : Type 0} → (H → List E) → StoreState H E → List E → ℕ
payloads_at listed first entries = first.payloads + length (further listed first entries)

-- Since the first state only entries were added, each with its record, and no more of them than a journal takes. The
-- store was closed only if its disk's count of faults rose.
pub record IsSince {H E R : Type 0} (kind : EntryKind H E R) (listed : H → List E) (first now : StoreState H E) : Type 0 where
  pub history : now.history ≡ history_at kind listed first (listed now.history)
  pub gate : now.gate ≡ gate_at kind listed first (listed now.history)
  pub payloads : now.payloads ≡ payloads_at listed first (listed now.history)
  pub few : length (further listed first (listed now.history)) ≤ 2 ^ 23
  pub later : first.faults ≤ now.faults
  pub fault : first.is_open ≡ true → now.is_open ≡ false → Rose first.faults now.faults
