-- Calls that do nothing, and how a run of calls goes on.
use Rattle.std.proofs.Common.{inl, inr, ⊎_elim, ℕ, List, refl, arith}
use Rattle.std.specs.Prelude.{Err}
use Rattle.qz_disk.specs.Disk.{DiskState, Torn, Stays, Elapses, IsLawful, Measured, Reads, Writes, Syncs, Restarts, LeavesOnly}

pub elapses_same : (s : DiskState) → Elapses s s
elapses_same s = record { later = omega arith; nothing_else = λ t b le since. inl since; keeps = λ t b le since. since }

pub stays_same : (s : DiskState) → Stays s s
stays_same s = record { content = refl; images = λ b. (λ is. is, λ is. is) }

pub torn_same : (at count : ℕ) (b : List ℕ) → Torn at count b b
torn_same at count b = record { before = refl; behind = refl; no_shorter = omega arith; no_longer = omega arith }

pub no_len : (s : DiskState) → Measured s s
no_len s = record { time = elapses_same s; same = stays_same s; bytes_read = refl }

pub no_read : {T E : Type 0} (at : ℕ) (e : E) (into : List ℕ) (s : DiskState) → Reads {T = T} at (Err e) into s s
no_read at e into s = record { time = elapses_same s; same = stays_same s; bytes = tt; bytes_read = tt; failed = (omega arith, omega arith) }

pub no_write : {T E : Type 0} (at : ℕ) (bytes : List ℕ) (e : E) (s : DiskState) → Writes {T = T} at bytes (Err e) s s
no_write at bytes e s = record { time = elapses_same s; content = tt; failed = torn_same _ _ _; images = λ b is. (b, is, torn_same _ _ _); any_bytes = tt; keeps = λ b is. is; bytes_read = refl }

pub no_sync : {T E : Type 0} (e : E) (s : DiskState) → Syncs {T = T} (Err e) s s
no_sync e s = record { time = elapses_same s; content = tt; durable = tt; images = λ b is. is; bytes_read = refl }

pub no_restart : {T E : Type 0} (e : E) (s : DiskState) → Restarts {T = T} (Err e) s s
no_restart e s = record { time = elapses_same s; image = tt; durable = tt; failed = stays_same s; bytes_read = refl }

pub ruleset no_call = (no_len, no_read, no_write, no_sync, no_restart)

-- before the first call
pub started : (s : DiskState) (P : List ℕ → Type 0) → IsLawful s → ((b : List ℕ) → s.IsImage b → P b) → LeavesOnly s s P
started s P lawful here = record { later = omega arith; each = λ b since. here b (lawful.only_now b since); before = λ t b le since. inl since }

-- one call more
pub goes_on : (old mid new : DiskState) (P : List ℕ → Type 0) → LeavesOnly old mid P → Elapses mid new → ((b : List ℕ) → new.IsImage b → P b) → LeavesOnly old new P
goes_on old mid new P so_far time here = record {
  later = omega (arith, so_far.later, time.later);
  each = λ b since. ⊎_elim (so_far.each b) (here b) (time.nothing_else old.clock b so_far.later since);
  before = λ t b le since. ⊎_elim (so_far.before t b le) (λ now. inr (here b now)) (time.nothing_else t b (omega (arith, le, so_far.later)) since);
}

-- one run behind another
pub then_leaves : (old mid new : DiskState) (P Q R : List ℕ → Type 0) → LeavesOnly old mid P → LeavesOnly mid new Q → ((b : List ℕ) → P b → R b) → ((b : List ℕ) → Q b → R b) → LeavesOnly old new R
then_leaves old mid new P Q R first second p q = record {
  later = omega (arith, first.later, second.later);
  each = λ b since. ⊎_elim (λ was. p b (first.each b was)) (q b) (second.before old.clock b first.later since);
  before = λ t b le since. ⊎_elim (λ was. ⊎_elim inl (λ x. inr (p b x)) (first.before t b le was)) (λ x. inr (q b x)) (second.before t b (omega (arith, le, first.later)) since);
}

pub weaker : (old new : DiskState) (P Q : List ℕ → Type 0) → LeavesOnly old new P → ((b : List ℕ) → P b → Q b) → LeavesOnly old new Q
weaker old new P Q leaves q = record { later = leaves.later; each = λ b since. q b (leaves.each b since); before = λ t b le since. ⊎_elim inl (λ x. inr (q b x)) (leaves.before t b le since) }

-- the content is one of the images of this moment
pub content_among : (old new : DiskState) (P : List ℕ → Type 0) → IsLawful new → LeavesOnly old new P → P new.content
content_among old new P lawful leaves = leaves.each new.content (lawful.counts_now old.clock new.content leaves.later lawful.content)
