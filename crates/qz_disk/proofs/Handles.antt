-- Calls of an open file, one after another.
use Rattle.std.proofs.Common.{inl, inr, ⊎_elim, ℕ, ◌<◌, ◌≤◌, List, length, take, drop, refl, sym, ◌∙◌, ap, subst, arith}
use Rattle.std.specs.Prelude.{Ok, Err}
use Rattle.std.specs.declared.result.Result.{Result}
use Rattle.qz_civil.specs.Causes.{Rose}
use Rattle.qz_disk.specs.Disk.{DiskState, written, Torn, Stays, Elapses, IsLawful, Measured, Syncs, Restarts}
use Rattle.qz_disk.specs.Handle.{ReadsPart, WritesPart}
use Rattle.qz_disk.proofs.Moments.{torn_same}

-- Calls that were interrupted so many times: nothing changed but the count of faults.
pub record IsWaiting (times faults now : ℕ) (honest SameLength : Type 0) (old new : DiskState) : Type 0 where
  pub later : faults ≤ now
  pub rose : 0 < times → Rose faults now
  pub length : SameLength
  pub told : honest → Measured old new

pub stays_then : (a m n : DiskState) → Stays a m → Stays m n → Stays a n
stays_then a m n first second = record {
  content = second.content ∙ first.content;
  images = λ b. (λ is. (first.images b).0 ((second.images b).0 is), λ is. (second.images b).1 ((first.images b).1 is));
}

-- the second call takes no image away
pub elapses_then : (a m n : DiskState) → Elapses a m → Elapses m n → ((b : List ℕ) → m.IsImage b → n.IsImage b) → Elapses a n
elapses_then a m n first second keeps = record {
  later = omega (arith, first.later, second.later);
  nothing_else = λ t b le since. ⊎_elim (λ was. ⊎_elim inl (λ x. inr (keeps b x)) (first.nothing_else t b le was)) inr (second.nothing_else t b (omega (arith, le, first.later)) since);
  keeps = λ t b le was. second.keeps t b (omega (arith, le, first.later)) (first.keeps t b le was);
}

-- the first call adds no image
pub elapses_from : (a m n : DiskState) → IsLawful a → Elapses a m → Elapses m n → ((b : List ℕ) → m.IsImage b → a.IsImage b) → Elapses a n
elapses_from a m n lawful first second back = record {
  later = omega (arith, first.later, second.later);
  nothing_else = λ t b le since. ⊎_elim (λ was. ⊎_elim inl (λ x. inl (lawful.counts_now t b le (back b x))) (first.nothing_else t b le was)) inr (second.nothing_else t b (omega (arith, le, first.later)) since);
  keeps = λ t b le was. second.keeps t b (omega (arith, le, first.later)) (first.keeps t b le was);
}

pub measured_then : (a m n : DiskState) → Measured a m → Measured m n → Measured a n
measured_then a m n first second = record {
  time = elapses_then a m n first.time second.time (λ b is. (second.same.images b).1 is);
  same = stays_then a m n first.same second.same;
  bytes_read = second.bytes_read ∙ first.bytes_read;
}

pub syncs_then : {T E : Type 0} (r : Result T E) (a m n : DiskState) → IsLawful a → Measured a m → Syncs r m n → Syncs r a n
syncs_then (Ok x) a m n lawful first second = record {
  time = elapses_from a m n lawful first.time second.time (λ b is. (first.same.images b).0 is);
  content = second.content ∙ first.same.content;
  durable = λ b is. second.durable b is ∙ first.same.content;
  images = λ b is. (first.same.images b).0 (second.images b is);
  bytes_read = second.bytes_read ∙ first.bytes_read;
}
syncs_then (Err e) a m n lawful first second = record {
  time = elapses_from a m n lawful first.time second.time (λ b is. (first.same.images b).0 is);
  content = tt;
  durable = tt;
  images = λ b is. (first.same.images b).0 (second.images b is);
  bytes_read = second.bytes_read ∙ first.bytes_read;
}

pub syncs_err : {T U E F : Type 0} (e : E) (f : F) (a n : DiskState) → Syncs {T = T} (Err e) a n → Syncs {T = U} (Err f) a n
syncs_err e f a n told = record { time = told.time; content = tt; durable = tt; images = told.images; bytes_read = told.bytes_read }

pub syncs_ok : {T U E F : Type 0} (x : T) (y : U) (a n : DiskState) → Syncs {E = E} (Ok x) a n → Syncs {E = F} (Ok y) a n
syncs_ok x y a n told = record { time = told.time; content = told.content; durable = told.durable; images = told.images; bytes_read = told.bytes_read }

pub syncs_gave_up : {T E : Type 0} (e : E) (a n : DiskState) → Measured a n → Syncs {T = T} (Err e) a n
syncs_gave_up e a n told = record { time = told.time; content = tt; durable = tt; images = λ b is. (told.same.images b).0 is; bytes_read = told.bytes_read }

pub restarts_ok : {T U E F : Type 0} (x : T) (y : U) (a m n : DiskState) → IsLawful a → Measured a m → Restarts {E = E} (Ok x) m n → Restarts {E = F} (Ok y) a n
restarts_ok x y a m n lawful first second = record {
  time = elapses_from a m n lawful first.time second.time (λ b is. (first.same.images b).0 is);
  image = (first.same.images n.content).0 second.image;
  durable = second.durable;
  failed = tt;
  bytes_read = second.bytes_read ∙ first.bytes_read;
}

pub restarts_err : {T U E F : Type 0} (e : E) (f : F) (a m n : DiskState) → Measured a m → Restarts {T = T} (Err e) m n → Restarts {T = U} (Err f) a n
restarts_err e f a m n first second = record {
  time = elapses_then a m n first.time second.time (λ b is. (second.failed.images b).1 is);
  image = tt;
  durable = tt;
  failed = stays_then a m n first.same second.failed;
  bytes_read = second.bytes_read ∙ first.bytes_read;
}

pub restarts_gave_up : {T E : Type 0} (e : E) (a n : DiskState) → Measured a n → Restarts {T = T} (Err e) a n
restarts_gave_up e a n told = record { time = told.time; image = tt; durable = tt; failed = told.same; bytes_read = told.bytes_read }

-- reads

pub part_unread : {E : Type 0} (e : E) (at : ℕ) (into : List ℕ) (a n : DiskState) → Measured a n → ReadsPart at (Err e) into a n
part_unread e at into a n told = record { time = told.time; same = told.same; bytes = refl; bytes_read = tt; failed = (omega (arith, told.bytes_read), omega (arith, told.bytes_read)) }

pub part_broken : {E F : Type 0} (e : E) (f : F) (at : ℕ) (into : List ℕ) (a m n : DiskState) → Measured a m → ReadsPart at (Err e) into m n → ReadsPart at (Err f) into a n
part_broken e f at into a m n first second = record {
  time = elapses_then a m n first.time second.time (λ b is. (second.same.images b).1 is);
  same = stays_then a m n first.same second.same;
  bytes = refl;
  bytes_read = tt;
  failed = (omega (arith, first.bytes_read, second.failed), omega (arith, first.bytes_read, second.failed));
}

pub part_read : {E F : Type 0} (k at : ℕ) (into : List ℕ) (a m n : DiskState) → Measured a m → ReadsPart {E = E} at (Ok k) into m n → ReadsPart {E = F} at (Ok k) into a n
part_read k at into a m n first second = record {
  time = elapses_then a m n first.time second.time (λ b is. (second.same.images b).1 is);
  same = stays_then a m n first.same second.same;
  bytes = second.bytes ∙ ap (λ (l : List ℕ). take k (drop at l)) first.same.content;
  bytes_read = omega (arith, second.bytes_read, first.bytes_read);
  failed = tt;
}

-- writes

pub part_unwritten : {E : Type 0} (e : E) (at : ℕ) (bytes : List ℕ) (a n : DiskState) → Measured a n → WritesPart at bytes (Err e) a n
part_unwritten e at bytes a n told = record {
  time = told.time;
  content = tt;
  failed = subst (λ (l : List ℕ). Torn at (length bytes) a.content l) (sym told.same.content) (torn_same at (length bytes) a.content);
  images = λ b is. (b, (told.same.images b).0 is, torn_same at (length bytes) b);
  any_bytes = tt;
  keeps = λ b is. (told.same.images b).1 is;
  bytes_read = told.bytes_read;
}

pub part_written : {E F : Type 0} (k at : ℕ) (bytes : List ℕ) (a m n : DiskState) → Measured a m → WritesPart {E = E} at bytes (Ok k) m n → WritesPart {E = F} at bytes (Ok k) a n
part_written k at bytes a m n first second = record {
  time = elapses_then a m n first.time second.time second.keeps;
  content = second.content ∙ ap (λ (l : List ℕ). written at (take k bytes) l) first.same.content;
  failed = tt;
  images = λ b is. let was = second.images b is in (was.0, (first.same.images was.0).0 was.1, was.2);
  any_bytes = λ x b is torn. second.any_bytes x b ((first.same.images x).1 is) torn;
  keeps = λ b is. second.keeps b ((first.same.images b).1 is);
  bytes_read = second.bytes_read ∙ first.bytes_read;
}

pub part_torn : {E F : Type 0} (e : E) (f : F) (at : ℕ) (bytes : List ℕ) (a m n : DiskState) → Measured a m → WritesPart at bytes (Err e) m n → WritesPart at bytes (Err f) a n
part_torn e f at bytes a m n first second = record {
  time = elapses_then a m n first.time second.time second.keeps;
  content = tt;
  failed = subst (λ (l : List ℕ). Torn at (length bytes) l n.content) first.same.content second.failed;
  images = λ b is. let was = second.images b is in (was.0, (first.same.images was.0).0 was.1, was.2);
  any_bytes = tt;
  keeps = λ b is. second.keeps b ((first.same.images b).1 is);
  bytes_read = second.bytes_read ∙ first.bytes_read;
}
