-- What the groups of device calls leave, from what each call does.
use Rattle.std.proofs.Common.{◌≡◌, ℕ, ◌+◌, ◌≤◌, List, length, Result, refl, sym, ◌∙◌, subst, arith}
use Rattle.std.specs.Prelude.{Ok, Err, OnOk}
use Rattle.std.specs.Result.{IsErr}
use Rattle.qz_disk.specs.Disk.{DiskState, Torn, Only, LeavesOnly, IsLawful, Reads, Writes, Syncs, written}
use Rattle.qz_disk.proofs.Moments.{started, goes_on, then_leaves, torn_same}
use Rattle.qz_journal.specs.Through.{PutsThrough, OnlyReads, OnlyReadsUnless, ReadsBetween}
use Rattle.qz_journal.proofs.Undecided.{was_image}

-- nothing was read
pub reads_nothing : (P : Type 0) (s t : DiskState) → ((P → ⊥) → t.content ≡ s.content) → LeavesOnly s t s.IsImage → t.bytes_read ≡ s.bytes_read → OnlyReadsUnless P s t
reads_nothing P s t content leaves none = record { content = content; any_moment = leaves; bytes_read = omega (arith, none) }

-- one read, whether it failed or not
pub read_between : {T E : Type 0} (r : Result T E) (at : ℕ) (into : List ℕ) (s t : DiskState) → IsLawful s → Reads at r into s t → ReadsBetween at (at + length into) s t
read_between r at into s t lawful told = record {
  content = told.same.content;
  any_moment = goes_on s s t s.IsImage (started s s.IsImage lawful (λ b is. is)) told.time (λ b is. (told.same.images b).0 is);
  bytes_read = most r told;
}
  where
    most : {T E : Type 0} (r : Result T E) → Reads at r into s t → t.bytes_read + at ≤ s.bytes_read + (at + length into)
    most (Ok x) told = omega (arith, told.bytes_read)
    most (Err e) told = omega (arith, told.failed.1)

-- no call
pub none_between : (from until : ℕ) (s : DiskState) → IsLawful s → from ≤ until → ReadsBetween from until s s
none_between from until s lawful le = record { content = refl; any_moment = started s s.IsImage lawful (λ b is. is); bytes_read = omega (arith, le) }

-- one run of reads after another
pub between_then : (from mid until : ℕ) (s m t : DiskState) → IsLawful m → ReadsBetween from mid s m → ReadsBetween mid until m t → ReadsBetween from until s t
between_then from mid until s m t lawful first second = record {
  content = second.content ∙ first.content;
  any_moment = then_leaves s m t s.IsImage m.IsImage s.IsImage first.any_moment second.any_moment (λ b is. is) (λ b is. was_image s m lawful first.any_moment b is);
  bytes_read = omega (arith, first.bytes_read, second.bytes_read);
}

pub between_more : (from until more : ℕ) (s t : DiskState) → until ≤ more → ReadsBetween from until s t → ReadsBetween from more s t
between_more from until more s t le reads = record { content = reads.content; any_moment = reads.any_moment; bytes_read = omega (arith, le, reads.bytes_read) }

-- a sync and the length, and then reads
pub synced_then : (until : ℕ) (s m t : DiskState) → IsLawful m → m.content ≡ s.content → LeavesOnly s m s.IsImage → m.bytes_read ≡ s.bytes_read → ReadsBetween 0 until m t → ReadsBetween 0 until s t
synced_then until s m t lawful content leaves none reads =
    between_then 0 0 until s m t lawful (record { content = content; any_moment = leaves; bytes_read = omega (arith, none) }) reads

pub only_reads : (until : ℕ) (s t : DiskState) → until ≤ length s.content → ReadsBetween 0 until s t → OnlyReads s t
only_reads until s t le reads = record { content = reads.content; any_moment = reads.any_moment; bytes_read = omega (arith, le, reads.bytes_read) }

pub only_reads_unless : (P : Type 0) (until : ℕ) (s t : DiskState) → until ≤ length s.content → ReadsBetween 0 until s t → OnlyReadsUnless P s t
only_reads_unless P until s t le reads = record { content = λ _. reads.content; any_moment = reads.any_moment; bytes_read = omega (arith, le, reads.bytes_read) }

pub still_only : (from until : ℕ) (s t : DiskState) → IsLawful t → ReadsBetween from until s t → Only s.content s → Only t.content t
still_only from until s t lawful reads only b is = only b (was_image s t lawful reads.any_moment b is) ∙ sym reads.content

pub unless_by : (P Q : Type 0) (s t : DiskState) → (P → Q) → OnlyReadsUnless P s t → OnlyReadsUnless Q s t
unless_by P Q s t by reads = record { content = λ not_q. reads.content (λ p. not_q (by p)); any_moment = reads.any_moment; bytes_read = reads.bytes_read }

pub unless : (P : Type 0) (s t : DiskState) → OnlyReads s t → OnlyReadsUnless P s t
unless P s t reads = record { content = λ _. reads.content; any_moment = reads.any_moment; bytes_read = reads.bytes_read }

pub write_leaves : {T E : Type 0} (r : Result T E) (at : ℕ) (bytes from : List ℕ) (s t : DiskState) → IsLawful s → Writes at bytes r s t → Only from s → LeavesOnly s t (Torn at (length bytes) from)
write_leaves r at bytes from s t lawful told only =
    goes_on s s t (Torn at (length bytes) from) (started s (Torn at (length bytes) from) lawful (λ b is. subst (Torn at (length bytes) from) (sym (only b is)) (torn_same at (length bytes) from))) told.time
    (λ b is. let was = told.images b is in subst (λ (a : List ℕ). Torn at (length bytes) a b) (only was.0 was.1) was.2)

-- a write that failed
pub put_failed : {T E U : Type 0} (e : E) (r : Result T E) (at : ℕ) (bytes : List ℕ) (s t : DiskState) → IsErr r → IsLawful s → Writes {T = U} at bytes (Err e) s t → PutsThrough at bytes r s t
put_failed e (Ok x) at bytes s t failed lawful told = cc
put_failed e (Err f) at bytes s t failed lawful told = record {
  content = tt;
  durable = tt;
  any_moment = λ from only. write_leaves (Err e) at bytes from s t lawful told only;
  bytes_read = told.bytes_read;
}

-- a write, and a sync
pub puts : {T U E : Type 0} (x : U) (r : Result T E) (at : ℕ) (bytes : List ℕ) (s m t : DiskState) → IsLawful s → IsLawful m → Writes {E = E} at bytes (Ok x) s m → Syncs r m t → PutsThrough at bytes r s t
puts x r at bytes s m t before between wrote synced = record {
  content = wrote_through r synced;
  durable = stands r synced;
  any_moment = λ from only.
      let leaves = write_leaves (Ok x) at bytes from s m before wrote only in
      goes_on s m t (Torn at (length bytes) from) leaves synced.time
      (λ b is. let was = wrote.images b (synced.images b is) in subst (λ (a : List ℕ). Torn at (length bytes) a b) (only was.0 was.1) was.2);
  bytes_read = synced.bytes_read ∙ wrote.bytes_read;
}
  where
    stands : {T E : Type 0} (r : Result T E) → Syncs r m t → OnOk r (Only t.content t)
    stands (Ok y) synced = λ b is. synced.durable b is ∙ sym synced.content
    stands (Err e) synced = tt

    wrote_through : {T E : Type 0} (r : Result T E) → Syncs r m t → OnOk r (t.content ≡ written at bytes s.content)
    wrote_through (Ok y) synced = synced.content ∙ wrote.content
    wrote_through (Err e) synced = tt
