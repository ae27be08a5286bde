-- Calls that are passed on to a disk, whole or a part of them.
use Rattle.std.proofs.Common.{◌≡◌, ℕ, ◌+◌, ◌≤◌, List, length, take, drop, refl, sym, ◌∙◌, subst, ap, arith, length-take}
use Rattle.std.specs.Prelude.{Ok, Err}
use Rattle.qz_disk.specs.Disk.{DiskState, written, Torn, Reads, Writes}
use Rattle.qz_disk.specs.Handle.{ReadsPart, WritesPart}
use Rattle.qz_disk.proofs.Moments.{no_len, no_sync, no_restart}
use Rattle.qz_disk.proofs.Handles.{part_unread, part_unwritten}
use Rattle.qz_disk.proofs.Torn.{torn_wider}

pub unread : {E : Type 0} (e : E) (at : ℕ) (into : List ℕ) (s : DiskState) → ReadsPart at (Err e) into s s
unread e at into s = part_unread e at into s s (no_len s)

pub unwritten : {E : Type 0} (e : E) (at : ℕ) (bytes : List ℕ) (s : DiskState) → WritesPart at bytes (Err e) s s
unwritten e at bytes s = part_unwritten e at bytes s s (no_len s)

pub read_ok : {T E F : Type 0} (x : T) (k at : ℕ) (into sub : List ℕ) (s t : DiskState) → length sub ≡ k → take k into ≡ sub → Reads {E = E} at (Ok x) sub s t → ReadsPart {E = F} at (Ok k) into s t
read_ok x k at into sub s t long front told = record {
  time = told.time;
  same = told.same;
  bytes = front ∙ told.bytes ∙ ap (λ j. take j (drop at s.content)) long;
  bytes_read = told.bytes_read ∙ ap (λ j. s.bytes_read + j) long;
  failed = tt;
}

pub read_err : {T E F : Type 0} (e : E) (f : F) (at : ℕ) (into sub : List ℕ) (s t : DiskState) → length sub ≤ length into → Reads {T = T} at (Err e) sub s t → ReadsPart at (Err f) into s t
read_err e f at into sub s t short told = record {
  time = told.time;
  same = told.same;
  bytes = refl;
  bytes_read = tt;
  failed = (told.failed.0, omega (arith, told.failed.1));
}

pub write_ok : {T E F : Type 0} (x : T) (k at : ℕ) (from sub : List ℕ) (s t : DiskState) → k ≤ length from → sub ≡ take k from → Writes {E = E} at sub (Ok x) s t → WritesPart {E = F} at from (Ok k) s t
write_ok x k at from sub s t short front told =
    let long : length sub ≡ k = omega (arith, ap length front, length-take k from) in
    record {
      time = told.time;
      content = told.content ∙ ap (λ (l : List ℕ). written at l s.content) front;
      failed = tt;
      images = λ b is. let was = told.images b is in (was.0, was.1, subst (λ j. Torn at j was.0 b) long was.2);
      any_bytes = λ a b is torn. told.any_bytes a b is (subst (λ j. Torn at j a b) (sym long) torn);
      keeps = told.keeps;
      bytes_read = told.bytes_read;
    }

pub write_err : {T E F : Type 0} (e : E) (f : F) (at : ℕ) (from sub : List ℕ) (s t : DiskState) → length sub ≤ length from → Writes {T = T} at sub (Err e) s t → WritesPart at from (Err f) s t
write_err e f at from sub s t short told = record {
  time = told.time;
  content = tt;
  failed = torn_wider at (length sub) (length from) s.content t.content short told.failed;
  images = λ b is. let was = told.images b is in (was.0, was.1, torn_wider at (length sub) (length from) was.0 b short was.2);
  any_bytes = tt;
  keeps = told.keeps;
  bytes_read = told.bytes_read;
}

pub ruleset passed_on = (no_len, no_sync, no_restart, unread, unwritten)
