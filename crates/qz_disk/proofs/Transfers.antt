-- Reads and writes of parts, until all is done.
use Rattle.std.proofs.Common.{◌≡◌, ℕ, ◌+◌, ◌-◌, ◌^◌, ◌<◌, ◌≤◌, List, ◌++◌, length, take, drop, refl, sym, ◌∙◌, ap, subst, arith, drop-drop, length-append, length-take, length-drop}
use Rattle.std.specs.Prelude.{Ok, Err}
use Rattle.std.specs.Result.{IsErr}
use Rattle.std.specs.declared.result.Result.{Result}
use Rattle.std.proofs.lemmas.List.{take_all}
use Rattle.std.proofs.lemmas.Slice.{take-put_mid}
use borrow.Rule.Slice.PartMut.{put_mid, same_len_mid}
use Rattle.qz_disk.specs.Disk.{DiskState, written, Torn, Reads, Writes}
use Rattle.qz_disk.specs.Handle.{ReadsPart, WritesPart}
use Rattle.qz_disk.proofs.Moments.{elapses_same, stays_same}
use Rattle.qz_disk.proofs.Handles.{stays_then, elapses_then}
use Rattle.qz_disk.proofs.Torn.{take_split, take_front, drop_front, written-written, torn-written, torn_then, between, torn_first, torn_second}

-- So many bytes of those asked were moved, from this offset on.
pub record IsTransfer (done at asked faults now : ℕ) (Length Told : Type 0) : Type 0 where
  pub within : done ≤ asked
  pub fits : at + done < 2 ^ 64
  pub later : faults ≤ now
  pub length : Length
  pub told : Told

pub read_begun : {E : Type 0} (at : ℕ) (into : List ℕ) (s : DiskState) → ReadsPart {E = E} at (Ok 0) into s s
read_begun at into s = record { time = elapses_same s; same = stays_same s; bytes = refl; bytes_read = omega arith; failed = tt }

pub read_more : {E F G : Type 0} (d k at : ℕ) (into sub : List ℕ) (a m n : DiskState) → d ≤ length into → ReadsPart {E = E} at (Ok d) into a m → ReadsPart {E = F} (at + d) (Ok k) sub m n → ReadsPart {E = G} at (Ok (d + k)) (take d into ++ sub) a n
read_more d k at into sub a m n within first second = record {
  time = elapses_then a m n first.time second.time (λ b is. (second.same.images b).1 is);
  same = stays_then a m n first.same second.same;
  bytes =
      let front : length (take d into) ≡ d = omega (arith, length-take d into) in
      take_split d k (take d into ++ sub)
      ∙ ap (λ (l : List ℕ). l ++ take k (drop d (take d into ++ sub))) (take_front d (take d into) sub front ∙ first.bytes)
      ∙ ap (λ (l : List ℕ). take d (drop at a.content) ++ take k l) (drop_front d (take d into) sub front)
      ∙ ap (λ (l : List ℕ). take d (drop at a.content) ++ l) (second.bytes ∙ ap (λ (l : List ℕ). take k (drop (at + d) l)) first.same.content ∙ ap (λ (l : List ℕ). take k l) (sym (drop-drop d at a.content)))
      ∙ sym (take_split d k (drop at a.content));
  bytes_read = omega (arith, first.bytes_read, second.bytes_read);
  failed = tt;
}

-- all that stands from an offset on
pub rest_is : (d : ℕ) (l : List ℕ) → take (length l - d) (drop d l) ≡ drop d l
rest_is d l = take_all (length l - d) (drop d l) (omega (arith, length-drop d l))

-- a buffer whose rest was written
pub put_rest_length : (d : ℕ) (into sub : List ℕ) → length sub ≡ length (take (length into - d) (drop d into)) → length (put_mid d (length into - d) into sub) ≡ length into
put_rest_length d into sub long = same_len_mid d (length into - d) into sub long

pub put_rest : (d : ℕ) (into sub : List ℕ) → d ≤ length into → length sub ≡ length (take (length into - d) (drop d into)) → put_mid d (length into - d) into sub ≡ take d into ++ sub
put_rest d into sub within long =
    sym (take_all (length into) (put_mid d (length into - d) into sub) (omega (arith, put_rest_length d into sub long)))
    ∙ take-put_mid d (length into - d) into sub (length into) (omega (arith, long, length-take (length into - d) (drop d into), length-drop d into)) (omega arith)

pub read_done : {T E F : Type 0} (x : T) (d at : ℕ) (into : List ℕ) (a n : DiskState) → d ≡ length into → ReadsPart {E = E} at (Ok d) into a n → Reads {E = F} at (Ok x) into a n
read_done x d at into a n all told = record {
  time = told.time;
  same = told.same;
  bytes = sym (take_all d into (omega arith)) ∙ told.bytes ∙ ap (λ j. take j (drop at a.content)) all;
  bytes_read = omega (arith, told.bytes_read);
  failed = tt;
}

pub read_broken : {T E F G : Type 0} (r : Result T E) (e : F) (d at : ℕ) (into sub : List ℕ) (a m n : DiskState) → IsErr r → d ≤ length into → ReadsPart {E = G} at (Ok d) into a m → ReadsPart (at + d) (Err e) sub m n → Reads at r (take d into ++ sub) a n
read_broken (Ok x) e d at into sub a m n failed within first second = cc
read_broken (Err f) e d at into sub a m n failed within first second = record {
  time = elapses_then a m n first.time second.time (λ b is. (second.same.images b).1 is);
  same = stays_then a m n first.same second.same;
  bytes = tt;
  bytes_read = tt;
  failed = (omega (arith, first.bytes_read, second.failed), omega (arith, first.bytes_read, second.failed, length-append (take d into) sub, length-take d into));
}

pub write_more : {E F G : Type 0} (d k at : ℕ) (from : List ℕ) (a m n : DiskState) → at ≤ length a.content → d + k ≤ length from → WritesPart {E = E} at from (Ok d) a m → WritesPart {E = F} (at + d) (drop d from) (Ok k) m n → WritesPart {E = G} at from (Ok (d + k)) a n
write_more d k at from a m n within enough first second = record {
  time = elapses_then a m n first.time second.time second.keeps;
  content =
      let long : length (take d from) ≡ d = omega (arith, length-take d from) in
      second.content
      ∙ ap (λ (l : List ℕ). written (at + d) (take k (drop d from)) l) first.content
      ∙ ap (λ j. written (at + j) (take k (drop d from)) (written at (take d from) a.content)) (sym long)
      ∙ written-written at (take d from) (take k (drop d from)) a.content within
      ∙ ap (λ (l : List ℕ). written at l a.content) (sym (take_split d k from));
  failed = tt;
  images = λ b is.
      let was = second.images b is in
      let before = first.images was.0 was.1 in
      (before.0, before.1, torn_then at d k before.0 was.0 b before.2 was.2);
  any_bytes = λ x b is torn. second.any_bytes (between (at + d) x b) b (first.any_bytes x (between (at + d) x b) is (torn_first at d k x b torn)) (torn_second at d k x b torn);
  keeps = λ b is. second.keeps b (first.keeps b is);
  bytes_read = second.bytes_read ∙ first.bytes_read;
}

pub write_done : {T E F : Type 0} (x : T) (d at : ℕ) (from : List ℕ) (a n : DiskState) → d ≡ length from → WritesPart {E = E} at from (Ok d) a n → Writes {E = F} at from (Ok x) a n
write_done x d at from a n all told = record {
  time = told.time;
  content = told.content ∙ ap (λ (l : List ℕ). written at l a.content) (take_all d from (omega arith));
  failed = tt;
  images = λ b is. let was = told.images b is in (was.0, was.1, subst (λ j. Torn at j was.0 b) all was.2);
  any_bytes = λ y b is torn. told.any_bytes y b is (subst (λ j. Torn at j y b) (sym all) torn);
  keeps = told.keeps;
  bytes_read = told.bytes_read;
}

pub write_unbegun : {T E F : Type 0} (r : Result T E) (e : F) (at : ℕ) (from : List ℕ) (a n : DiskState) → IsErr r → WritesPart at from (Err e) a n → Writes at from r a n
write_unbegun (Ok x) e at from a n failed told = cc
write_unbegun (Err f) e at from a n failed told = record {
  time = told.time;
  content = tt;
  failed = told.failed;
  images = told.images;
  any_bytes = tt;
  keeps = told.keeps;
  bytes_read = told.bytes_read;
}

pub write_broken : {T E F G : Type 0} (r : Result T E) (e : F) (d at : ℕ) (from : List ℕ) (a m n : DiskState) → IsErr r → at ≤ length a.content → d ≤ length from → WritesPart {E = G} at from (Ok d) a m → WritesPart (at + d) (drop d from) (Err e) m n → Writes at from r a n
write_broken (Ok x) e d at from a m n failed within enough first second = cc
write_broken (Err f) e d at from a m n failed within enough first second =
    let long : length (take d from) ≡ d = omega (arith, length-take d from) in
    let all : d + length (drop d from) ≡ length from = omega (arith, length-drop d from) in
    let wrote = subst (λ (l : List ℕ). Torn at d a.content l) (sym first.content) (subst (λ j. Torn at j a.content (written at (take d from) a.content)) long (torn-written at (take d from) a.content within)) in
    record {
      time = elapses_then a m n first.time second.time second.keeps;
      content = tt;
      failed = subst (λ j. Torn at j a.content n.content) all (torn_then at d (length (drop d from)) a.content m.content n.content wrote second.failed);
      images = λ b is.
          let was = second.images b is in
          let before = first.images was.0 was.1 in
          (before.0, before.1, subst (λ j. Torn at j before.0 b) all (torn_then at d (length (drop d from)) before.0 was.0 b before.2 was.2));
      any_bytes = tt;
      keeps = λ b is. second.keeps b (first.keeps b is);
      bytes_read = second.bytes_read ∙ first.bytes_read;
    }
