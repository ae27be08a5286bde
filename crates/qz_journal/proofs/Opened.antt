-- What an opening finds, from what its bytes are and which of them it read.
use Rattle.std.proofs.Common.{◌≡◌, ◌⊎◌, inl, inr, ℕ, ◌+◌, ◌≤◌, min, true, false, List, [], ◌∷◌, ◌++◌, length, take, sym, subst, arith}
use Rattle.std.specs.Prelude.{Ok, Err, OnOk, OnErr, IfOk, IfErr, All}
use Rattle.std.specs.declared.result.Result.{Result}
use Rattle.qz_civil.specs.Causes.{Rose}
use Rattle.qz_disk.specs.Disk.{DiskState, Only, IsLawful}
use Rattle.qz_journal.specs.Layout.{IsHeader, IsPayload, Holds, end_of}
use Rattle.qz_journal.specs.Opening.{EndsAt, IsDamagedBehind, IsRefusedBehind}
use Rattle.qz_journal.specs.Through.{OnlyReads, OnlyReadsUnless, ReadsBetween}
use Rattle.qz_journal.specs.declared.reading.Found.{Found}
use Rattle.qz_journal.specs.declared.errors.MountError.{MountError}
use Rattle.qz_journal.specs.declared.errors.MountError.TheVariants as mount
use Rattle.qz_journal.proofs.Calls.{between_then, only_reads, only_reads_unless, still_only}
use Rattle.qz_journal.proofs.Stands.{end_of-push}
use Rattle.qz_journal.proofs.Walk.{holds_at, damaged_at}

pub found_whole : (r : Result Found MountError) (version kind : ℕ) (bytes content : List ℕ) → bytes ≡ content → IsHeader version kind (take 16 bytes) → 16 ≤ length bytes
    → IfOk r (λ f. f.version ≡ version) → IfOk r (λ f. All IsPayload f.payloads) → IfOk r (λ f. EndsAt bytes 16 f.payloads f.is_whole) → IfOk r (λ f. f.is_whole ≡ true → Holds content f.version kind f.payloads)
found_whole (Ok f) version kind bytes content same header long v_is sizes ends = λ is.
    subst (λ (n : ℕ). Holds content n kind f.payloads) (sym v_is) (subst (λ (b : List ℕ). Holds b version kind f.payloads) same (holds_at bytes version kind f.payloads f.is_whole header long sizes ends is))
found_whole (Err e) version kind bytes content same header long v_is sizes ends = tt

pub found_damaged : (r : Result Found MountError) (version kind : ℕ) (bytes content : List ℕ) → bytes ≡ content → IsHeader version kind (take 16 bytes)
    → IfOk r (λ f. All IsPayload f.payloads) → IfOk r (λ f. EndsAt bytes 16 f.payloads f.is_whole) → IfOk r (λ f. f.gate ≡ end_of f.payloads)
    → IfOk r (λ f. f.is_whole ≡ false → IsDamagedBehind content kind f.payloads f.gate)
found_damaged (Ok f) version kind bytes content same header sizes ends gate = λ is.
    subst (λ (b : List ℕ). IsDamagedBehind b kind f.payloads f.gate) same (damaged_at bytes version kind f.gate f.payloads f.is_whole header sizes ends gate is)
found_damaged (Err e) version kind bytes content same header sizes ends gate = tt

pub found_header : (r : Result Found MountError) (version kind : ℕ) (bytes content : List ℕ) → bytes ≡ content → IsHeader version kind (take 16 bytes) → IfOk r (λ f. f.version ≡ version)
    → IfOk r (λ f. IsHeader f.version kind (take 16 content))
found_header (Ok f) version kind bytes content same header v_is = subst (λ (n : ℕ). IsHeader n kind (take 16 content)) (sym v_is) (subst (λ (b : List ℕ). IsHeader version kind (take 16 b)) same header)
found_header (Err e) version kind bytes content same header v_is = tt

-- bytes aren't damaged after whatever payloads
pub damaged_anywhere : (e : MountError) (content : List ℕ) (kind at : ℕ) → e ≡ mount.Damaged at → ((ps : List (List ℕ)) → IsRefusedBehind content kind ps e) → ⊥
damaged_anywhere e content kind at is refused =
    let after : (ps : List (List ℕ)) → IsDamagedBehind content kind ps at = λ ps. subst (IsRefusedBehind content kind ps) is (refused ps) in
    absurd (omega (arith, (after []).at_is, (after ([] ++ [] ∷ [])).at_is, end_of-push [] []))

-- bytes that weren't read to a bad place
pub found_refused : (r : Result Found MountError) (kind before after : ℕ) (ps : List (List ℕ)) (content : List ℕ)
    → IfErr r (λ e. (e ≡ mount.NoMemory) ⊎ ((e ≡ mount.Fault) × Rose before after)) → IfErr r (IsRefusedBehind content kind ps)
found_refused (Ok f) kind before after ps content why = tt
found_refused (Err e) kind before after ps content (inl is) = subst (λ (x : MountError). IsRefusedBehind content kind ps x) (sym is) tt
found_refused (Err e) kind before after ps content (inr is) = subst (λ (x : MountError). IsRefusedBehind content kind ps x) (sym is.0) tt

-- The header was read, and then the blocks.
module _ (len : ℕ) (s m t : DiskState) (lawful : IsLawful m) (long : len ≡ length s.content) (front : ReadsBetween 0 16 s m) where
  abbrev pub ReadsBlocks : Result Found MountError → Type 0
  ReadsBlocks r = IfOk r (λ f. ReadsBetween 16 (min len (end_of f.payloads + 65536)) m t)

  pub found_reads : (r : Result Found MountError) → ReadsBlocks r → OnOk r (OnlyReads s t)
  found_reads (Ok f) reads = only_reads (min len (end_of f.payloads + 65536)) s t (omega (arith, long)) (between_then 0 16 _ s m t lawful front reads)
  found_reads (Err e) reads = tt

  pub found_ahead : (r : Result Found MountError) → ReadsBlocks r → IfOk r (λ f. t.bytes_read ≤ s.bytes_read + (end_of f.payloads + 65536))
  found_ahead (Ok f) reads = let all = between_then 0 16 (min len (end_of f.payloads + 65536)) s m t lawful front reads in omega (arith, all.bytes_read)
  found_ahead (Err e) reads = tt

  pub found_durable : (r : Result Found MountError) → IsLawful t → Only m.content m → ReadsBlocks r → OnOk r (Only t.content t)
  found_durable (Ok f) after only reads = still_only 16 (min len (end_of f.payloads + 65536)) m t after reads only
  found_durable (Err e) after only reads = tt

  pub found_unless : (r : Result Found MountError) → OnErr r (ReadsBetween 16 len m t) → IfErr r (λ e. OnlyReadsUnless (e ≡ mount.Fault) s t)
  found_unless (Ok f) reads = tt
  found_unless (Err e) reads = only_reads_unless (e ≡ mount.Fault) len s t (omega (arith, long)) (between_then 0 16 len s m t lawful front reads)
