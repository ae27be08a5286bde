-- What a flush leaves of what was told, and that all of it is a part.
use Rattle.std.proofs.Common.{◌≡◌, ◌⊎◌, ◌∙◌, inl, inr, ℕ, ◌≤◌, List, length, take, sym, ap, subst, refl, arith}
use Rattle.std.proofs.Math.Seq.{take-length}
use Rattle.std.specs.Prelude.{◌≢◌, Option, None, Result, Ok, Err, IfOk, IfErr, OnErr}
use Rattle.qz_civil.specs.Causes.{Rose}
use Rattle.qz_disk.specs.Disk.{DiskState}
use Rattle.qz_io.specs.declared.traits.Sink as sink
use Rattle.qz_top.specs.HandingOn.{HandsOnAll}
use Rattle.std.specs.Io.KnownBytes.{Appends, Keeps}
use Rattle.std.proofs.KnownBytes.{Appends-kept}
use Rattle.qz_model.specs.History.{History}
use Rattle.qz_history.specs.Told.{told}
use Rattle.qz_tell.specs.Histories.{IsFrontOf, MayEnd, OnlyRead, Tells, ToldAll, ToldPart}
use Rattle.qz_top.specs.declared.statuses.Status.{Status}
use Rattle.qz_top.specs.declared.statuses.Status.TheVariants as status

module _ (honest : Type 0) (from : ℕ) (opened : History) (old mid new : Option (List ℕ)) where
  all_kept : (begins : Option ℕ) → ToldAll honest from opened begins old mid → Keeps mid new → ToldAll honest from opened begins old new
  all_kept begins a kept = record {
    history = a.history;
    legal = a.legal;
    same = a.same;
    tells = record { written = Appends-kept old mid new (told from a.history) a.tells.written kept; begins_is = a.tells.begins_is };
  }

  part_kept : ToldPart honest from opened old mid → Keeps mid new → ToldPart honest from opened old new
  part_kept a kept = record {
    history = a.history;
    legal = a.legal;
    front = a.front;
    part = a.part;
    written = Appends-kept old mid new (take a.part (told from a.history)) a.written kept;
  }

  -- All of a history is a front of it.
  all_front : (h : History) → h ≡ opened → IsFrontOf h opened
  all_front h same = record {
    base_count = ap (λ (x : History). x.base_count) same;
    base = ap (λ (x : History). x.base) same;
    entries = subst (λ (x : History). h.entries ≡ take (length h.entries) x.entries) same (sym (take-length h.entries));
  }

  all_part : (begins : Option ℕ) → ToldAll honest from opened begins old mid → Keeps mid new → ToldPart honest from opened old new
  all_part begins a kept = record {
    history = a.history;
    legal = a.legal;
    front = λ p. all_front a.history (a.same p);
    part = length (told from a.history);
    written = subst (Appends old new) (sym (take-length (told from a.history))) (Appends-kept old mid new (told from a.history) a.tells.written kept);
  }

  -- How the call ends after it.
  pub tells_by : (s : Status) (begins : Option ℕ) (r : Result (Option ℕ) Status) → IfOk r (λ b. ToldAll honest from opened b old mid) → OnErr r (ToldPart honest from opened old mid) → Keeps mid new
      → (s ≡ status.Ok → r ≡ Ok begins) → (s ≢ status.Ok → begins ≡ None) → Tells honest from opened s begins old new
  tells_by s begins (Ok b) all part kept ok none =
      ((λ is. all_kept begins (subst (λ x. ToldAll honest from opened x old mid) (let same : b ≡ begins = (let whole = ok is in cc) in same) all) kept), (λ other. (none other, all_part b all kept)))
  tells_by s begins (Err e) all part kept ok none =
      ((λ is. absurd (let whole = ok is in cc)), (λ other. (none other, part_kept part kept)))

-- the last call hands on what those before it wrote
pub hands_after : {K : Type 0} (k : sink.Ghosts K) (a b c : K) → k.faults a ≤ k.faults b → HandsOnAll k b c → HandsOnAll k a c
hands_after k a b c later (inl handed) = inl handed
hands_after k a b c later (inr rose) = inr (omega (arith, later, rose))

-- where it fails, or what was before it
pub wrote_by : (r : Result (Option ℕ) Status) (x y z : ℕ) → x ≤ y → y ≤ z → (r ≡ Err status.WriteFault → Rose x y) → (r ≡ Err status.WriteFault) ⊎ Rose y z → Rose x z
wrote_by r x y z first then before (inl is) = let rose = before is in omega (arith, then, rose)
wrote_by r x y z first then before (inr rose) = omega (arith, first, rose)

-- How a call ends whose reading ended so.
pub ends_by : (honest : Type 0) (s : Status) (r : Result (Option ℕ) Status) → IfErr r (MayEnd honest) → (s ≡ status.Ok) ⊎ ((s ≡ status.WriteFault) ⊎ (r ≡ Err s)) → MayEnd honest s
ends_by honest s r ends (inl is) = subst (MayEnd honest) (sym is) tt
ends_by honest s r ends (inr (inl is)) = subst (MayEnd honest) (sym is) tt
ends_by honest s r ends (inr (inr is)) = subst (λ (x : Result (Option ℕ) Status). IfErr x (MayEnd honest)) is ends

-- and what it leaves of the disk
pub reads_by : (s : Status) (r : Result (Option ℕ) Status) (old new : DiskState) → IfErr r (λ e. s ≡ e) → OnlyRead (r ≡ Err status.DiskFault) old new → OnlyRead (s ≡ status.DiskFault) old new
reads_by s r old new same reads = record {
  content = λ fine. reads.content (λ is. fine (subst (λ (x : Result (Option ℕ) Status). IfErr x (λ e. s ≡ e)) is same));
  any_moment = reads.any_moment;
}
