-- A part of what is told.
use Rattle.std.proofs.Common.{◌≡◌, ◌∙◌, ◌⊎◌, inl, inr, ℕ, ◌+◌, ◌<◌, List, [], ◌++◌, length, take, get_or, sym, ap, subst, refl}
use Rattle.std.specs.Prelude.{Option, Some, None, nat_lt, if◌then◌else◌}
use Rattle.std.specs.Io.KnownBytes.{Appends}
use Rattle.std.proofs.KnownBytes.{Appends-nil, Appends-trans}
use Rattle.std.proofs.Math.Seq.{take-length, take-append-add}
use Rattle.qz_types.specs.Entries.{EntryData}
use Rattle.qz_types.specs.Tables.{SchedulerTables}
use Rattle.qz_model.specs.History.{History, replay_from}
use Rattle.qz_stores.specs.Opening.{AreTaken, IsBase, IsRead}
use Rattle.qz_stores.specs.Replaying.{IsPassed, IsTaken}
use Rattle.qz_stores.proofs.Replays.{taken_more}
use Rattle.qz_trigger_store.specs.Kinds.{trigger_kind}
use Rattle.qz_trigger_store.specs.Laws.{trigger_lawful}
use Rattle.qz_history.specs.Told.{told_from}
use Rattle.qz_history.specs.Telling.{TellsOn, TellsPart, TellsWhole}

-- all that was told so far is a part
pub part_so_far : (from count : ℕ) (T : SchedulerTables) (payloads : List (List ℕ)) (read : ℕ) (es : List EntryData) (old new : Option (List ℕ))
    → AreTaken trigger_kind T (take read payloads) es → Appends old new (told_from from (count + 1) T es) → TellsPart from count T payloads old new
part_so_far from count T payloads read es old new taken written = record {
  entries = es;
  read = read;
  part = length (told_from from (count + 1) T es);
  taken = taken;
  written = subst (Appends old new) (sym (take-length (told_from from (count + 1) T es))) written;
}

-- Nothing of the next payload was written.
pub on_start : (from number : ℕ) (T U : SchedulerTables) (payload : List ℕ) (es : List EntryData) (old new mid : Option (List ℕ))
    → Appends old mid (told_from from number T es) → mid ≡ new → TellsOn from number T U payload es old new
on_start from number T U payload es old new mid written same = record {
  entries = es;
  part = length (told_from from number T es);
  next = inl refl;
  written = subst (Appends old new) (sym (take-length (told_from from number T es))) (subst (λ h. Appends old h (told_from from number T es)) same written);
}

-- A part of what is told of it was written.
pub on_further : (from number : ℕ) (T U : SchedulerTables) (payload : List ℕ) (es fs : List EntryData) (text : List ℕ) (n : ℕ) (old mid new : Option (List ℕ))
    → IsPassed trigger_kind payload es fs ⊎ IsTaken trigger_kind U payload es fs → told_from from number T fs ≡ told_from from number T es ++ text
    → Appends old mid (told_from from number T es) → Appends mid new (take n text) → TellsOn from number T U payload es old new
on_further from number T U payload es fs text n old mid new next more before written =
    let so_far = told_from from number T es in
    let joined = Appends-trans old mid new so_far (take n text) before written in
    let front : take (length so_far + n) (told_from from number T fs) ≡ so_far ++ take n text =
    ap (λ l. take (length so_far + n) l) more ∙ take-append-add so_far text n in
    record {
      entries = fs;
      part = length so_far + n;
      next = inr next;
      written = subst (Appends old new) (sym front) joined;
    }

-- Where all payloads before this place were taken, it is a part of what is told of them all.
pub part_on : (from count : ℕ) (T U : SchedulerTables) (payloads : List (List ℕ)) (i : ℕ) (p : List ℕ) (es : List EntryData) (old new : Option (List ℕ))
    → i < length payloads → p ≡ get_or payloads i p → U ≡ replay_from T es → AreTaken trigger_kind T (take i payloads) es
    → TellsOn from (count + 1) T U p es old new → TellsPart from count T payloads old new
part_on from count T U payloads i p es old new below here state taken on = by on.next
  where
    part_of : (read : ℕ) → AreTaken trigger_kind T (take read payloads) on.entries → TellsPart from count T payloads old new
    part_of read are_taken = record { entries = on.entries; read = read; part = on.part; taken = are_taken; written = on.written }

    by : (on.entries ≡ es) ⊎ (IsPassed trigger_kind p es on.entries ⊎ IsTaken trigger_kind U p es on.entries) → TellsPart from count T payloads old new
    by (inl same) = part_of i (subst (AreTaken trigger_kind T (take i payloads)) (sym same) taken)
    by (inr next) = part_of (i + 1) (taken_more trigger_kind trigger_lawful T U payloads i p es on.entries below here state next taken)

-- and with all of it
pub told_further : (from number : ℕ) (T : SchedulerTables) (es fs : List EntryData) (text : List ℕ) (old mid new : Option (List ℕ))
    → told_from from number T fs ≡ told_from from number T es ++ text → Appends old mid (told_from from number T es) → Appends mid new text
    → Appends old new (told_from from number T fs)
told_further from number T es fs text old mid new more before written =
    subst (Appends old new) (sym more) (Appends-trans old mid new (told_from from number T es) text before written)

-- Nothing is told yet.
pub begun : (from number : ℕ) (T : SchedulerTables) (es : List EntryData) → es ≡ [] → (held : Option (List ℕ)) → Appends held held (told_from from number T es)
begun from number T es none held = subst (λ l. Appends held held (told_from from number T l)) (sym none) (Appends-nil held)

-- What is told doesn't change where what it begins with is the same.
pub same_told : (from also count other : ℕ) (T U : SchedulerTables) (es : List EntryData) (old new : Option (List ℕ)) → also ≡ from → other ≡ count → U ≡ T
    → Appends old new (told_from from (count + 1) T es) → Appends old new (told_from also (other + 1) U es)
same_told from also count other T U es old new same_from same_count same_base told =
    subst (λ f. Appends old new (told_from f (other + 1) U es)) (sym same_from)
    (subst (λ n. Appends old new (told_from from (n + 1) U es)) (sym same_count)
    (subst (λ V. Appends old new (told_from from (count + 1) V es)) (sym same_base) told))

-- The same of the next payload.
pub same_on : (from also count other : ℕ) (T U left : SchedulerTables) (p : List ℕ) (es : List EntryData) (old new : Option (List ℕ)) → also ≡ from → other ≡ count → U ≡ T
    → TellsOn from (count + 1) T left p es old new → TellsOn also (other + 1) U left p es old new
same_on from also count other T U left p es old new same_from same_count same_base on =
    subst (λ f. TellsOn f (other + 1) U left p es old new) (sym same_from)
    (subst (λ n. TellsOn from (n + 1) U left p es old new) (sym same_count)
    (subst (λ V. TellsOn from (count + 1) V left p es old new) (sym same_base) on))

-- What was told of all payloads, in all.
pub tells_whole : (from also n version : ℕ) (slot : Option ℕ) (payloads : List (List ℕ)) (T : SchedulerTables) (es : List EntryData) (begins : Option ℕ) (old new : Option (List ℕ))
    → also ≡ from → IsBase trigger_kind slot version payloads T n → AreTaken trigger_kind T payloads es → Appends old new (told_from also (n + 1) T es)
    → begins ≡ (if nat_lt also n then Some (n + 1) else None)
    → (h : History) × IsRead trigger_kind slot version payloads h.base_count h.base h.entries × TellsWhole from h begins old new
tells_whole from also n version slot payloads T es begins old new same base taken written begins_is = (
  record { base_count = n; base = T; entries = es },
  record { base = base; taken = taken },
  record {
    written = subst (λ f. Appends old new (told_from f (n + 1) T es)) same written;
    begins_is = subst (λ f. begins ≡ (if nat_lt f n then Some (n + 1) else None)) same begins_is;
  },
)

-- And in part.
pub tells_part : (from also n version : ℕ) (slot : Option ℕ) (payloads : List (List ℕ)) (T : SchedulerTables) (old new : Option (List ℕ))
    → also ≡ from → IsBase trigger_kind slot version payloads T n → TellsPart also n T payloads old new
    → Appends old new [] ⊎ ((U : SchedulerTables) × (m : ℕ) × IsBase trigger_kind slot version payloads U m × TellsPart from m U payloads old new)
tells_part from also n version slot payloads T old new same base part = inr (T, n, base, subst (λ f. TellsPart f n T payloads old new) same part)
