-- Stores of the first of some entries.
use Rattle.std.proofs.Common.{◌≡◌, inl, inr, ℕ, List, [], ◌∷◌, ◌++◌, drop, sym, ◌∙◌, ap, subst, append_assoc}
use Rattle.std.specs.Prelude.{⊤, Option, Some, None}
use Rattle.qz_disk.specs.declared.disk.Disk.{Ghosts}
use Rattle.qz_disk.specs.Disk.{IsLawful as DiskIsLawful, LeavesOnly}
use Rattle.qz_disk.proofs.Moments as disk
use Rattle.qz_stores.specs.Bases.{HoldAll, IsEndOf, WholeList, IsWhole, Stands}
use Rattle.qz_stores.specs.Bytes.{MayBe, IsOfEither}
use Rattle.qz_stores.specs.Kinds.{StoreKind, IsLawful, with_entry}
use Rattle.qz_stores.specs.Stores.{StoreState}
use Rattle.qz_stores.specs.View.{view, disk_state, GoesOnFrom, LeavesHistories}
use Rattle.qz_stores.specs.declared.kinds.Kind.{Ghosts as Kinds}
use Rattle.qz_stores.specs.declared.stores.Store.{Store}
use Rattle.qz_stores.proofs.Moments as store
use Rattle.qz_standby.specs.Making.{HoldsFirst, HoldsNow}

-- the entry of which it isn't known whether the disk has it is the next of these
abbrev pub IsNext : {E : Type 0} → Option E → List E → Type 0
IsNext None more = ⊤
IsNext {E} (Some e) more = (rest : List E) × (more ≡ e ∷ rest)

-- the list before its first entry
abbrev pub start_of : {S E : Type 0} → WholeList S E → WholeList S E
start_of w = record w { entries = [] }

-- the history of these entries from the list's start on
abbrev pub history_from : {H S E R : Type 0} → StoreKind H S E R → WholeList S E → List E → H
history_from k w es = k.history 0 w.start es

-- A store has the first of these entries, and is to have these more.
pub record HasFirst {H S E R : Type 0} (k : StoreKind H S E R) (w : WholeList S E) (more : List E) (s : StoreState H E) : Type 0 where
  pub first : List E
  pub entries : w.entries ≡ first ++ more
  pub history : s.history ≡ history_from k w first
  pub next : IsNext s.undecided more

module _ {H S E R : Type 0} (k : StoreKind H S E R) (lawful : IsLawful k) where
  -- the bytes of a history from the list's start on hold its entries
  stands_all : (w : WholeList S E) (es : List E) (b : List ℕ) (h : H) → h ≡ history_from k w es → Stands k (start_of w) b h → IsWhole k (record w { entries = es }) b
  stands_all w es b h is stands =
      let end : IsEndOf k w.start (history_from k w es) stands.more = subst (λ (x : H). IsEndOf k w.start x stands.more) is stands.end_of_them in
      let count = lawful.base_count_is 0 w.start es in
      let same : es ≡ stands.more = sym (lawful.entries_are 0 w.start es) ∙ end.rest ∙ ap (λ (n : ℕ). drop n stands.more) count in
      subst (HoldAll k w.version w.start b) (sym same) stands.held

  -- and with the next entry those and it
  with_next : (w : WholeList S E) (es : List E) (e : E) (h : H) → h ≡ history_from k w es → with_entry k e h ≡ history_from k w (es ++ e ∷ [])
  with_next w es e h is =
      ap (with_entry k e) is
      ∙ ap (λ (n : ℕ). k.history n (k.base (history_from k w es)) (k.entries (history_from k w es) ++ e ∷ [])) (lawful.base_count_is 0 w.start es)
      ∙ ap (λ (T : S). k.history 0 T (k.entries (history_from k w es) ++ e ∷ [])) (lawful.base_is 0 w.start es)
      ∙ ap (λ (l : List E). k.history 0 w.start (l ++ e ∷ [])) (lawful.entries_are 0 w.start es)

  may_first : (w : WholeList S E) (h : H) (u : Option E) (b : List ℕ) (first more : List E) → w.entries ≡ first ++ more → h ≡ history_from k w first → IsNext u more
      → MayBe k (start_of w) h u b → HoldsFirst k w b
  may_first w h None b first more entries history next may = record { first = first; more = more; entries = entries; held = stands_all w first b h history may }
  may_first w h (Some e) b first more entries history next (inl may) = record { first = first; more = more; entries = entries; held = stands_all w first b h history may }
  may_first w h (Some e) b first more entries history next (inr may) = record {
    first = first ++ e ∷ [];
    more = next.0;
    entries = entries ∙ ap (λ (l : List E). first ++ l) next.1 ∙ sym (append_assoc first (e ∷ []) next.0);
    held = stands_all w (first ++ e ∷ []) b (with_entry k e h) (with_next w first e h history) may;
  }

  pub either_first : (w : WholeList S E) (more rest : List E) (s t : StoreState H E) (b : List ℕ) → HasFirst k w more s → HasFirst k w rest t → IsOfEither k (start_of w) s t b → HoldsFirst k w b
  either_first w more rest s t b first then (inl may) = may_first w s.history s.undecided b first.first more first.entries first.history first.next may
  either_first w more rest s t b first then (inr may) = may_first w t.history t.undecided b then.first rest then.entries then.history then.next may

-- A store that goes on from the start of a list, step by step.
module _ {D K E R C : Type 0} {g : Ghosts D} {k : Kinds K E R C} (lawful : IsLawful k.kind) where
  pub now_first : (s : Store D K E R C g k) → g.honest → (w : WholeList k.State E) (more : List E) → GoesOnFrom s (start_of w) → HasFirst k.kind w more (view s) → (b : List ℕ) → (disk_state s).IsImage b → HoldsFirst k.kind w b
  now_first s honest w more from first b is = may_first k.kind lawful w (view s).history (view s).undecided b first.first more first.entries first.history first.next (store.now lawful s honest (start_of w) from b is)

  pub begins_first : (s : Store D K E R C g k) → g.honest → DiskIsLawful (disk_state s) → (w : WholeList k.State E) (more : List E) → GoesOnFrom s (start_of w) → HasFirst k.kind w more (view s)
      → LeavesOnly (disk_state s) (disk_state s) (HoldsFirst k.kind w)
  begins_first s honest lawful_disk w more from first = disk.started (disk_state s) _ lawful_disk (now_first s honest w more from first)

  pub goes_on_first : (r s t : Store D K E R C g k) (w : WholeList k.State E) (more rest : List E) → HasFirst k.kind w more (view s) → HasFirst k.kind w rest (view t) → GoesOnFrom s (start_of w)
      → LeavesOnly (disk_state r) (disk_state s) (HoldsFirst k.kind w) → LeavesHistories s t → GoesOnFrom t (start_of w) × LeavesOnly (disk_state r) (disk_state t) (HoldsFirst k.kind w)
  goes_on_first r s t w more rest first then from so_far leaves =
      let one = leaves (start_of w) from in
      (one.0, disk.then_leaves (disk_state r) (disk_state s) (disk_state t) _ _ _ so_far one.1 (λ b is. is) (λ b is. either_first k.kind lawful w more rest (view s) (view t) b first then is))

  -- a store that has all of them
  pub now_whole : (s : Store D K E R C g k) → g.honest → DiskIsLawful (disk_state s) → (w : WholeList k.State E) → GoesOnFrom s (start_of w) → (view s).history ≡ history_from k.kind w w.entries → s.undecided ≡ None
      → HoldsNow k.kind w (disk_state s)
  now_whole s honest disk_lawful w from history decided =
      let each : (b : List ℕ) → (disk_state s).IsImage b → IsWhole k.kind w b =
      λ b is. stands_all k.kind lawful w w.entries b (view s).history history (subst (λ (u : Option E). MayBe k.kind (start_of w) (view s).history u b) decided (store.now lawful s honest (start_of w) from b is)) in
      (each (disk_state s).content disk_lawful.content, each)
