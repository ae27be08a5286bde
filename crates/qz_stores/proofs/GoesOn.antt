-- That a store goes on from a whole list is known in one way at most.
use Rattle.std.proofs.Common.{◌≡◌, ℕ, List, ◌++◌, drop, length, sym, ◌∙◌, ap}
use Rattle.std.proofs.Math.Seq.{drop-append_seam}
use Rattle.std.proofs.Props.{props}
use mathlib.Core.HLevel.{is_prop→PathP}
use Rattle.qz_disk.specs.declared.disk.Disk.{Ghosts}
use Rattle.qz_stores.specs.Kinds.{StoreKind, IsLawful}
use Rattle.qz_stores.specs.Bases.{HoldAll, WholeList}
use Rattle.qz_stores.specs.Facts.{HoldAll-prop}
use Rattle.qz_stores.specs.View.{version_of, opened_of, GoesOnFrom}
use Rattle.qz_stores.specs.declared.kinds.Kind.{Ghosts as Kinds}
use Rattle.qz_stores.specs.declared.stores.Store.{Store}
use Rattle.qz_stores.proofs.WholeBytes.{whole_once}

module _ {H S E R : Type 0} (k : StoreKind H S E R) (lawful : IsLawful k) where
  same_number : (x y : ℕ) → IsProp (x ≡ y)
  same_number x y = hlevel props

  once : (v : ℕ) (o : List ℕ) (w : WholeList S E) → IsProp ((more : List E) × (v ≡ w.version) × HoldAll k w.version w.start o (w.entries ++ more))
  once v o w p q =
      let whole : w.entries ++ p.0 ≡ w.entries ++ q.0 = whole_once k lawful w.version w.start o (w.entries ++ p.0) (w.entries ++ q.0) p.2 q.2 in
      let same : p.0 ≡ q.0 = sym (drop-append_seam w.entries p.0) ∙ ap (drop (length w.entries)) whole ∙ drop-append_seam w.entries q.0 in
      let held = is_prop→PathP (λ i. HoldAll k w.version w.start o (w.entries ++ same i)) (λ i. HoldAll-prop k w.version w.start o (w.entries ++ same i)) p.2 q.2 in
      λ i. (same i, same_number v w.version p.1 q.1 i, held i)

pub goes_on_once : {D K E R C : Type 0} {g : Ghosts D} {k : Kinds K E R C} → IsLawful k.kind → (s : Store D K E R C g k) (w : WholeList k.State E) → IsProp (GoesOnFrom s w)
goes_on_once {k = k} lawful s w = once k.kind lawful (version_of s) (opened_of s) w
