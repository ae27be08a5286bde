-- The steps of the writer and of readers keep the rule of the board.
use Rattle.std.proofs.Common.{◌≡◌, ◌≢◌, ℕ, List, [], ◌∷◌, ◌++◌, fold, set, refl, ap, sym, ◌∙◌, ⊎_elim, Option, Some, None}
use mathlib.Core.Option.{some, some-ne-none}
use lib.ListN.{get_elem?}
use Rattle.crossbeam_utils.specs.Register.{Admits, TurnsAt, Forks, Merges}
use Rattle.atomic_table.proofs.Lists.{at_set, at_snoc}
use Rattle.qz_board.specs.declared.glance.Glance.{Glance}
use Rattle.qz_board.specs.declared.page.Sheet.{Sheet}
use Rattle.qz_board.specs.Pages.{book_of, IsTrue, Keeps, Looks}

module _ {E G : Type 0} (glance_of : G → List E → Glance) where
  -- The rule holds of a board that nobody has looked at.
  pub begins : (x : Sheet E G) → IsTrue glance_of x → Keeps glance_of x (None ∷ [])
  begins x t = record { true = t; one = λ seat seen e. ⊎_elim (λ (m : get_elem? [] seat ≡ some (Some seen)). absurd (some-ne-none (Some seen) (sym m))) (λ (m : None ≡ Some seen). absurd (cc m)) (at_snoc [] None (Some seen) seat e) }

  -- A reader may come at any time.
  pub admits : Admits (Keeps glance_of) None
  admits x views h = record { true = h.true; one = λ seat seen e. ⊎_elim (λ (m : get_elem? views seat ≡ some (Some seen)). h.one seat seen m) (λ (m : None ≡ Some seen). absurd (cc m)) (at_snoc views None (Some seen) seat e) }

  -- Another sheet of the board is shown, and seen.
  pub turns : (seat : ℕ) (v : Option (Sheet E G)) (x y : Sheet E G) → IsTrue glance_of y → book_of y ≡ book_of x → TurnsAt (Keeps glance_of) seat v x y (Looks glance_of)
  turns seat v x y t same views h at =
      let here : (j : ℕ) (seen : Sheet E G) → Some y ≡ Some seen → book_of seen ≡ book_of y = λ j seen is. let e : y ≡ seen = cc is in ap book_of (sym e) in (
        Some y,
        record {
          true = t;
          one = λ j seen e. ⊎_elim (λ (m : (j ≡ seat) × (Some y ≡ Some seen)). here j seen m.1) (λ (m : (j ≢ seat) × (get_elem? views j ≡ some (Some seen))). h.one j seen m.1 ∙ sym same)
              (at_set views seat j (Some y) (Some seen) e);
        },
        record { true = t; one = λ seen is. same ∙ sym (h.one seat seen (at ∙ ap some is)); view = refl },
      )

  -- The sheet that is shown is seen.
  pub sees : (seat : ℕ) (v : Option (Sheet E G)) (x : Sheet E G) → TurnsAt (Keeps glance_of) seat v x x (Looks glance_of)
  sees seat v x views h at = turns seat v x x h.true refl views h at

  -- What is known is told.
  pub tells : (seat : ℕ) (v : Option (Sheet E G)) → Forks (Keeps glance_of) seat v v v
  tells seat v x views h at =
      let kept : (j : ℕ) (seen : Sheet E G) → get_elem? (set views seat v) j ≡ some (Some seen) → book_of seen ≡ book_of x =
      λ j seen e. ⊎_elim (λ (m : (j ≡ seat) × (v ≡ Some seen)). h.one seat seen (at ∙ ap some m.1)) (λ (m : (j ≢ seat) × (get_elem? views j ≡ some (Some seen))). h.one j seen m.1)
      (at_set views seat j v (Some seen) e) in
      record { true = h.true; one = λ j seen e. ⊎_elim (λ (m : get_elem? (set views seat v) j ≡ some (Some seen)). kept j seen m) (λ (m : v ≡ Some seen). h.one seat seen (at ∙ ap some m)) (at_snoc (set views seat v) v (Some seen) j e) }

  -- What was told is known in place of what was known before.
  pub takes : (seat : ℕ) (v : Option (Sheet E G)) (other : ℕ) (w : Option (Sheet E G)) → Merges (Keeps glance_of) seat v other w w None
  takes seat v other w x views h at apart there =
      let told : (seen : Sheet E G) → w ≡ Some seen → book_of seen ≡ book_of x =
      λ seen is. ⊎_elim (λ (m : (other ≡ seat) × (w ≡ w)). absurd (apart m.0)) (λ (m : (other ≢ seat) × (get_elem? views other ≡ some w)). h.one other seen (m.1 ∙ ap some is)) (at_set views seat other w w there) in
      let kept : (j : ℕ) (seen : Sheet E G) → get_elem? (set views seat w) j ≡ some (Some seen) → book_of seen ≡ book_of x =
      λ j seen e. ⊎_elim (λ (m : (j ≡ seat) × (w ≡ Some seen)). told seen m.1) (λ (m : (j ≢ seat) × (get_elem? views j ≡ some (Some seen))). h.one j seen m.1)
      (at_set views seat j w (Some seen) e) in
      record {
        true = h.true;
        one = λ j seen e. ⊎_elim (λ (m : (j ≡ other) × (None ≡ Some seen)). absurd (cc (m.1))) (λ (m : (j ≢ other) × (get_elem? (set views seat w) j ≡ some (Some seen))). kept j seen m.1)
            (at_set (set views seat w) other j None (Some seen) e);
      }

-- Where nothing waits to be published, the same is shown.
pub stays : {A : Type 0} (now next : A) (items : List A) → items ≡ [] → next ≡ fold (λ before further. further) now items → next ≡ now
stays now next items none is = is ∙ ap (λ l. fold (λ before further. further) now l) none

-- Where one thing waits to be published, it is shown.
pub follows : {A : Type 0} (now next further : A) (before items : List A) → before ≡ [] → items ≡ before ++ further ∷ [] → next ≡ fold (λ before further. further) now items → next ≡ further
follows now next further before items none one is =
    let all : items ≡ further ∷ [] = one ∙ ap (λ l. l ++ further ∷ []) none in
    is ∙ ap (λ l. fold (λ before further. further) now l) all
