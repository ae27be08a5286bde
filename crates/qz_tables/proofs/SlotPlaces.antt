-- The place of the row in a slot.
use Rattle.std.proofs.Common.{◌≡◌, ℕ, List, Option, Some, None, get_or, refl, sym, ap, ◌∙◌}
use Rattle.std.specs.List.{slice_get}
use Rattle.std.specs.Ordering.{is_eq}
use Rattle.std.specs.Cmp.{IsTotalOrder}
use Rattle.std.specs.declared.cmp.Ordering.{Ordering}
use Rattle.qz_types.specs.Sorted.{row_of, IsAscending}
use Rattle.qz_tables.specs.Once.{AreOnce}
use Rattle.qz_tables.specs.Slots.{rows_at, AreFilled, IsFound, IsAbsent}
use Rattle.qz_tables.proofs.ByIds.{own_id}
use Rattle.qz_tables.proofs.Filled.{nth_row}
use Rattle.qz_tables.proofs.OnceLemmas.{row_whole}

module _ {R K : Type 0} (cmp : K → K → Ordering) (id : R → K) (laws : IsTotalOrder cmp) (slots : List (Option R)) (order : List ℕ) (slot : ℕ) (row : R)
    (filled : AreFilled slots order) (up : IsAscending cmp id (rows_at slots order)) (once : AreOnce slots order) (is : get_or slots slot None ≡ Some row) where
  whole : row_of cmp id (id row) (rows_at slots order) ≡ Some row
  whole = row_whole cmp id laws slots order (id row) row slot filled up once is (ap is_eq (own_id cmp id laws (id row)))

  -- it is where the id of the row is found
  pub place-of-row : (i : ℕ) → IsFound cmp id slots order (id row) i → slice_get (rows_at slots order) i ≡ get_or slots slot None
  place-of-row i found = nth_row slots order i (get_or order i 0) filled found.in_range refl ∙ sym found.row ∙ whole ∙ sym is

  none_some : (o : Option R) → o ≡ Some row → o ≡ None → ⊥
  none_some o e f = cc

  -- and the id is found
  pub never-absent : IsAbsent cmp id slots order (id row) → ⊥
  never-absent absent = none_some _ whole absent.absent
