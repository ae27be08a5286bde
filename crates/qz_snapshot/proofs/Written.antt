-- The pieces of a snapshot.
use Rattle.std.proofs.Common.{◌≡◌, ℕ, List, [], ◌∷◌, ◌++◌, length, map, IsTrue, sym, subst, arith}
use Rattle.std.specs.Prelude.{All}
use Rattle.std.specs.List.{AllByRecursion, AllByRecursion-prop}
use Rattle.std.proofs.Math.Logic.{∥∥₁_elim}
use Rattle.std.proofs.Math.Bool.{Bool-set}
use Rattle.std.proofs.lemmas.List.Elements.{All-from_recursion, All-same, All-cons}
use Rattle.qz_civil.specs.Timings.{is_name}
use Rattle.qz_journal.specs.Layout.{IsPayload}
use Rattle.qz_model.specs.Invariant.{AreNames, TablesValid}
use Rattle.qz_pieces.proofs.Cuts.{cut_is}
use Rattle.qz_pieces.specs.declared.kinds.RowKind.{RowKind}
use Rattle.qz_pieces.specs.Pieces.{RowBytes, pieces, piece_of, AreShort, AreWithin}
use Rattle.qz_snapshot.specs.Rows.{of_kind, written}
use Rattle.qz_values.specs.declared.versions.Version.{Version}
use Rattle.qz_types.specs.Tables.{SchedulerTables}

-- ---- the pieces

pub short_both : (xs ys : List RowBytes) → AreShort xs → AreShort ys → AreShort (xs ++ ys)
short_both [] ys a b = b
short_both (x ∷ xs) ys a b = (a.0, short_both xs ys a.1 b)

groups_are : (groups : List (List RowBytes)) → AreWithin groups → AllByRecursion IsPayload (map piece_of groups)
groups_are [] within = tt
groups_are (g ∷ groups) within = ((omega arith, within.0), groups_are groups within.1)

pub are_payloads : (rows : List RowBytes) → AreShort rows → All IsPayload (pieces rows)
are_payloads rows short =
    let cut = cut_is rows short in
    All-from_recursion IsPayload (pieces rows) (subst (AllByRecursion IsPayload) (sym cut.pieces_are) (groups_are cut.groups cut.within))

pub short_of : {A : Type 0} (kind : RowKind) (fields : Version → A → List ℕ) (xs ys : List A) → xs ≡ ys → AreShort (of_kind kind (written fields xs)) → AreShort (of_kind kind (written fields ys))
short_of kind fields xs ys is short = subst (λ l. AreShort (of_kind kind (written fields l))) is short

-- four kinds, one after the other
pub four_short : (w x y z : List RowBytes) → AreShort w → AreShort x → AreShort y → AreShort z → AreShort (w ++ (x ++ (y ++ z)))
four_short w x y z a b c d = short_both w (x ++ (y ++ z)) a (short_both x (y ++ z) b (short_both y z c d))

-- ---- names

names_prop : (groups : List (List ℕ)) → IsProp (AreNames groups)
names_prop groups = AllByRecursion-prop (λ g. IsTrue (is_name g)) (λ g. hlevel Bool-set) groups

pub group_names : (T : SchedulerTables) → ∥ TablesValid T ∥₁ → AreNames T.paused_groups
group_names T valid = ∥∥₁_elim valid (names_prop T.paused_groups) (λ is. is.references_and_limits.limits.group_names)

pub job_group_names : (T : SchedulerTables) → ∥ TablesValid T ∥₁ → AreNames T.paused_job_groups
job_group_names T valid = ∥∥₁_elim valid (names_prop T.paused_job_groups) (λ is. is.references_and_limits.limits.job_group_names)

pub all_names : (groups names : List (List ℕ)) → names ≡ groups → AreNames groups → All (λ g. IsTrue (is_name g)) names
all_names groups names is named = All-from_recursion (λ g. IsTrue (is_name g)) names (subst AreNames (sym is) named)

-- ---- the whole snapshot

pub sizes_with : (head : List ℕ) (ps qs : List (List ℕ)) → qs ≡ head ∷ ps → length head ≡ 53 → All IsPayload ps → All IsPayload qs
sizes_with head ps qs is long sizes = All-same IsPayload qs (head ∷ ps) is (All-cons IsPayload head ps (omega (arith, long), omega (arith, long)) sizes)
