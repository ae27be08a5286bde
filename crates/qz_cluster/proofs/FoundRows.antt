-- The row that is found under a node's name.
use Rattle.std.proofs.Common.{◌≡◌, List, ℕ, Some, sym, ◌∙◌, ap}
use Rattle.std.proofs.lemmas.Map.Text.{is_eq-slice_cmp}
use Rattle.std.proofs.lemmas.Slice.Eq.{bytes_eq-Decides}
use Rattle.std.specs.Prelude.{Option}
use Rattle.qz_types.specs.Rows.{MemberData}
use Rattle.qz_types.specs.Words.{text_cmp, member_of}
use Rattle.qz_model.proofs.LookUps.{row_of-id}

-- it has that name
member_is : (node : List ℕ) (rows : List MemberData) (m : MemberData) → member_of node rows ≡ Some m → node ≡ m.node
unfolding member_of
member_is node rows m found =
    let equal = sym (is_eq-slice_cmp node m.node) ∙ row_of-id text_cmp (λ r. r.node) node m rows found in
    (bytes_eq-Decides node m.node).0 equal

-- so it is the row of that name and its epoch
pub row_is : (node : List ℕ) (rows : List MemberData) (m : MemberData) (epoch : ℕ) → epoch ≡ m.epoch → Some m ≡ member_of node rows → ◌≡◌ {A = Option MemberData} (Some (record { node = node; epoch = epoch })) (member_of node rows)
row_is node rows m epoch is found =
    let name = member_is node rows m (sym found) in
    let row : MemberData = record { node = node; epoch = epoch } in
    let same : row ≡ m = λ i. record { node = name i; epoch = is i } in
    ap Some same ∙ found
