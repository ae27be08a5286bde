-- The names of a map's members, over the map and over the data that it stands for.
use Rattle.std.proofs.Common.{◌≡◌, ℕ, List, [], ◌∷◌, ◌++◌, ◌||◌, Bool, String, Global, string_bytes, refl}
use Rattle.std.specs.List.{list_all}
use Rattle.std.specs.Map.{keys_of}
use Rattle.serde_json.specs.View.{members_view}
use Rattle.serde_json.specs.declared.value.Value.{Value}
use Rattle.std.proofs.lemmas.List.Folds.{list_any-append}
use Rattle.qz_job_json.specs.Members.{is_among, names_in}

pub all_names : (test : List ℕ → Bool) (es : List (String Global × Value)) → list_all test (names_in (members_view es)) ≡ list_all (λ name. test (string_bytes name)) (keys_of es)
all_names test [] = refl
all_names test (e ∷ es) = rw (all_names test es)

-- a name among those of two lists
pub among_either : (xs ys : List (List ℕ)) (name : List ℕ) → is_among (xs ++ ys) name ≡ (is_among xs name || is_among ys name)
among_either xs ys name = list_any-append _ xs ys
