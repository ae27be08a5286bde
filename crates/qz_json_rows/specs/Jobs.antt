-- Keys and jobs as JSON.
use Rattle.std.specs.Prelude.{ℕ, List, [], ◌∷◌, ◌++◌, Bool, codes}
use Rattle.qz_types.specs.Rows.{JobData}
use Rattle.qz_types.specs.declared.keys.Key.{Key}
use Rattle.qz_json_rows.specs.Json.{label, more, more_set, more_text, quoted}

-- the members of a key, which come first in their object
unfoldable pub key_members : Key → List ℕ
key_members k = label (codes "name") ++ quoted k.name ++ more_text (codes "group") (codes "DEFAULT") k.group

unfoldable pub flag_members : Bool → Bool → Bool → List ℕ
flag_members durable no_concurrent requests_recovery =
    more_set (codes "durable") durable ++ more_set (codes "no_concurrent") no_concurrent
    ++ more_set (codes "requests_recovery") requests_recovery

unfoldable pub job_text : JobData → List ℕ
job_text j =
    123 ∷ key_members j.key ++ more (codes "class") (quoted j.class)
    ++ flag_members j.durable j.no_concurrent j.requests_recovery ++ more_text (codes "data") [] j.payload ++ 125 ∷ []
