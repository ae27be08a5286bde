use Rattle.std.proofs.Common.{rules, ◌≡◌, ℕ, List, Bool, true, false, Some, None, cond, refl, inr}
use Rattle.std.specs.Str.{IsUtf8, is_utf8}
use Rattle.std.proofs.lemmas.Str.{IsUtf8-from_is_utf8, is_utf8-from_IsUtf8}
use Rattle.serde_json.specs.Data.{Data}
use Rattle.serde_json.specs.Read.{read}
use Rattle.qz_job_json.specs.Lines.{value_of}
use Rattle.qz_job_json.proofs.lines.value_of.Goals as goal

is_json : (line : List ℕ) (d : Data) → IsUtf8 line → read line ≡ Some d → value_of line ≡ Some d
is_json line d text e = rw (is_utf8-from_IsUtf8 line text) e

no_json : (line : List ℕ) (b : Bool) → is_utf8 line ≡ b → (IsUtf8 line → read line ≡ None) → cond b (read line) None ≡ None
no_json line true is h = h (IsUtf8-from_is_utf8 line is)
no_json line false is h = refl

pub returns-in-Ok-clause-ok : goal.returns-in-Ok-clause-ok
returns-in-Ok-clause-ok c = is_json c.args.bytes.now _ c.in-Ok.ensures.ok.0 c.in-Ok.ensures.ok.1

pub returns-else-is_memory-clause-err : goal.returns-else-is_memory-clause-err
returns-else-is_memory-clause-err c = inr (refl, no_json c.args.bytes.now _ refl (c.in-Err.ensures.err (search rules)))
