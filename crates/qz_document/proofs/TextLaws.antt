-- The names of a text that is read, and of one that isn't JSON.
use Rattle.std.proofs.Common.{◌≡◌, ℕ, List, [], Bool, true, false, Some, None, refl}
use Rattle.std.specs.Str.{IsUtf8, is_utf8}
use Rattle.std.proofs.lemmas.Str.{IsUtf8-from_is_utf8, is_utf8-from_IsUtf8}
use Rattle.json.specs.Json.{Json, document}
use Rattle.json.specs.Find.{as_object}
use Rattle.qz_document.specs.Order.{names_if, names_in_text}

pub names_read : (bytes : List ℕ) (j : Json) → IsUtf8 bytes → document bytes ≡ Some j → names_in_text bytes ≡ names_if (as_object j)
names_read bytes j text e = rw (is_utf8-from_IsUtf8 bytes text) (rw e refl)

none_read : (bytes : List ℕ) (b : Bool) → is_utf8 bytes ≡ b → (IsUtf8 bytes → document bytes ≡ None) → names_in_text bytes ≡ []
none_read bytes true is h = rw is (rw (h (IsUtf8-from_is_utf8 bytes is)) refl)
none_read bytes false is h = rw is refl

pub no_names : (bytes : List ℕ) → (IsUtf8 bytes → document bytes ≡ None) → names_in_text bytes ≡ []
no_names bytes h = none_read bytes (is_utf8 bytes) refl h
