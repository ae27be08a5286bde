-- Records of state entries: what is written is the record of one entry.
use Rattle.std.proofs.Common.{◌≡◌, ℕ, List, get_or, Result, Ok, Err, sym, ◌∙◌, ap, arith}
use Rattle.std.specs.Prelude.{IfOk}
use Rattle.qz_types.specs.Entries.{StateEntryData}
use Rattle.qz_values.specs.declared.versions.Version.{Version}
use Rattle.qz_values.specs.declared.versions.Version.TheVariants.{One, Two}
use Rattle.qz_codec.specs.Records.{recorded, IsRecord}
use Rattle.qz_codec.proofs.RecordFormats.{record_once}
use Rattle.qz_codec.proofs.StateFormats.{state_entry_format}
use Rattle.qz_codec.specs.States.{IsStateEntry, state_fields, meant, IsStateRecord}

-- the bytes are a record of the entry as it stands
abbrev Stands : List ℕ → StateEntryData → Type 0
Stands bytes e = IsRecord state_fields (λ version. IsStateEntry) bytes e

-- A record of version two is of no other entry, in version one neither: their first bytes differ.
meaning_is : (bytes : List ℕ) (x e : StateEntryData) (version : Version) (stored : StateEntryData) → bytes ≡ recorded state_fields Two x → ((s : StateEntryData) → Stands bytes s → s ≡ x) → IsStateEntry stored → bytes ≡ recorded state_fields version stored → e ≡ meant version stored → e ≡ x
meaning_is bytes x e One stored written unique has bytes_are means =
    let first : 1 ≡ 2 = ap (λ (l : List ℕ). get_or l 0 0) (sym bytes_are ∙ written) in
    absurd (omega (arith, first))
meaning_is bytes x e Two stored written unique has bytes_are means = means ∙ unique stored (record { version = Two; has = has; bytes_are = bytes_are })

pub written_unique : {E : Type 0} (r : Result (List ℕ) E) (x : StateEntryData) → IfOk r (λ bytes. bytes ≡ recorded state_fields Two x) → IfOk r (λ bytes. (s : StateEntryData) → Stands bytes s → s ≡ x) → IfOk r (λ bytes. (e : StateEntryData) → IsStateRecord bytes e → e ≡ x)
written_unique (Ok bytes) x written unique = λ e is. meaning_is bytes x e is.version is.stored written unique is.has is.bytes_are is.means
written_unique (Err error) x written unique = tt

-- No two entries have one record, in whichever versions.
pub state_record_unique : (bytes : List ℕ) (a b : StateEntryData) → IsStateRecord bytes a → IsStateRecord bytes b → a ≡ b
state_record_unique bytes a b is_a is_b =
    let once = record_once {write = state_fields} (λ version. state_entry_format) bytes is_a.version is_b.version is_a.stored is_b.stored is_a.has is_b.has is_a.bytes_are is_b.bytes_are in
    is_a.means ∙ ap (λ (p : Version × StateEntryData). meant p.0 p.1) once ∙ sym is_b.means
