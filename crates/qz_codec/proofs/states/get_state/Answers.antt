use Rattle.std.proofs.Common.{◌≡◌, ◌∙◌, sym, ap}
use Rattle.std.proofs.lemmas.Result.{err_from_is_err_and}
use Rattle.qz_types.specs.Entries.{StateEntryData}
use Rattle.qz_values.specs.declared.versions.Version.{Version}
use Rattle.qz_values.proofs.Formats.{done, ok_is}
use Rattle.qz_codec.specs.States.{meant, state_entry_at}
use Rattle.qz_codec.proofs.RecordFormats.{meant_exact, meant_fault, fault_of}
use Rattle.qz_codec.proofs.states.get_state.Goals as goal

pub returns-in_err-version-clause-only : goal.returns-in_err-version-clause-only
returns-in_err-version-clause-only c = λ e is.
    let p = err_from_is_err_and c.from_residual.result c.from_residual.ensures.1 in
    rw (p.1, p.2) (fault_of {A = Version × StateEntryData} c.in_err-version.field-0.0 (is.version, is.stored) e (c.in_err-version.ensures.only is.version is.stored is.has is.bytes_are))

pub returns-in_err-version-clause-exact : goal.returns-in_err-version-clause-exact
returns-in_err-version-clause-exact c =
    let p = err_from_is_err_and c.from_residual.result c.from_residual.ensures.1 in
    rw (p.1, p.2) (meant_fault meant (λ version. state_entry_at) c.args.bytes.now c.in_err-version.field-0.0 c.in_err-version.ensures.exact)

pub returns-clause-only : goal.returns-clause-only
returns-clause-only c = λ e is.
    let same : (is.version, is.stored) ≡ (c.in_ok-version.version, c.in_ok-version.entry) = ok_is (is.version, is.stored) (c.in_ok-version.version, c.in_ok-version.entry) (c.in_ok-version.ensures.only is.version is.stored is.has is.bytes_are) in
    ap done (is.means ∙ ap (λ (p : Version × StateEntryData). meant p.0 p.1) same ∙ sym c.meaning.ensures)

pub returns-clause-exact : goal.returns-clause-exact
returns-clause-exact c =
    meant_exact meant (λ version. state_entry_at) c.args.bytes.now c.in_ok-version.version c.in_ok-version.entry c.in_ok-version.ensures.exact ∙ ap done (sym c.meaning.ensures)
