-- Timings: each that is valid is written and read so, and none else is read.
use Rattle.std.proofs.Common.{◌≡◌, refl, sym, subst}
use Rattle.std.specs.Prelude.{IfSome}
use Rattle.std.specs.Int.{w8}
use Rattle.qz_civil.specs.Timings.{is_misfire}
use Rattle.qz_civil.specs.declared.timings.Kind.{Kind}
use Rattle.qz_civil.specs.declared.timings.Timing.{Timing}
use Rattle.qz_values.specs.declared.versions.Version.{Version}
use Rattle.qz_values.specs.Fields.{small, IsNumber, IsSpan, checked, small_at}
use Rattle.qz_values.specs.Timings.{timing, IsTiming, timing_at}
use Rattle.qz_values.specs.Formats.{IsFormat, Any}
use Rattle.qz_values.proofs.Formats.{Also, field, last, same, those}
use Rattle.qz_values.proofs.SingleFields.{small_format, optional_format}
use Rattle.qz_values.proofs.NameFormats.{span_format}
use Rattle.qz_values.proofs.KindFormats.{kind_format}

abbrev Free : {A : Type 0} → A → Type 0
Free x = Unit {0}

misfire_format : (k : Kind) → IsFormat small Any (IsNumber w8 (is_misfire k)) (checked (is_misfire k) small_at) 1
misfire_format k = same (those (is_misfire k) small_format) (λ z h. refl) (λ z h p. record { fits = p.fits; passed = p.passed }) (λ z h p. record { fits = p.fits; passed = p.passed })

pub record IsRestOfTiming (t : Timing) : Type 0 where
  pub misfire : IsNumber w8 (is_misfire t.kind) t.misfire
  pub start : IsSpan t.start
  pub end : IfSome t.end IsSpan

pub timing_format : (version : Version) → IsFormat (timing version) Any (IsTiming version) (timing_at version) 283
unfolding timing timing_at
timing_format version = same {write' = timing version} {Is' = IsTiming version}
    (field Free (λ (t : Timing). t.kind) (kind_format version) (λ k. same {Is' = IsRestOfTiming}
    (field (λ (t : Timing). Also (Unit {0}) (t.kind ≡ k)) (λ (t : Timing). t.misfire) (misfire_format k) (λ misfire.
    field (λ (t : Timing). Also (Also (Unit {0}) (t.kind ≡ k)) (t.misfire ≡ misfire)) (λ (t : Timing). t.start) span_format (λ start.
    last (λ (t : Timing). Also (Also (Also (Unit {0}) (t.kind ≡ k)) (t.misfire ≡ misfire)) (t.start ≡ start)) (λ (t : Timing). t.end) (optional_format span_format)
    (λ end. record { kind = k; misfire = misfire; start = start; end = end })
    (λ end. record { before = record { before = record { before = tt; now = refl }; now = refl }; now = refl })
    (λ end. refl) (λ t h. rw (← h.now, ← h.before.now, ← h.before.before.now) refl))))
    (λ t h. refl)
    (λ t h p. record { misfire = subst (λ (kind : Kind). IsNumber w8 (is_misfire kind) t.misfire) (sym h.now) p.first; start = p.others.first; end = p.others.others })
    (λ t h p. record { first = subst (λ (kind : Kind). IsNumber w8 (is_misfire kind) t.misfire) h.now p.misfire; others = record { first = p.start; others = p.end } })))
    (λ t h. refl)
    (λ t h p. record { kind = p.first; misfire = p.others.misfire; start = p.others.start; end = p.others.end })
    (λ t h p. record { first = p.kind; others = record { misfire = p.misfire; start = p.start; end = p.end } })
