-- What a misfire makes of a trigger is valid where its parts are.
use Rattle.std.proofs.Common.{◌≡◌, ℤ, Option}
use Rattle.std.specs.Prelude.{IsTrue}
use Rattle.qz_civil.specs.declared.timings.Kind.{Kind}
use Rattle.qz_civil.specs.declared.timings.Moved.{Moved}
use Rattle.qz_types.specs.Changes.{counting, moved_trigger}
use Rattle.qz_types.specs.Rows.{TriggerData, is_trigger}
use Rattle.qz_types.specs.declared.triggers.TriggerState.{TriggerState}

pub moved_valid : (moved : Moved) (t : TriggerData) (kind : Kind) (start : ℤ) (prev : Option ℤ) (state : TriggerState) → kind ≡ counting moved.count t.spec.timing.kind → start ≡ moved.start
    → IsTrue (is_trigger (moved_trigger moved t))
    → IsTrue (is_trigger (record { spec = record t.spec { timing = record t.spec.timing { kind = kind; start = start } }; next = moved.next; prev = prev; times = moved.times; state = state }))
moved_valid moved t kind start prev state e f h = rw (e, f) h
