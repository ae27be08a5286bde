-- Rows of triggers, fired rows and check-ins: each that is valid is written and read so, and none else is read.
use Rattle.std.proofs.Common.{◌≡◌, ℕ, ℤ, Bool, true, List, [], ◌∷◌, ◌++◌, Option, Ok, refl, arith}
use Rattle.std.specs.Prelude.{nat_le}
use Rattle.std.specs.Int.{w64}
use Rattle.std.proofs.lemmas.Bool.{leb-true}
use Rattle.qz_types.specs.Rows.{TriggerData, FiredData, StateData, is_interval}
use Rattle.qz_types.specs.declared.limits.TheConstants.{TIMES_LIMIT}
use Rattle.qz_types.specs.declared.keys.Key.{Key}
use Rattle.qz_types.specs.declared.fired.FiredState.{FiredState}
use Rattle.qz_types.specs.declared.fired.FiredState.TheVariants as fired_states
use Rattle.qz_types.specs.declared.triggers.TriggerState.{TriggerState}
use Rattle.qz_types.specs.declared.triggers.TriggerState.TheVariants as trigger_states
use Rattle.qz_values.specs.declared.versions.Version.{Version}
use Rattle.qz_values.specs.Fields.{number, checked, byte_at, number_at}
use Rattle.qz_codec.specs.Rows.{trigger_state_place, fired_state_place, trigger, fired, state, IsTrigger, IsFired, IsState, trigger_state_at, fired_state_at, trigger_at, progress_at, fired_at, state_at}
use Rattle.qz_values.specs.Formats.{IsFormat, Any}
use Rattle.qz_values.proofs.Formats.{Also, field, last, same}
use Rattle.qz_values.proofs.SingleFields.{wide32, wide64, same32, same64, number_format, integer_format, flag_format, optional_format}
use Rattle.qz_codec.proofs.RowFormats.{node_format, key_format, spec_format}
use Rattle.qz_values.proofs.NameFormats.{tested, narrowed}
use Rattle.qz_values.proofs.VariantFormats.{Choices, bare, tagged}

abbrev Free : {A : Type 0} → A → Type 0
Free x = Unit {0}

-- ---- states

abbrev trigger_state_byte : TriggerState → List ℕ
trigger_state_byte s = trigger_state_place s ∷ []

trigger_state_choices : Choices TriggerState
trigger_state_choices =
    (0, λ rest. Ok (trigger_states.Waiting, rest))
    ∷ (1, λ rest. Ok (trigger_states.Acquired, rest))
    ∷ (2, λ rest. Ok (trigger_states.Complete, rest))
    ∷ (3, λ rest. Ok (trigger_states.Blocked, rest))
    ∷ (4, λ rest. Ok (trigger_states.Paused, rest))
    ∷ (5, λ rest. Ok (trigger_states.PausedBlocked, rest))
    ∷ (6, λ rest. Ok (trigger_states.Error, rest))
    ∷ []

trigger_state_again : (s : TriggerState) (rest : List ℕ) → Unit {0} → trigger_state_at (trigger_state_byte s ++ rest) ≡ Ok (s, rest)
unfolding trigger_state_at byte_at
trigger_state_again trigger_states.Waiting rest is = refl
trigger_state_again trigger_states.Acquired rest is = refl
trigger_state_again trigger_states.Complete rest is = refl
trigger_state_again trigger_states.Blocked rest is = refl
trigger_state_again trigger_states.Paused rest is = refl
trigger_state_again trigger_states.PausedBlocked rest is = refl
trigger_state_again trigger_states.Error rest is = refl

trigger_state_format : IsFormat trigger_state_byte Any Any trigger_state_at 1
unfolding trigger_state_at byte_at trigger_state_choices
trigger_state_format = tagged 0 trigger_state_choices
    (bare 0 trigger_states.Waiting refl tt, (bare 1 trigger_states.Acquired refl tt, (bare 2 trigger_states.Complete refl tt, (bare 3 trigger_states.Blocked refl tt, (bare 4 trigger_states.Paused refl tt, (bare 5 trigger_states.PausedBlocked refl tt, (bare 6 trigger_states.Error refl tt, tt)))))))
    refl (λ b bytes. refl) trigger_state_again

abbrev fired_state_byte : FiredState → List ℕ
fired_state_byte s = fired_state_place s ∷ []

fired_state_choices : Choices FiredState
fired_state_choices = (0, λ rest. Ok (fired_states.Acquired, rest)) ∷ (1, λ rest. Ok (fired_states.Executing, rest)) ∷ []

fired_state_again : (s : FiredState) (rest : List ℕ) → Unit {0} → fired_state_at (fired_state_byte s ++ rest) ≡ Ok (s, rest)
unfolding fired_state_at byte_at
fired_state_again fired_states.Acquired rest is = refl
fired_state_again fired_states.Executing rest is = refl

fired_state_format : IsFormat fired_state_byte Any Any fired_state_at 1
unfolding fired_state_at byte_at fired_state_choices
fired_state_format = tagged 0 fired_state_choices (bare 0 fired_states.Acquired refl tt, (bare 1 fired_states.Executing refl tt, tt)) refl (λ b bytes. refl) fired_state_again

-- ---- triggers

times_format : IsFormat (number w64) Any (λ n. nat_le n TIMES_LIMIT ≡ true) (checked (λ n. nat_le n TIMES_LIMIT) (number_at w64)) 8
times_format = narrowed wide64 (λ n. nat_le n TIMES_LIMIT) (λ n p. omega (arith, leb-true n TIMES_LIMIT p))

pub trigger_format : (version : Version) → IsFormat (trigger version) Any (IsTrigger version) (trigger_at version) 1325
unfolding trigger trigger_at
trigger_format version = same {write' = trigger version} {Is' = IsTrigger version}
    (field Free (λ (t : TriggerData). t.spec) (spec_format version) (λ spec.
    field (λ (t : TriggerData). Also (Unit {0}) (t.spec ≡ spec)) (λ (t : TriggerData). t.next) (optional_format (integer_format wide64 same64)) (λ next.
    field (λ (t : TriggerData). Also (Also (Unit {0}) (t.spec ≡ spec)) (t.next ≡ next)) (λ (t : TriggerData). t.prev) (optional_format (integer_format wide64 same64)) (λ prev.
    field (λ (t : TriggerData). Also (Also (Also (Unit {0}) (t.spec ≡ spec)) (t.next ≡ next)) (t.prev ≡ prev)) (λ (t : TriggerData). t.times) times_format (λ times.
    last (λ (t : TriggerData). Also (Also (Also (Also (Unit {0}) (t.spec ≡ spec)) (t.next ≡ next)) (t.prev ≡ prev)) (t.times ≡ times)) (λ (t : TriggerData). t.state) trigger_state_format
    (λ state. record { spec = spec; next = next; prev = prev; times = times; state = state })
    (λ state. record { before = record { before = record { before = record { before = tt; now = refl }; now = refl }; now = refl }; now = refl })
    (λ state. refl) (λ t h. rw (← h.now, ← h.before.now, ← h.before.before.now, ← h.before.before.before.now) refl))))))
    (λ t h. refl)
    (λ t h p. record { spec = p.first; next = p.others.first; prev = p.others.others.first; times = p.others.others.others.first })
    (λ t h p. record { first = p.spec; others = record { first = p.next; others = record { first = p.prev; others = record { first = p.times; others = tt } } } })

-- ---- check-ins

pub state_format : IsFormat state Any IsState state_at 138
unfolding state state_at
state_format = same {write' = state} {Is' = IsState}
    (field Free (λ (s : StateData). s.node) node_format (λ node.
    field (λ (s : StateData). Also (Unit {0}) (s.node ≡ node)) (λ (s : StateData). s.last) (integer_format wide64 same64) (λ at.
    last (λ (s : StateData). Also (Also (Unit {0}) (s.node ≡ node)) (s.last ≡ at)) (λ (s : StateData). s.interval) (tested is_interval)
    (λ interval. record { node = node; last = at; interval = interval })
    (λ interval. record { before = record { before = tt; now = refl }; now = refl })
    (λ interval. refl) (λ s h. rw (← h.now, ← h.before.now) refl))))
    (λ s h. refl)
    (λ s h p. record { node = p.first; last = p.others.first; interval = p.others.others })
    (λ s h p. record { first = p.node; others = record { first = p.last; others = p.interval } })

-- ---- fired rows

-- what is known of a row once its fields up to this one were read
abbrev UptoEntry : ℕ → FiredData → Type 0
UptoEntry entry f = Also (Unit {0}) (f.entry ≡ entry)

abbrev UptoNode : ℕ → List ℕ → FiredData → Type 0
UptoNode entry node f = Also (UptoEntry entry f) (f.node ≡ node)

abbrev UptoEpoch : ℕ → List ℕ → ℕ → FiredData → Type 0
UptoEpoch entry node epoch f = Also (UptoNode entry node f) (f.epoch ≡ epoch)

abbrev UptoTrigger : ℕ → List ℕ → ℕ → Key → FiredData → Type 0
UptoTrigger entry node epoch trigger f = Also (UptoEpoch entry node epoch f) (f.trigger ≡ trigger)

abbrev UptoJob : ℕ → List ℕ → ℕ → Key → Key → FiredData → Type 0
UptoJob entry node epoch trigger job f = Also (UptoTrigger entry node epoch trigger f) (f.job ≡ job)

abbrev UptoPriority : ℕ → List ℕ → ℕ → Key → Key → ℤ → FiredData → Type 0
UptoPriority entry node epoch trigger job priority f = Also (UptoJob entry node epoch trigger job f) (f.priority ≡ priority)

abbrev UptoState : ℕ → List ℕ → ℕ → Key → Key → ℤ → FiredState → FiredData → Type 0
UptoState entry node epoch trigger job priority state f = Also (UptoPriority entry node epoch trigger job priority f) (f.state ≡ state)

abbrev UptoScheduled : ℕ → List ℕ → ℕ → Key → Key → ℤ → FiredState → ℤ → FiredData → Type 0
UptoScheduled entry node epoch trigger job priority state scheduled f = Also (UptoState entry node epoch trigger job priority state f) (f.scheduled ≡ scheduled)

abbrev UptoFired : ℕ → List ℕ → ℕ → Key → Key → ℤ → FiredState → ℤ → Option ℤ → FiredData → Type 0
UptoFired entry node epoch trigger job priority state scheduled at f = Also (UptoScheduled entry node epoch trigger job priority state scheduled f) (f.fired ≡ at)

abbrev UptoAlone : ℕ → List ℕ → ℕ → Key → Key → ℤ → FiredState → ℤ → Option ℤ → Bool → FiredData → Type 0
UptoAlone entry node epoch trigger job priority state scheduled at alone f = Also (UptoFired entry node epoch trigger job priority state scheduled at f) (f.no_concurrent ≡ alone)

pub fired_format : IsFormat fired Any IsFired fired_at 970
unfolding fired fired_at progress_at
fired_format = same {write' = fired} {Is' = IsFired}
    (field Free (λ (f : FiredData). f.entry) (number_format wide64) (λ entry.
    field (UptoEntry entry) (λ (f : FiredData). f.node) node_format (λ node.
    field (UptoNode entry node) (λ (f : FiredData). f.epoch) (number_format wide64) (λ epoch.
    field (UptoEpoch entry node epoch) (λ (f : FiredData). f.trigger) key_format (λ trigger.
    field (UptoTrigger entry node epoch trigger) (λ (f : FiredData). f.job) key_format (λ job.
    field (UptoJob entry node epoch trigger job) (λ (f : FiredData). f.priority) (integer_format wide32 same32) (λ priority.
    field (UptoPriority entry node epoch trigger job priority) (λ (f : FiredData). f.state) fired_state_format (λ state.
    field (UptoState entry node epoch trigger job priority state) (λ (f : FiredData). f.scheduled) (integer_format wide64 same64) (λ scheduled.
    field (UptoScheduled entry node epoch trigger job priority state scheduled) (λ (f : FiredData). f.fired) (optional_format (integer_format wide64 same64)) (λ at.
    field (UptoFired entry node epoch trigger job priority state scheduled at) (λ (f : FiredData). f.no_concurrent) flag_format (λ alone.
    last (UptoAlone entry node epoch trigger job priority state scheduled at alone) (λ (f : FiredData). f.requests_recovery) flag_format
    (λ recovery. record { entry = entry; node = node; epoch = epoch; trigger = trigger; job = job; priority = priority; state = state; scheduled = scheduled; fired = at; no_concurrent = alone; requests_recovery = recovery })
    (λ recovery. record { before = record { before = record { before = record { before = record { before = record { before = record { before = record { before = record { before = record { before = tt; now = refl }; now = refl }; now = refl }; now = refl }; now = refl }; now = refl }; now = refl }; now = refl }; now = refl }; now = refl })
    (λ recovery. refl) (λ f h. rw (← h.now, ← h.before.now, ← h.before.before.now, ← h.before.before.before.now, ← h.before.before.before.before.now, ← h.before.before.before.before.before.now, ← h.before.before.before.before.before.before.now, ← h.before.before.before.before.before.before.before.now, ← h.before.before.before.before.before.before.before.before.now, ← h.before.before.before.before.before.before.before.before.before.now) refl))))))))))))
    (λ f h. refl)
    (λ f h p. record { entry = p.first; node = p.others.first; epoch = p.others.others.first; trigger = p.others.others.others.first; job = p.others.others.others.others.first; priority = p.others.others.others.others.others.first; scheduled = p.others.others.others.others.others.others.others.first; fired = p.others.others.others.others.others.others.others.others.first })
    (λ f h p. record { first = p.entry; others = record { first = p.node; others = record { first = p.epoch; others = record { first = p.trigger; others = record { first = p.job; others = record { first = p.priority; others = record { first = tt; others = record { first = p.scheduled; others = record { first = p.fired; others = record { first = tt; others = tt } } } } } } } } } })
