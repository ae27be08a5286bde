-- Rows beside jobs and members: their bytes, which have a record, and how they are read.
use Rattle.std.specs.Prelude.{◌≡◌, ℕ, ◌^◌, ◌<◌, nat_le, ◌==◌, true, FitsSigned, IfSome, List, [], ◌∷◌, ◌++◌, length, Ok, Err, if◌then◌else◌}
use Rattle.std.specs.Int.{w32, w64}
use Rattle.qz_types.specs.Rows.{TriggerData, FiredData, StateData, is_interval}
use Rattle.qz_types.specs.declared.limits.TheConstants.{NODE_LIMIT, TIMES_LIMIT}
use Rattle.qz_types.specs.declared.fired.FiredState.{FiredState}
use Rattle.qz_types.specs.declared.fired.FiredState.TheVariants as fired_states
use Rattle.qz_types.specs.declared.keys.Key.{Key}
use Rattle.qz_types.specs.declared.triggers.TriggerState.{TriggerState}
use Rattle.qz_types.specs.declared.triggers.TriggerState.TheVariants as trigger_states
use Rattle.qz_values.specs.declared.versions.Version.{Version}
use Rattle.qz_values.specs.Fields.{number, integer, flag, text, optional, IsText, IsNumber, ◌>>=◌, Read, checked, byte_at, number_at, integer_at, flag_at, optional_at}
use Rattle.qz_codec.specs.Layout.{key, spec}
use Rattle.qz_codec.specs.Values.{IsKey, IsSpec}
use Rattle.qz_codec.specs.Reading.{node_at, key_at, spec_at}

-- ---- bytes

-- the place of a state of a trigger, and of a fired row, among all of them
abbrev pub trigger_state_place : TriggerState → ℕ
trigger_state_place trigger_states.Waiting = 0
trigger_state_place trigger_states.Acquired = 1
trigger_state_place trigger_states.Complete = 2
trigger_state_place trigger_states.Blocked = 3
trigger_state_place trigger_states.Paused = 4
trigger_state_place trigger_states.PausedBlocked = 5
trigger_state_place trigger_states.Error = 6

abbrev pub fired_state_place : FiredState → ℕ
fired_state_place fired_states.Acquired = 0
fired_state_place fired_states.Executing = 1

-- a trigger: as it was stored, its next and last fire times if it has them, how often it fired, its state
unfoldable pub trigger : Version → TriggerData → List ℕ
trigger version t =
    spec version t.spec
    ++ (optional (integer w64) t.next
    ++ (optional (integer w64) t.prev ++ (number w64 t.times ++ trigger_state_place t.state ∷ [])))

-- a fired row: its entry number, the node and its epoch, the keys of trigger and job, the priority, its state, the time for which
-- it was acquired, the moment at which its execution began if it did, its two flags
unfoldable pub fired : FiredData → List ℕ
fired f =
    number w64 f.entry
    ++ (text f.node
    ++ (number w64 f.epoch
    ++ (key f.trigger
    ++ (key f.job
    ++ (integer w32 f.priority
    ++ (fired_state_place f.state
    ∷ (integer w64 f.scheduled
    ++ (optional (integer w64) f.fired ++ (flag f.no_concurrent ++ flag f.requests_recovery)))))))))

-- a row of the state store: the node, its last check-in, and how often it checks in
unfoldable pub state : StateData → List ℕ
state s = text s.node ++ (integer w64 s.last ++ integer w64 s.interval)

-- ---- which have a record: their texts are UTF-8, their numbers fit, and each is within its limits

pub record IsTrigger (version : Version) (t : TriggerData) : Type 0 where
  pub spec : IsSpec version t.spec
  pub next : IfSome t.next (FitsSigned w64)
  pub prev : IfSome t.prev (FitsSigned w64)
  pub times : nat_le t.times TIMES_LIMIT ≡ true

pub record IsFired (f : FiredData) : Type 0 where
  pub entry : f.entry < 2 ^ 64
  pub node : IsText 1 NODE_LIMIT f.node
  pub epoch : f.epoch < 2 ^ 64
  pub trigger : IsKey f.trigger
  pub job : IsKey f.job
  pub priority : FitsSigned w32 f.priority
  pub scheduled : FitsSigned w64 f.scheduled
  pub fired : IfSome f.fired (FitsSigned w64)

pub record IsState (s : StateData) : Type 0 where
  pub node : IsText 1 NODE_LIMIT s.node
  pub last : FitsSigned w64 s.last
  pub interval : IsNumber w64 is_interval s.interval

-- ---- reading, field by field: the value and the bytes after it, or how many bytes are left at the first wrong field

unfoldable pub trigger_state_at : List ℕ → Read TriggerState
trigger_state_at bytes = do
  place ← byte_at bytes
  if place.0 == 0 then Ok (trigger_states.Waiting, place.1)
      else if place.0 == 1 then Ok (trigger_states.Acquired, place.1)
      else if place.0 == 2 then Ok (trigger_states.Complete, place.1)
      else if place.0 == 3 then Ok (trigger_states.Blocked, place.1)
      else if place.0 == 4 then Ok (trigger_states.Paused, place.1)
      else if place.0 == 5 then Ok (trigger_states.PausedBlocked, place.1)
      else if place.0 == 6 then Ok (trigger_states.Error, place.1)
      else Err (length bytes)

unfoldable pub fired_state_at : List ℕ → Read FiredState
fired_state_at bytes = do
  place ← byte_at bytes
  if place.0 == 0 then Ok (fired_states.Acquired, place.1)
      else if place.0 == 1 then Ok (fired_states.Executing, place.1)
      else Err (length bytes)

unfoldable pub trigger_at : Version → List ℕ → Read TriggerData
trigger_at version bytes = do
  spec ← spec_at version bytes
  next ← optional_at (integer_at w64) spec.1
  prev ← optional_at (integer_at w64) next.1
  times ← checked (λ n. nat_le n TIMES_LIMIT) (number_at w64) prev.1
  state ← trigger_state_at times.1
  Ok (record { spec = spec.0; next = next.0; prev = prev.0; times = times.0; state = state.0 }, state.1)

-- a fired row, of which what stands before its priority is given
unfoldable pub progress_at : ℕ → List ℕ → ℕ → Key → Key → List ℕ → Read FiredData
progress_at entry node epoch trigger job bytes = do
  priority ← integer_at w32 bytes
  state ← fired_state_at priority.1
  scheduled ← integer_at w64 state.1
  fired ← optional_at (integer_at w64) scheduled.1
  no_concurrent ← flag_at fired.1
  requests_recovery ← flag_at no_concurrent.1
  Ok (
    record {
      entry = entry;
      node = node;
      epoch = epoch;
      trigger = trigger;
      job = job;
      priority = priority.0;
      state = state.0;
      scheduled = scheduled.0;
      fired = fired.0;
      no_concurrent = no_concurrent.0;
      requests_recovery = requests_recovery.0;
    },
    requests_recovery.1,
  )

unfoldable pub fired_at : List ℕ → Read FiredData
fired_at bytes = do
  entry ← number_at w64 bytes
  node ← node_at entry.1
  epoch ← number_at w64 node.1
  trigger ← key_at epoch.1
  job ← key_at trigger.1
  progress_at entry.0 node.0 epoch.0 trigger.0 job.0 job.1

unfoldable pub state_at : List ℕ → Read StateData
state_at bytes = do
  node ← node_at bytes
  last ← integer_at w64 node.1
  interval ← checked is_interval (integer_at w64) last.1
  Ok (record { node = node.0; last = last.0; interval = interval.0 }, interval.1)
