-- A trigger that a misfire moves stays valid.
use Rattle.std.proofs.Common.{◌≡◌, ◌&&◌, ◌≤◌, ◌^◌, inl, inr, refl, subst, Bool, true, List, Option, Some, None, IfSome, ℕ, ℤ, pos, negsuc, false, ◌≤ℤ◌, unsigned_abs, unwrap_or, IsTrue, ◌∙◌, arith}
use Rattle.std.specs.Prelude.{nat_le}
use Rattle.std.specs.Ordering.{int_eq}
use Rattle.std.proofs.lemmas.Int.{ints}
use Rattle.qz_civil.specs.declared.limits.TheConstants.{LAST}
use Rattle.qz_civil.specs.declared.stretches.Stretch.{Stretch}
use Rattle.qz_civil.specs.declared.timings.Kind.{Kind}
use Rattle.qz_civil.specs.declared.timings.Kind.TheVariants.{Simple, Cron, Interval, Daily}
use Rattle.qz_civil.specs.declared.timings.Moved.{Moved}
use Rattle.qz_civil.specs.declared.timings.Timing.{Timing}
use Rattle.qz_civil.specs.Timings.{is_end, is_kind, is_misfire, is_simple, is_span, is_timing}
use Rattle.qz_calendar.specs.Chains.{ZonedCalendar}
use Rattle.qz_misfire.specs.Effects.{count_of}
use Rattle.qz_misfire.specs.Table.{moved}
use Rattle.qz_misfire.proofs.MovedLaws.{IsFewer, IsMove, IsTimestamp, moved-move}
use Rattle.qz_plan.specs.Plan.{fire_time_after}
use Rattle.qz_plan.proofs.Plan.{fire_time_within}
use Rattle.qz_types.specs.Changes.{counting, moved_timing}
use Rattle.qz_types.specs.Rows.{TriggerData, is_calendar, is_key, is_trigger, is_trigger_spec}
use Rattle.qz_types.specs.declared.limits.TheConstants.{TIMES_LIMIT}
use Rattle.qz_types.specs.Tables.{SchedulerTables}
use Rattle.qz_model.specs.Acquiring.{next_time}
use Rattle.qz_model.specs.Misfires.{move_of}
use Rattle.qz_model.specs.Plan.{within, next_after, stretches_for, zone_named_by, zoned_chain}
use Rattle.qz_apply.proofs.UpToHorizon.{within-too}

-- the same count again changes no kind
counting-same : (kind : Kind) → counting (count_of kind) kind ≡ kind
counting-same (Simple interval count) = refl
counting-same (Cron fields zone) = refl
counting-same (Interval unit every zone preserve skip) = refl
counting-same (Daily unit every from to days zone) = refl

-- and another count leaves its instructions
counting-misfire : (count : ℤ) (kind : Kind) (code : ℤ) → is_misfire (counting count kind) code ≡ is_misfire kind code
counting-misfire count (Simple interval old) code = refl
counting-misfire count (Cron fields zone) code = refl
counting-misfire count (Interval unit every zone preserve skip) code = refl
counting-misfire count (Daily unit every from to days zone) code = refl

simple-fewer : (interval count : ℤ) (left : ℕ) → IsTrue (is_simple interval count) → int_eq count (negsuc 0) ≡ false → int_eq count (pos 0) ≡ false → left ≤ unsigned_abs count → IsTrue (is_simple interval (pos left))
simple-fewer interval count left valid endless once fewer = grind (arith, ints)

counting-fewer : (kind : Kind) (count : ℤ) → IsTrue (is_kind kind) → IsFewer (count_of kind) count → IsTrue (is_kind (counting count kind))
counting-fewer (Simple interval old) count valid less = rw less.is (simple-fewer interval old less.number valid less.endless less.once less.fewer)
counting-fewer (Cron fields zone) count valid less = valid
counting-fewer (Interval unit every zone preserve skip) count valid less = valid
counting-fewer (Daily unit every from to days zone) count valid less = valid

-- a timestamp is a span
pub span : (t : ℤ) → IsTimestamp t → IsTrue (is_span t)
span t known = (let low = known.0 in let high = known.1 in grind (arith, ints))

four : (a b c d : Bool) → IsTrue a → IsTrue b → IsTrue c → IsTrue d → IsTrue (a && b && c && d)
four a b c d ha hb hc hd = rw (ha, hb, hc, hd) refl

kind_of : (timing : Timing) → IsTrue (is_timing timing) → IsTrue (is_kind timing.kind)
kind_of timing valid = grind arith

misfire_of : (timing : Timing) → IsTrue (is_timing timing) → IsTrue (is_misfire timing.kind timing.misfire)
misfire_of timing valid = grind arith

start_of : (timing : Timing) → IsTrue (is_timing timing) → IsTrue (is_span timing.start)
start_of timing valid = grind arith

end_of : (timing : Timing) → IsTrue (is_timing timing) → IsTrue (is_end timing.end)
end_of timing valid = grind arith

module _ (timing : Timing) (move : Moved) (valid : IsTrue (is_timing timing)) (is : IsMove timing move) where
  kind_valid : IsTrue (is_kind (counting move.count timing.kind))
  kind_valid = elim is.count [
    | inl same ↦ rw (same, counting-same timing.kind) (kind_of timing valid)
    | inr less ↦ counting-fewer timing.kind move.count (kind_of timing valid) less
  ]

  start_valid : IsTrue (is_span move.start)
  start_valid = elim is.start [
    | inl same ↦ rw same (start_of timing valid)
    | inr known ↦ span move.start known
  ]

  misfire_valid : IsTrue (is_misfire (counting move.count timing.kind) timing.misfire)
  misfire_valid = rw (counting-misfire move.count timing.kind timing.misfire) (misfire_of timing valid)

  pub moved-valid : IsTrue (is_timing (moved_timing move timing))
  moved-valid = four (is_kind (counting move.count timing.kind)) (is_misfire (counting move.count timing.kind) timing.misfire) (is_span move.start) (is_end timing.end) kind_valid misfire_valid start_valid (end_of timing valid)

-- What is known of a trigger's row, which contracts see as a trigger.

both : (a b : Bool) → (a && b) ≡ true → (a ≡ true) × (b ≡ true)
both a b h = grind arith

pub timing_of : (t row : TriggerData) → t ≡ row → IsTrue (is_trigger t) → IsTrue (is_timing t.spec.timing)
timing_of t row seen valid =
    let spec = (both (is_trigger_spec t.spec) (nat_le t.times TIMES_LIMIT) valid).0 in
    (both (is_key t.spec.key && is_key t.spec.job && is_calendar t.spec.calendar) (is_timing t.spec.timing) spec).1

pub times_of : (t row : TriggerData) → t ≡ row → IsTrue (is_trigger t) → t.times ≤ 2 ^ 63
times_of t row seen valid = let few = (both (is_trigger_spec t.spec) (nat_le t.times TIMES_LIMIT) valid).1 in grind arith

-- the fire time, if there is one, is a timestamp
known_after : (timing : Timing) (zone : List Stretch) (chain : List ZonedCalendar) (t : ℤ) (r : Option ℤ) → pos 0 ≤ℤ t → fire_time_after timing zone chain t ≡ r → IfSome r IsTimestamp
known_after timing zone chain t None low is = tt
known_after timing zone chain t (Some s) low is =
    let within = fire_time_within timing zone chain t s (omega (arith, ints)) is in
    (omega (arith, ints, within.0), within.1)

pub moved-by : (timing : Timing) (zone : List Stretch) (chain : List ZonedCalendar) (horizon next moment : ℤ) (times : ℕ) (move : Moved) → times ≤ 2 ^ 63 → pos 0 ≤ℤ moment → moment ≤ℤ LAST
    → move ≡ moved timing (within horizon (fire_time_after timing zone chain moment)) next times moment → IsMove timing move
moved-by timing zone chain horizon next moment times move few low high is =
    rw is (moved-move timing times few (within horizon (fire_time_after timing zone chain moment)) next moment (low, high)
    (within-too IsTimestamp horizon (fire_time_after timing zone chain moment) (known_after timing zone chain moment _ low refl)))

pub moved-row : (t row : TriggerData) (move : Moved) → t ≡ row → IsTrue (is_timing t.spec.timing) → IsMove t.spec.timing move → IsTrue (is_timing (moved_timing move row.spec.timing))
moved-row t row move is valid moves = subst (λ (r : TriggerData). IsTrue (is_timing (moved_timing move r.spec.timing))) is (moved-valid t.spec.timing move valid moves)

-- the parts by which a move is made are those of the definition
pub moved-as : (T : SchedulerTables) (m : ℤ) (t row : TriggerData) (zone : List Stretch) (chain : List ZonedCalendar) (calendar : Option (List ℕ)) (next : ℤ) (move : Moved) → t ≡ row
    → zone ≡ stretches_for T.zones (zone_named_by t.spec.timing.kind) → chain ≡ zoned_chain T calendar → calendar ≡ t.spec.calendar → next ≡ unwrap_or t.next (pos 0)
    → move ≡ moved t.spec.timing (within T.horizon (fire_time_after t.spec.timing zone chain m)) next t.times m → move ≡ move_of T m row
unfolding move_of next_after next_time
moved-as T m t row zone chain calendar next move seen shown chained named time is =
    subst (λ (r : TriggerData). move ≡ move_of T m r) seen (is ∙ rw (shown, chained, named, time) refl)
