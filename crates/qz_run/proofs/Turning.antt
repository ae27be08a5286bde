-- The clock is turned.
use Rattle.std.proofs.Common.{◌≡◌, inl, inr, ℕ, ◌<◌, ℤ, pos, ◌≤ℤ◌, ◌<ℤ◌, int_le, List, [], ◌∷◌, length, Bool, true, false, refl, sym, ◌∙◌, arith, rules}
use Rattle.std.specs.Prelude.{Option, Some, None}
use Rattle.std.specs.Int.{int_min}
use Rattle.std.specs.Ordering.{int_eq}
use Rattle.std.proofs.lemmas.Bool.Decides.{Decides-int_eq}
use Rattle.std.proofs.lemmas.Int.{ints, int_min_is}
use Rattle.qz_civil.specs.declared.limits.TheConstants.{LAST}
use Rattle.qz_run.specs.declared.commands.Plan.{Plan}
use Rattle.qz_run.specs.Stores.{View, Event, RunState}
use Rattle.qz_run.specs.Laws.{IsOurs, IsMoment, Rises, fresh, fresh_at, idle_kind}
use Rattle.qz_run.specs.Working.{AreUpTo, IsPlan, MayAsk}
use Rattle.qz_run.specs.Moments.{Working}
use Rattle.qz_run.specs.RunRules.{MayGoOn}

differ : (m q : ℤ) → q <ℤ m → int_eq m q ≡ false
differ m q lt = grind (arith, ints, Decides-int_eq m q)

fresh_later : (n : ℕ) (m : ℤ) (kind : Bool) (e : Event) (o : Option Bool) (further : Bool) → e.moment <ℤ m → further ≡ true → fresh_at n m kind e o further ≡ true
fresh_later n m kind e None further lt is = refl
fresh_later n m kind e (Some k) further lt is = rw (differ m e.moment lt, is) (grind arith)

-- at a later moment every node may ask
fresh_all : (n : ℕ) (now m : ℤ) (kind : Bool) (log : List Event) → now <ℤ m → AreUpTo now log → fresh n m kind log ≡ true
fresh_all n now m kind [] lt up = refl
fresh_all n now m kind (e ∷ log) lt up = fresh_later n m kind e (idle_kind e.reply) (fresh n m kind log) (omega (arith, ints, lt, up.0)) (fresh_all n now m kind log lt up.1)

later_too : (now m : ℤ) (log : List Event) → now <ℤ m → AreUpTo now log → AreUpTo m log
later_too now m [] lt up = tt
later_too now m (e ∷ log) lt up = (omega (arith, ints, lt, up.0), later_too now m log lt up.1)

moment_of : (p : Plan) (v : View) (m : ℤ) (log : List Event) → 0 < length log → Rises p v m → IsMoment p v m log
moment_of p v m [] some rises = absurd (omega (arith, some))
moment_of p v m (e ∷ log) some rises = inr rises

above : (next t : ℤ) → t <ℤ next → int_le next t ≡ false
above next t lt = grind (arith, ints)

reached : (next t : ℤ) → next ≤ℤ t → int_le next t ≡ true
reached next t le = grind (arith, ints)

low_enough : (at next : ℤ) → pos 0 ≤ℤ at → at <ℤ next → pos 0 ≤ℤ next
low_enough at next low lt = omega (arith, ints, low, lt)

high_enough : (next until last : ℤ) → next ≤ℤ until → until ≤ℤ last → next ≤ℤ last
high_enough next until last a b = omega (arith, ints, a, b)

pub rises : (p : Plan) (at next : ℤ) (s : RunState) → IsPlan p → Working p at s → 0 < length s.log → ((t : ℤ) → s.view.due t ≡ int_le next t) → next ≤ℤ p.until → at <ℤ next → Working p next s
rises p at next s plan w some due within later = record {
  ready = record {
    lawful = w.ready.lawful;
    moment = moment_of p s.view next s.log some (record {
      free = w.free;
      none_due = due s.view.last ∙ above next s.view.last (omega (arith, ints, w.ready.clock, later));
      later = omega (arith, ints, w.ready.clock, later);
      due = due next ∙ reached next next (omega (arith, ints));
      least = λ t lt. due t ∙ above next t lt;
      within = within;
    });
    clock = omega (arith, ints, w.ready.clock, later);
    time = record { low = low_enough at next w.ready.time.low later; high = high_enough next p.until LAST within plan.until.high };
    up_to_now = later_too at next s.log later w.ready.up_to_now;
  };
  free = w.free;
  members = w.members;
  known = w.known;
}

pub rises_ask : (p : Plan) (at next : ℤ) (s : RunState) → Working p at s → at <ℤ next → (n : ℕ) → IsOurs p n → MayAsk n next s
rises_ask p at next s w later n ours = record { misfires = fresh_all n at next true s.log later w.ready.up_to_now; acquire = fresh_all n at next false s.log later w.ready.up_to_now }

true_false : true ≡ false → ⊥
true_false is = search rules

least_of : (u at next : ℤ) → next ≤ℤ u → next ≤ℤ at → next ≤ℤ int_min u at
least_of u at next a b = omega (arith, ints, int_min_is u at, a, b)

pub stays_ask : (p : Plan) (at next : ℤ) (s : RunState) → MayGoOn p at s → ((t : ℤ) → s.view.due t ≡ int_le next t) → next ≤ℤ p.until → next ≤ℤ at → (n : ℕ) → IsOurs p n → MayAsk n at s
stays_ask p at next s (inl all) due within low n ours = all n ours
stays_ask p at next s (inr quiet) due within low n ours = absurd (true_false (sym (due (int_min p.until at) ∙ reached next (int_min p.until at) (least_of p.until at next within low)) ∙ quiet))
