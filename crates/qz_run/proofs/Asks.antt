-- What each call of the trigger store comes to.
use Rattle.std.proofs.Common.{◌≡◌, ℕ, ◌<◌, ◌≤◌, ◌==◌, ℤ, List, [], ◌∷◌, length, get_or, Bool, true, false, not, ◌&&◌, if◌then◌else◌, refl, sym, ap, ◌∙◌, subst, arith, rules}
use Rattle.std.specs.Prelude.{Option, Some, None, IfSome}
use Rattle.std.specs.Int.{int_min}
use Rattle.std.specs.Ordering.{int_eq}
use Rattle.std.proofs.lemmas.Bool.Decides.{eqb_tells}
use Rattle.std.proofs.lemmas.Int.{ints, int_min_is}
use Rattle.qz_types.specs.declared.commands.Code.{Code}
use Rattle.qz_types.specs.declared.commands.Code.TheVariants.{ReExecuteJob}
use Rattle.qz_types.specs.declared.replies.Taken.{Taken}
use Rattle.qz_types.specs.declared.replies.MovedRow.{MovedRow}
use Rattle.qz_types.specs.declared.replies.Reply.{Reply}
use Rattle.qz_types.specs.declared.replies.Reply.TheVariants as reply
use Rattle.qz_node.specs.declared.contexts.JobContext.{JobContext}
use Rattle.qz_node.specs.declared.executing.TheConstants.{REFIRE_LIMIT}
use Rattle.qz_node.specs.Contexts.{context_of}
use Rattle.qz_run.specs.declared.commands.NodeCommand.TheVariants as asks
use Rattle.qz_run.specs.declared.commands.Plan.{Plan}
use Rattle.qz_run.specs.declared.commands.Grip.{Grip}
use Rattle.qz_run.specs.Stores.{RunState, Accepts, executing}
use Rattle.qz_run.specs.Laws.{IsOurs, fresh, fires, context_in, context_by, again, Ran}
use Rattle.qz_run.specs.Working.{Ready}
use Rattle.qz_run.specs.Steps.{AtWork, HasMoved, HasSettled, TookNone, Took, HasFired, CallsOnce, Repeated, Completed}
use Rattle.qz_run.proofs.Moves.{moves, fresh_telling}

short : {A : Type 0} (xs : List A) → length xs < 1 → xs ≡ []
short [] lt = refl
short (x ∷ xs) lt = absurd (omega arith)

single : {A : Type 0} (xs : List A) (x : A) → 1 ≤ length xs → length xs < 2 → x ≡ get_or xs 0 x → xs ≡ x ∷ []
single [] x low high is = absurd (omega arith)
single (y ∷ []) x low high is = rw is refl
single (y ∷ z ∷ ys) x low high is = absurd (omega arith)

-- an empty Misfired is no empty Acquired
apart : (a b c : Bool) → c ≡ true → (not (a && b && false) && c) ≡ true
apart true true c is = is
apart true false c is = is
apart false b c is = is

pub settled : (p : Plan) (n : ℕ) (now : ℤ) (s t : RunState) → Ready p now s → IsOurs p n → AtWork n now s → Accepts now n asks.Misfires (reply.Misfired []) s t → HasSettled p n now s t
settled p n now s t ready ours work a = record {
  moves = moves p n now asks.Misfires (reply.Misfired []) s t ready a
      (record { ours = ours; allowed = tt; no_repeat = work.may_ask.misfires; refires = tt }) a.effect.same.member;
  member = a.effect.same.member ∙ work.member;
  free = a.effect.same.rows ∙ work.free;
  settled = ap (λ f. f now) a.effect.same.misfired ∙ a.effect.none;
  may_acquire = rw a.log (apart (n == n) (int_eq now now) (fresh n now false s.log) work.may_ask.acquire);
  fires = rw a.log refl;
  calls = λ before after ran. subst (λ l. Ran l before after) (sym a.log) ran;
}

pub settled_at : (p : Plan) (n : ℕ) (now : ℤ) (moved found : List MovedRow) (s t : RunState) → Accepts now n asks.Misfires (reply.Misfired moved) s t → found ≡ moved → length found < 1
    → Ready p now s → IsOurs p n → AtWork n now s → HasSettled p n now s t
settled_at p n now moved found s t accepts same few ready ours work =
    settled p n now s t ready ours work (subst (λ ms. Accepts now n asks.Misfires (reply.Misfired ms) s t) (sym same ∙ short found few) accepts)

has_moved : (p : Plan) (n : ℕ) (now : ℤ) (moved : List MovedRow) (s t : RunState) → Accepts now n asks.Misfires (reply.Misfired moved) s t → 1 ≤ length moved
    → Ready p now s → IsOurs p n → AtWork n now s → HasMoved p n now s t
has_moved p n now [] s t a some ready ours work = absurd (omega arith)
has_moved p n now (m ∷ moved) s t a some ready ours work = record {
  moves = moves p n now asks.Misfires (reply.Misfired (m ∷ moved)) s t ready a (record { ours = ours; allowed = tt; no_repeat = tt; refires = tt }) a.effect.member;
  work = record {
    member = a.effect.member ∙ work.member;
    free = a.effect.rows ∙ work.free;
    may_ask = fresh_telling n n now asks.Misfires (reply.Misfired (m ∷ moved)) s t refl a;
  };
  fires = rw a.log refl;
  calls = λ before after ran. subst (λ l. Ran l before after) (sym a.log) ran;
}

pub moved_at : (p : Plan) (n : ℕ) (now : ℤ) (moved found : List MovedRow) (s t : RunState) → Accepts now n asks.Misfires (reply.Misfired moved) s t → found ≡ moved → 1 ≤ length found
    → Ready p now s → IsOurs p n → AtWork n now s → HasMoved p n now s t
moved_at p n now moved found s t accepts same some ready ours work =
    has_moved p n now found s t (subst (λ ms. Accepts now n asks.Misfires (reply.Misfired ms) s t) (sym same) accepts) some ready ours work

took_none : (p : Plan) (n : ℕ) (now : ℤ) (s t : RunState) → Ready p now s → IsOurs p n → s.view.rows n ≡ [] → s.view.misfired now ≡ false → fresh n now false s.log ≡ true
    → Accepts now n (asks.Acquire (int_min p.until now)) (reply.Acquired []) s t → TookNone p n now s t
took_none p n now s t ready ours free settled may a = record {
  moves = moves p n now (asks.Acquire (int_min p.until now)) (reply.Acquired []) s t ready a
      (record { ours = ours; allowed = record { by_now = refl; settled = settled; free_hands = free }; no_repeat = may; refires = tt }) a.effect.same.member;
  free = a.effect.same.rows ∙ free;
  none_due = ap (λ f. f (int_min p.until now)) a.effect.same.due ∙ a.effect.none;
  fires = rw a.log refl;
  calls = λ before after ran. subst (λ l. Ran l before after) (sym a.log) ran;
}

took : (p : Plan) (n : ℕ) (now : ℤ) (x : Taken) (s t : RunState) → Ready p now s → IsOurs p n → s.view.member n ≡ true → s.view.rows n ≡ [] → s.view.misfired now ≡ false
    → Accepts now n (asks.Acquire (int_min p.until now)) (reply.Acquired (x ∷ [])) s t → Took p n now (record { entry = x.entry; next = x.next }) s t
took p n now x s t ready ours member free settled a = record {
  moves = moves p n now (asks.Acquire (int_min p.until now)) (reply.Acquired (x ∷ [])) s t ready a
      (record { ours = ours; allowed = record { by_now = refl; settled = settled; free_hands = free }; no_repeat = tt; refires = tt }) a.effect.member;
  member = a.effect.member ∙ member;
  row = a.effect.row;
  due = omega (arith, ints, int_min_is p.until now, a.effect.due);
  may_ask = fresh_telling n n now (asks.Acquire (int_min p.until now)) (reply.Acquired (x ∷ [])) s t refl a;
  fires = rw a.log refl;
  calls = λ before after ran. subst (λ l. Ran l before after) (sym a.log) ran;
}

pub took_none_at : (p : Plan) (n : ℕ) (now : ℤ) (taken found : List Taken) (s t : RunState) → Accepts now n (asks.Acquire (int_min p.until now)) (reply.Acquired taken) s t → found ≡ taken → length found < 1
    → Ready p now s → IsOurs p n → s.view.rows n ≡ [] → s.view.misfired now ≡ false → fresh n now false s.log ≡ true → TookNone p n now s t
took_none_at p n now taken found s t accepts same few ready ours free settled may =
    took_none p n now s t ready ours free settled may
    (subst (λ ts. Accepts now n (asks.Acquire (int_min p.until now)) (reply.Acquired ts) s t) (sym same ∙ short found few) accepts)

pub took_at : (p : Plan) (n : ℕ) (now : ℤ) (taken found : List Taken) (x : Taken) (grip : Grip) (s t : RunState) → Accepts now n (asks.Acquire (int_min p.until now)) (reply.Acquired taken) s t → found ≡ taken → 1 ≤ length found → length found < 2 → x ≡ get_or found 0 x
    → Ready p now s → IsOurs p n → s.view.member n ≡ true → s.view.rows n ≡ [] → s.view.misfired now ≡ false → grip ≡ record { entry = x.entry; next = x.next } → Took p n now grip s t
took_at p n now taken found x grip s t accepts same low high first ready ours member free settled is =
    rw is (took p n now x s t ready ours member free settled
    (subst (λ ts. Accepts now n (asks.Acquire (int_min p.until now)) (reply.Acquired ts) s t) (sym same ∙ single found x low high first) accepts))

-- A firing's context.
equal_is : (x y : ℕ) → y ≡ x → (x == y) ≡ true
equal_is x y is = grind (arith, eqb_tells x y)

abbrev from_some : JobContext → Option JobContext → JobContext
from_some other None = other
from_some other (Some context) = context

some_is : (a b : JobContext) → Some a ≡ Some b → a ≡ b
some_is a b is = ap (from_some a) is

none_some : (context : JobContext) → None ≡ Some context → ⊥
none_some context is = search rules

chosen : (x y : ℕ) (o rest : Option JobContext) → y ≡ x → (if x == y then o else rest) ≡ o
chosen x y o rest is = rw (equal_is x y is) refl

pub fired : (p : Plan) (n : ℕ) (now : ℤ) (x : ℕ) (r : Reply) (context : JobContext) (s t : RunState) → Ready p now s → IsOurs p n → s.view.member n ≡ true → fires s.log < p.budget
    → context_of r ≡ Some context → Accepts now n (asks.Fire x) r s t → HasFired p n now x context s t
fired p n now x (reply.Fired y scheduled at next trigger job) context s t ready ours member within is a =
    subst (λ c. HasFired p n now x c s t) (some_is _ context is) (record {
      moves = moves p n now (asks.Fire x) (reply.Fired y scheduled at next trigger job) s t ready a (record { ours = ours; allowed = within; no_repeat = tt; refires = tt }) a.effect.member;
      member = a.effect.member ∙ member;
      row = a.effect.row;
      may_ask = fresh_telling n n now (asks.Fire x) (reply.Fired y scheduled at next trigger job) s t refl a;
      fires = rw a.log refl;
      calls = λ before after ran. subst (λ l. Ran l before after) (sym a.log) ran;
      told = rw a.log (chosen x y _ _ a.effect.entry_is);
      first = refl;
      entry = a.effect.entry_is;
    })
fired p n now x reply.Done context s t ready ours member within is a = absurd (none_some context is)
fired p n now x (reply.Added next) context s t ready ours member within is a = absurd (none_some context is)
fired p n now x (reply.Deleted triggers) context s t ready ours member within is a = absurd (none_some context is)
fired p n now x (reply.Triggered trigger next) context s t ready ours member within is a = absurd (none_some context is)
fired p n now x (reply.Joined epoch executions triggers) context s t ready ours member within is a = absurd (none_some context is)
fired p n now x (reply.Acquired taken) context s t ready ours member within is a = absurd (none_some context is)
fired p n now x (reply.Completed y) context s t ready ours member within is a = absurd (none_some context is)
fired p n now x (reply.Again y) context s t ready ours member within is a = absurd (none_some context is)
fired p n now x (reply.Misfired moved) context s t ready ours member within is a = absurd (none_some context is)
fired p n now x (reply.Recovered executions triggers) context s t ready ours member within is a = absurd (none_some context is)

-- One call more.
called : (n : ℕ) (now : ℤ) (code : Code) (context : JobContext) (r : Reply) (s t : RunState) → Accepts now n (asks.Complete context.entry code) r s t → context_in context.entry s.log ≡ Some context → CallsOnce context code s t
called n now code context r s t a told before mid after ran executes =
    subst (λ l. Ran l before after) (sym a.log) (record { context = context; mid = mid; told = told; before = ran; executes = executes })

pub completed : (p : Plan) (n : ℕ) (now : ℤ) (context : JobContext) (code : Code) (y : ℕ) (s t : RunState) → Accepts now n (asks.Complete context.entry code) (reply.Completed y) s t
    → Ready p now s → IsOurs p n → s.view.member n ≡ true → context_in context.entry s.log ≡ Some context → Completed p n now context code s t
completed p n now context code y s t a ready ours member told = record {
  moves = moves p n now (asks.Complete context.entry code) (reply.Completed y) s t ready a (record { ours = ours; allowed = tt; no_repeat = tt; refires = tt }) a.effect.member;
  work = record {
    member = a.effect.member ∙ member;
    free = a.effect.free;
    may_ask = fresh_telling n n now (asks.Complete context.entry code) (reply.Completed y) s t refl a;
  };
  fires = rw a.log refl;
  calls = called n now code context (reply.Completed y) s t a told;
}

more_within : (o : Option JobContext) (context : JobContext) → o ≡ Some context → context.refires < REFIRE_LIMIT → IfSome o (λ c. c.refires < REFIRE_LIMIT)
more_within None context is less = absurd (none_some context is)
more_within (Some c) context is less = rw (some_is c context is) less

same_context : (x y : ℕ) (context : JobContext) (log : List _) → y ≡ x → context_in x log ≡ Some context → context_in y log ≡ Some context
same_context x y context log is told = rw is told

again_told : (x y : ℕ) (o : Option JobContext) (context : JobContext) → y ≡ x → o ≡ Some context → context_by x (reply.Again y) o ≡ Some (again context)
again_told x y o context is told = rw (equal_is x y is, told) refl

pub repeated : (p : Plan) (n : ℕ) (now : ℤ) (context : JobContext) (code : Code) (y : ℕ) (s t : RunState) → Accepts now n (asks.Complete context.entry code) (reply.Again y) s t
    → Ready p now s → IsOurs p n → s.view.member n ≡ true → s.view.rows n ≡ executing context.entry context.scheduled ∷ [] → context_in context.entry s.log ≡ Some context → (code ≡ ReExecuteJob → context.refires < REFIRE_LIMIT)
    → Repeated p n now context code s t
repeated p n now context code y s t a ready ours member row told within = record {
  asked = a.effect.asked;
  moves = moves p n now (asks.Complete context.entry code) (reply.Again y) s t ready a
      (record { ours = ours; allowed = tt; no_repeat = tt; refires = more_within _ context (same_context context.entry y context s.log a.effect.entry_is told) (within a.effect.asked) }) a.effect.same.member;
  member = a.effect.same.member ∙ member;
  row = a.effect.same.rows ∙ row;
  may_ask = fresh_telling n n now (asks.Complete context.entry code) (reply.Again y) s t refl a;
  fires = rw a.log refl;
  calls = called n now code context (reply.Again y) s t a told;
  told = rw a.log (again_told context.entry y _ context a.effect.entry_is told);
}
