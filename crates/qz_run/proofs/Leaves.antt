-- The nodes leave and are forgotten.
use Rattle.std.proofs.Common.{◌≡◌, inl, ℕ, ◌+◌, ℤ, List, [], Bool, true, false, refl, sym, ap, ◌∙◌, subst, arith}
use Rattle.std.specs.Int.{int_max}
use Rattle.qz_types.specs.declared.replies.Reply.{Reply}
use Rattle.qz_types.specs.declared.replies.Reply.TheVariants as reply
use Rattle.qz_run.specs.declared.commands.NodeCommand.TheVariants as asks
use Rattle.qz_run.specs.declared.commands.Plan.{Plan}
use Rattle.qz_run.specs.Stores.{RowEvent, RowState, RunState, Accepts, Forgets}
use Rattle.qz_run.specs.Laws.{IsOurs, Ran}
use Rattle.qz_run.specs.StateLaws.{LawfulRows, forgotten}
use Rattle.qz_run.specs.Working.{CallsNone}
use Rattle.qz_run.specs.Moments.{Working}
use Rattle.qz_run.specs.RunRules.{KnownFrom, Leaving, IsDone, Ends}
use Rattle.qz_run.proofs.Moves.{ready_on, decide}
use Rattle.qz_run.proofs.Joins.{here_or, up_to_next, apart_from, not_here}

leaves : (p : Plan) (n : ℕ) (at : ℤ) (s t : RunState) → Leaving p at n n s → IsOurs p n → Accepts at n asks.Leave reply.Done s t → Leaving p at (n + 1) n t
leaves p n at s t l ours a = record {
  ready = ready_on p n at asks.Leave reply.Done s t l.ready a (record { ours = ours; allowed = tt; no_repeat = tt; refires = tt });
  free = λ k our. here_or k n (λ i. t.view.rows i ≡ []) (decide k n) a.effect.free (λ ne. a.others_free k ne (l.free k our));
  gone = up_to_next n (λ k. t.view.member k ≡ false) a.effect.member (λ k ne lt. a.others_members k ne ∙ l.gone k lt);
  members = λ k our le. a.others_members k (apart_from k n le) ∙ l.members k our (omega (arith, le));
  known = subst (λ (r : RowState). KnownFrom p n r) (sym a.states) l.known;
}

leaves_done : (p : Plan) (n : ℕ) (at : ℤ) (s t : RunState) → Accepts at n asks.Leave reply.Done s t → (spent : Bool) → IsDone p spent s → IsDone p spent t
leaves_done p n at s t a true done = (ap (λ f. f p.until) a.effect.due ∙ done.0, rw a.log done.1)
leaves_done p n at s t a false done = ap (λ f. f p.until) a.effect.due ∙ done

pub leaves_by : (p : Plan) (n : ℕ) (at : ℤ) (r : Reply) (s t : RunState) → Leaving p at n n s → IsOurs p n → Accepts at n asks.Leave r s t → Leaving p at (n + 1) n t
leaves_by p n at reply.Done s t l ours a = leaves p n at s t l ours a
leaves_by p n at (reply.Joined e x y) s t l ours a = absurd a.effect
leaves_by p n at (reply.Added next) s t l ours a = absurd a.effect
leaves_by p n at (reply.Deleted triggers) s t l ours a = absurd a.effect
leaves_by p n at (reply.Triggered trigger next) s t l ours a = absurd a.effect
leaves_by p n at (reply.Acquired taken) s t l ours a = absurd a.effect
leaves_by p n at (reply.Fired e scheduled fired next trigger job) s t l ours a = absurd a.effect
leaves_by p n at (reply.Completed e) s t l ours a = absurd a.effect
leaves_by p n at (reply.Again e) s t l ours a = absurd a.effect
leaves_by p n at (reply.Misfired moved) s t l ours a = absurd a.effect
leaves_by p n at (reply.Recovered executions triggers) s t l ours a = absurd a.effect

pub leaves_by_done : (p : Plan) (n : ℕ) (at : ℤ) (r : Reply) (s t : RunState) → Accepts at n asks.Leave r s t → (spent : Bool) → IsDone p spent s → IsDone p spent t
leaves_by_done p n at reply.Done s t a spent done = leaves_done p n at s t a spent done
leaves_by_done p n at (reply.Joined e x y) s t a spent done = absurd a.effect
leaves_by_done p n at (reply.Added next) s t a spent done = absurd a.effect
leaves_by_done p n at (reply.Deleted triggers) s t a spent done = absurd a.effect
leaves_by_done p n at (reply.Triggered trigger next) s t a spent done = absurd a.effect
leaves_by_done p n at (reply.Acquired taken) s t a spent done = absurd a.effect
leaves_by_done p n at (reply.Fired e scheduled fired next trigger job) s t a spent done = absurd a.effect
leaves_by_done p n at (reply.Completed e) s t a spent done = absurd a.effect
leaves_by_done p n at (reply.Again e) s t a spent done = absurd a.effect
leaves_by_done p n at (reply.Misfired moved) s t a spent done = absurd a.effect
leaves_by_done p n at (reply.Recovered executions triggers) s t a spent done = absurd a.effect

pub leaves_call_none : (n : ℕ) (at : ℤ) (r : Reply) (s t : RunState) → Accepts at n asks.Leave r s t → CallsNone s t
leaves_call_none n at r s t a before after ran = subst (λ l. Ran l before after) (sym a.log) ran

forgets_rows : (p : Plan) (n : ℕ) (at : ℤ) (s t : RunState) → Forgets at n s t → KnownFrom p n s.states → KnownFrom p (n + 1) t.states
forgets_rows p n at s t a known = record {
  gone = up_to_next n (λ k. t.states.has k ≡ false) a.has (λ k ne lt. a.others k ne ∙ known.gone k lt);
  has = λ k our le. a.others k (apart_from k n le) ∙ known.has k our (omega (arith, le));
  none_forgotten = λ k le. rw a.states_log (not_here k n true (forgotten k s.states.log) (apart_from k n le) (known.none_forgotten k (omega (arith, le))));
}

-- A node is forgotten.
forgot : (p : Plan) (n : ℕ) (at read : ℤ) (s t : RunState) → Leaving p at (n + 1) n s → IsOurs p n → read ≡ int_max s.view.last p.from → Forgets read n s t
    → Leaving p at (n + 1) (n + 1) (record { view = s.view; log = s.log; states = t.states })
forgot p n at read s t l ours is a = record {
  ready = record {
    lawful = record {
      entries = l.ready.lawful.entries;
      states = subst (λ (rows : List RowEvent). LawfulRows p rows s.view s.log) (sym a.states_log)
          (record { ours = ours; allowed = l.known.none_forgotten n (omega arith); reading = record { last = s.view.last; was = inl refl; reading = is } }, l.ready.lawful.states);
    };
    moment = l.ready.moment;
    clock = l.ready.clock;
    time = l.ready.time;
    up_to_now = l.ready.up_to_now;
  };
  free = l.free;
  gone = l.gone;
  members = l.members;
  known = forgets_rows p n read s t a l.known;
}

pub forgets_one : (p : Plan) (n : ℕ) (at read : ℤ) (s t : RunState) → Leaving p at (n + 1) n s → IsOurs p n → read ≡ int_max s.view.last p.from → Forgets read n s t → Leaving p at (n + 1) (n + 1) t
forgets_one p n at read s t l ours is a = subst (λ (x : RunState). Leaving p at (n + 1) (n + 1) x) (sym a.rest) (forgot p n at read s t l ours is a)

pub forgets_done : (p : Plan) (n : ℕ) (at : ℤ) (s t : RunState) → Forgets at n s t → (spent : Bool) → IsDone p spent s → IsDone p spent t
forgets_done p n at s t a true done = subst (λ (x : RunState). IsDone p true x) (sym a.rest) done
forgets_done p n at s t a false done = subst (λ (x : RunState). IsDone p false x) (sym a.rest) done

pub forgets_call_none : (n : ℕ) (at : ℤ) (s t : RunState) → Forgets at n s t → CallsNone s t
forgets_call_none n at s t a before after ran = subst (λ (x : RunState). Ran x.log before after) (sym a.rest) ran

-- Nobody has left yet.
pub may_leave : (p : Plan) (at : ℤ) (s : RunState) → Working p at s → Leaving p at 0 0 s
may_leave p at s w = record {
  ready = w.ready;
  free = w.free;
  gone = λ n lt. absurd (omega (arith, lt));
  members = λ n ours le. w.members n ours;
  known = record { gone = λ n lt. absurd (omega (arith, lt)); has = λ n ours le. w.known.has n ours; none_forgotten = λ n le. w.known.none_forgotten n };
}

-- All have left.
pub ends : (p : Plan) (at : ℤ) (spent : Bool) (s : RunState) → Leaving p at p.nodes p.nodes s → IsDone p spent s → Ends p spent s
ends p at spent s l done = record {
  done = done;
  free = l.free;
  gone = λ n ours. l.gone n ours.below;
  forgotten = λ n ours. l.known.gone n ours.below;
}
