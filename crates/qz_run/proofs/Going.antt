-- A node's round goes on.
use Rattle.std.proofs.Common.{◌≡◌, inl, inr, ℕ, ◌+◌, ◌<◌, ℤ, List, sym, ap, ◌∙◌, subst, arith}
use Rattle.qz_types.specs.declared.commands.Code.{Code}
use Rattle.qz_types.specs.declared.commands.Code.TheVariants.{ReExecuteJob}
use Rattle.qz_node.specs.declared.contexts.JobContext.{JobContext}
use Rattle.qz_node.specs.declared.executing.TheConstants.{REFIRE_LIMIT}
use Rattle.qz_node.specs.Jobs.{JobMeaning, Executes}
use Rattle.qz_run.specs.declared.commands.Plan.{Plan}
use Rattle.qz_run.specs.declared.commands.Grip.{Grip}
use Rattle.qz_run.specs.Stores.{RunState}
use Rattle.qz_run.specs.Laws.{RanOrMore}
use Rattle.qz_run.specs.Working.{Moves, IsLawfulRun}
use Rattle.qz_run.specs.Steps.{HasSettled, Took, HasFired, CallsOnce, Repeated, Completed}
use Rattle.qz_run.specs.RoundRules.{GoesOn, BreaksOff, IsExecuting, Finishes, Continues, RoundFires, Goes, Went}

pub moves_on : (p : Plan) (n : ℕ) (now : ℤ) (s t u : RunState) → Moves p n now s t → Moves p n now t u → Moves p n now s u
moves_on p n now s t u one two = record {
  ready = two.ready;
  last = two.last;
  free = λ k ne free. two.free k ne (one.free k ne free);
  members = λ k. two.members k ∙ one.members k;
  may_ask = λ k ne may. two.may_ask k ne (one.may_ask k ne may);
  states = two.states ∙ one.states;
  longer = omega (arith, one.longer, two.longer);
  room = one.room;
}

pub finishes : (p : Plan) (n : ℕ) (now : ℤ) (context : JobContext) (code : Code) (s t : RunState) → Completed p n now context code s t → Finishes p n now s t
finishes p n now context code s t c = record { moves = c.moves; work = c.work; fires = c.fires }

pub continues : (p : Plan) (n : ℕ) (now : ℤ) (context : JobContext) (code : Code) (s t : RunState) → Repeated p n now context code s t → (code ≡ ReExecuteJob → context.refires < REFIRE_LIMIT) → Continues p n now context s t
continues p n now context code s t c few = record {
  moves = c.moves;
  executes = record { ready = c.moves.ready; member = c.member; row = c.row; told = c.told; within = omega (arith, few c.asked) };
  fires = c.fires;
}

pub goes_on : (context : JobContext) (code : Code) (s t : RunState) (jobs news : List JobMeaning) → CallsOnce context code s t → Executes context code jobs news → GoesOn s t jobs news
goes_on context code s t jobs news once executes before ran = once before jobs news ran executes

pub breaks : (p : Plan) (n : ℕ) (now : ℤ) (context : JobContext) (code : Code) (s t : RunState) (jobs news : List JobMeaning) → IsExecuting p n now context s → Executes context code jobs news → t ≡ s → BreaksOff p s t jobs news
breaks p n now context code s t jobs news is executes same = record {
  lawful = subst (λ (x : RunState). IsLawfulRun p x) (sym same) is.ready.lawful;
  calls = λ before ran. subst (λ (x : RunState). RanOrMore x.log before news) (sym same) (inr (context.entry, code, record { context = context; mid = jobs; told = is.told; before = ran; executes = executes }));
}

pub then_finishes : (p : Plan) (n : ℕ) (now : ℤ) (s t u : RunState) → Went p n now s t → Finishes p n now t u → Finishes p n now s u
then_finishes p n now s t u (inl is) f = subst (λ x. Finishes p n now x u) is f
then_finishes p n now s t u (inr one) f = record { moves = moves_on p n now s t u one.moves f.moves; work = f.work; fires = f.fires ∙ one.fires }

pub then_goes : (p : Plan) (n : ℕ) (now : ℤ) (context : JobContext) (s t u : RunState) → Went p n now s t → Continues p n now context t u → Went p n now s u
then_goes p n now context s t u (inl is) c = inr (subst (λ x. Goes p n now x u) is (record { moves = c.moves; fires = c.fires }))
then_goes p n now context s t u (inr one) c = inr (record { moves = moves_on p n now s t u one.moves c.moves; fires = c.fires ∙ one.fires })

pub then_breaks : (p : Plan) (s t u : RunState) (jobs mids news : List JobMeaning) → GoesOn s t jobs mids → BreaksOff p t u mids news → BreaksOff p s u jobs news
then_breaks p s t u jobs mids news goes b = record { lawful = b.lawful; calls = λ before ran. b.calls before (goes before ran) }

pub round_fires : (p : Plan) (n : ℕ) (now : ℤ) (x : Grip) (context : JobContext) (s a b c d : RunState) → HasSettled p n now s a → Took p n now x a b → HasFired p n now x.entry context b c → Finishes p n now c d → RoundFires p n now s d
round_fires p n now x context s a b c d one two three four = record {
  moves = moves_on p n now s a d one.moves (moves_on p n now a b d two.moves (moves_on p n now b c d three.moves four.moves));
  work = four.work;
  fires = four.fires ∙ three.fires ∙ ap (λ k. k + 1) (two.fires ∙ one.fires);
}
