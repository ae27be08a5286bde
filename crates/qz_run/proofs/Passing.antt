-- A pass goes on.
use Rattle.std.proofs.Common.{◌≡◌, ◌≢◌, ◌⊎◌, inl, inr, ℕ, zero, suc, ◌+◌, ◌<◌, ◌≤◌, ℤ, List, [], ◌∷◌, length, set, Bool, true, false, refl, sym, ap, ◌∙◌, subst, arith, rules}
use Rattle.std.specs.Prelude.{slice_index_or}
use Rattle.std.proofs.lemmas.Bool.Decides.{eqb_tells}
use Rattle.qz_run.specs.declared.commands.Plan.{Plan}
use Rattle.qz_run.specs.declared.stores.TheConstants.{ROOM}
use Rattle.qz_run.specs.Stores.{RowState, RunState}
use Rattle.qz_run.specs.Laws.{IsOurs, fires}
use Rattle.qz_run.specs.Working.{MayAsk, Moves}
use Rattle.qz_run.specs.RoundRules.{RoundFires, RoundRests}
use Rattle.qz_run.specs.Moments.{AllKnown, Working, Passes, TurnTaken, NoTurn, SomeTurn, HasWorked, HasBegun, rests}

decide : (k n : ℕ) → (k ≡ n) ⊎ (k ≢ n)
decide k n = grind (arith, eqb_tells k n)

true_false : true ≡ false → ⊥
true_false is = search rules

free_or : (p : Plan) (k n : ℕ) (at : ℤ) (s t : RunState) → ((k ≡ n) ⊎ (k ≢ n)) → Moves p n at s t → t.view.rows n ≡ [] → s.view.rows k ≡ [] → t.view.rows k ≡ []
free_or p k n at s t (inl is) moves own was = rw is own
free_or p k n at s t (inr ne) moves own was = moves.free k ne was

still_working : (p : Plan) (n : ℕ) (at : ℤ) (s t : RunState) → Working p at s → Moves p n at s t → t.view.rows n ≡ [] → Working p at t
still_working p n at s t w moves own = record {
  ready = moves.ready;
  free = λ k ours. free_or p k n at s t (decide k n) moves own (w.free k ours);
  members = λ k ours. moves.members k ∙ w.members k ours;
  known = subst (λ (r : RowState). AllKnown p r) (sym moves.states) w.known;
}

set_here : (xs : List Bool) (n : ℕ) → n < length xs → slice_index_or (set xs n true) n false ≡ true
set_here [] n lt = absurd (omega arith)
set_here (x ∷ xs) zero lt = refl
set_here (x ∷ xs) (suc n) lt = set_here xs n (omega arith)

set_other : (xs : List Bool) (n k : ℕ) → k ≢ n → slice_index_or (set xs n true) k false ≡ slice_index_or xs k false
set_other [] n k ne = refl
set_other (x ∷ xs) zero zero ne = absurd (ne refl)
set_other (x ∷ xs) zero (suc k) ne = refl
set_other (x ∷ xs) (suc n) zero ne = refl
set_other (x ∷ xs) (suc n) (suc k) ne = set_other xs n k (λ e. ne (ap suc e))

rest_asks : (p : Plan) (k n : ℕ) (at : ℤ) (resting : List Bool) (s t : RunState) → n < length resting → ((k ≡ n) ⊎ (k ≢ n)) → Moves p n at s t → rests (set resting n true) k ≡ false → (rests resting k ≡ false → MayAsk k at s) → MayAsk k at t
rest_asks p k n at resting s t within (inl is) moves up was = absurd (true_false (sym (rw is (set_here resting n within)) ∙ up))
rest_asks p k n at resting s t within (inr ne) moves up was = moves.may_ask k ne (was (sym (set_other resting n k ne) ∙ up))

pub pass_rests : (p : Plan) (n : ℕ) (at : ℤ) (resting : List Bool) (s t : RunState) → Passes p at resting s → IsOurs p n → n < length resting → RoundRests p n at s t → Passes p at (set resting n true) t
pass_rests p n at resting s t passes ours within round = record {
  working = still_working p n at s t passes.working round.moves round.free;
  may_ask = λ k our up. rest_asks p k n at resting s t within (decide k n) round.moves up (passes.may_ask k our);
  quiet = λ all. round.none_due;
}

pub turn_rests : (p : Plan) (n : ℕ) (at : ℤ) (fired : ℕ) (resting : List Bool) (s t : RunState) → Passes p at resting s → IsOurs p n → n < length resting → fired ≡ fires s.log → fired < p.budget → RoundRests p n at s t → TurnTaken p at fired (set resting n true) s t
turn_rests p n at fired resting s t passes ours here is within round = record {
  passes = pass_rests p n at resting s t passes ours here round;
  fired_is = is ∙ sym round.fires;
  within = omega (arith, within);
  longer = round.moves.longer;
  room = round.moves.room;
}

here_asks : (k n : ℕ) (at : ℤ) (t : RunState) → ((k ≡ n) ⊎ (k ≢ n)) → MayAsk n at t → ((k ≢ n) → MayAsk k at t) → MayAsk k at t
here_asks k n at t (inl is) own other = subst (λ i. MayAsk i at t) (sym is) own
here_asks k n at t (inr ne) own other = other ne

pub turn_fires : (p : Plan) (n : ℕ) (at : ℤ) (fired : ℕ) (resting : List Bool) (s t : RunState) → Passes p at resting s → IsOurs p n → rests resting n ≡ false → fired ≡ fires s.log → fired < p.budget → RoundFires p n at s t → TurnTaken p at (fired + 1) resting s t
turn_fires p n at fired resting s t passes ours awake is within round = record {
  passes = record {
    working = still_working p n at s t passes.working round.moves round.work.free;
    may_ask = λ k our up. here_asks k n at t (decide k n) round.work.may_ask (λ ne. round.moves.may_ask k ne (passes.may_ask k our up));
    quiet = λ all. absurd (true_false (sym (all n ours) ∙ awake));
  };
  fired_is = ap (λ k. k + 1) is ∙ sym round.fires;
  within = omega (arith, within);
  longer = round.moves.longer;
  room = round.moves.room;
}

-- A moment.
further : (s t u : RunState) → ((t ≡ s) ⊎ SomeTurn s t) → length t.log < length u.log → length t.log < ROOM → SomeTurn s u
further s t u (inl is) longer room = subst (λ (x : RunState). (length x.log < length u.log) → (length x.log < ROOM) → SomeTurn s u) (sym is) (λ a b. record { longer = a; room = b }) longer room
further s t u (inr so) longer room = record { longer = omega (arith, so.longer, longer); room = so.room }

awake_none : (p : Plan) (resting : List Bool) (s t : RunState) → 1 ≤ p.nodes → HasBegun p resting s t → ((n : ℕ) → n < p.nodes → rests resting n ≡ true) → SomeTurn s t
awake_none p resting s t some (inl b) all = absurd (true_false (sym (all 0 (omega (arith, some))) ∙ b.0 0 (record { below = omega (arith, some) })))
awake_none p resting s t some (inr so) all = so

pub worked_quiet : (p : Plan) (at : ℤ) (former fired : ℕ) (resting rested : List Bool) (s t u : RunState) → 1 ≤ p.nodes → HasBegun p resting s t → Passes p at resting t → former ≡ fires t.log → former < p.budget → NoTurn p.nodes former fired resting rested t u → HasWorked p at fired s u
worked_quiet p at former fired resting rested s t u some begun passes is less none =
    let all = subst (λ rs. (n : ℕ) → n < p.nodes → rests rs n ≡ true) none.kept none.rest in
    let so = awake_none p resting s t some begun all in
    subst (λ x. HasWorked p at fired s x) (sym none.same) (record {
      working = passes.working;
      fired_is = none.fired_is ∙ is;
      within = omega (arith, less, none.fired_is);
      quiet = λ _. passes.quiet (λ n ours. all n ours.below);
      longer = so.longer;
      room = so.room;
    })
