-- Schedules that are followed time by time.
use Rattle.std.proofs.Common.{◌≡◌, ℤ, Bool, true, false, List, [], ◌∷◌, ◌++◌, Option, Some, None, refl, sym, ◌∙◌, ap, subst, append_assoc, if◌then◌else◌}
use Rattle.qz_types.specs.declared.keys.Key.{Key}
use Rattle.qz_types.specs.declared.replies.Reply.{Reply}
use Rattle.qz_types.specs.declared.replies.Reply.TheVariants.{Fired}
use Rattle.qz_types.specs.Words.{same_key}
use Rattle.qz_schedule_law.specs.Turns.{onto_times, fired_times, AreInTurn}

-- what holds of a schedule holds of one that gives the same times
pub turns-alike : (f g : ℤ → Option ℤ) → ((a : ℤ) → f a ≡ g a) → (next : Option ℤ) (times : List ℤ) (left : Option ℤ) → AreInTurn f next times left → AreInTurn g next times left
turns-alike f g same next [] left turns = turns
turns-alike f g same next (time ∷ times) left turns = (turns.0, turns-alike f g same (g time) times left (subst (λ (o : Option ℤ). AreInTurn f o times left) (same time) turns.1))

-- times that follow go on
pub turns-append : (f : ℤ → Option ℤ) (next : Option ℤ) (times : List ℤ) (mid : Option ℤ) (more : List ℤ) (left : Option ℤ) → AreInTurn f next times mid → AreInTurn f mid more left → AreInTurn f next (times ++ more) left
turns-append f next [] mid more left front back = subst (λ (o : Option ℤ). AreInTurn f o more left) (sym front) back
turns-append f next (time ∷ times) mid more left front back = (front.0, turns-append f (f time) times mid more left front.1 back)

-- a schedule goes through the times of one that goes on as far
pub turns-left : (f : ℤ → Option ℤ) (next : Option ℤ) (times : List ℤ) (left : Option ℤ) (all : List ℤ) → AreInTurn f next times left → AreInTurn f next all None → (rest : List ℤ) × (all ≡ times ++ rest) × AreInTurn f left rest None
turns-left f next [] left all front whole = (all, refl, subst (λ (o : Option ℤ). AreInTurn f o all None) front whole)
turns-left f next (time ∷ times) left [] front whole = let wrong : Some time ≡ None = sym front.0 ∙ whole in absurd (cc)
turns-left f next (time ∷ times) left (first ∷ all) front whole =
    let one : first ≡ time = cc in
    let more = turns-left f (f time) times left all front.1 (subst (λ t. AreInTurn f (f t) all None) one whole.1) in
    (more.0, subst (λ t. t ∷ all ≡ time ∷ (times ++ more.0)) (sym one) (ap (λ (ts : List ℤ). time ∷ ts) more.1), more.2)

onto_if : (b : Bool) (time : ℤ) (times : List ℤ) → (if b then time ∷ times else times) ≡ (if b then time ∷ [] else []) ++ times
onto_if true time times = refl
onto_if false time times = refl

onto-append : (key : Key) (reply : Reply) (times : List ℤ) → onto_times key reply times ≡ onto_times key reply [] ++ times
onto-append key (Fired entry scheduled at next trigger job) times = onto_if (same_key key trigger) scheduled times
onto-append key reply times = refl

-- the time of a reply, and those of the replies that follow
pub turns-onto : (f : ℤ → Option ℤ) (key : Key) (reply : Reply) (next mid left : Option ℤ) (times : List ℤ) → AreInTurn f next (onto_times key reply []) mid → AreInTurn f mid times left → AreInTurn f next (onto_times key reply times) left
turns-onto f key reply next mid left times front back =
    subst (λ (ts : List ℤ). AreInTurn f next ts left) (sym (onto-append key reply times)) (turns-append f next (onto_times key reply []) mid times left front back)

-- the times of replies that follow come behind
pub fired-append : (key : Key) (rs ss : List Reply) → fired_times key (rs ++ ss) ≡ fired_times key rs ++ fired_times key ss
fired-append key [] ss = refl
fired-append key (r ∷ rs) ss =
    onto-append key r (fired_times key (rs ++ ss)) ∙ ap (λ (ts : List ℤ). onto_times key r [] ++ ts) (fired-append key rs ss)
    ∙ sym (append_assoc (onto_times key r []) (fired_times key rs) (fired_times key ss))
    ∙ ap (λ (ts : List ℤ). ts ++ fired_times key ss) (sym (onto-append key r (fired_times key rs)))
