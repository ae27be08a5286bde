-- What lists of jobs were told, where each was taken out and put back.
use Rattle.std.proofs.Common.{◌≡◌, ◌⊎◌, inl, inr, ℕ, zero, suc, List, [], ◌∷◌, ◌++◌, set, get_or, take, drop, refl, sym, ap, ◌∙◌, subst, rules}
use Rattle.std.specs.Prelude.{Option}
use Rattle.qz_types.specs.declared.commands.Code.{Code}
use Rattle.qz_types.specs.declared.commands.Command.{Command}
use Rattle.qz_types.specs.declared.commands.Command.TheVariants as asks
use Rattle.qz_node.specs.declared.contexts.JobContext.{JobContext}
use Rattle.qz_node.specs.Jobs.{JobMeaning, Executes}
use Rattle.qz_serve.specs.Heard.{Deed}
use Rattle.qz_serve.specs.Ran.{Runs, RunsBy, Ran, RanOrMore, context_in}
use Rattle.qz_serve.specs.Knowing.{EachTold}

cons_not_nil : {A : Type 0} (x : A) (xs : List A) → x ∷ xs ≡ [] → ⊥
cons_not_nil x xs p = search rules

nil_not_cons : {A : Type 0} (x : A) (xs : List A) → [] ≡ x ∷ xs → ⊥
nil_not_cons x xs p = search rules

not_among : {A : Type 0} (others : List A) (x : A) (further : List A) → [] ≡ others ++ x ∷ further → ⊥
not_among [] x further p = nil_not_cons x further p
not_among (y ∷ others) x further p = nil_not_cons y (others ++ x ∷ further) p

-- no jobs are no jobs after an execution
none_executes : (context : JobContext) (code : Code) (before after : List JobMeaning) → before ≡ [] → Executes context code before after → after ≡ []
none_executes context code before after is (inl c) = absurd (not_among c.others c.job c.further (sym is ∙ c.jobs_are))
none_executes context code before after is (inr h) = h.same ∙ is

none_runs : (context : Option JobContext) (command : Command) (before after : List JobMeaning) → before ≡ [] → RunsBy context command before after → after ≡ []
none_runs context (asks.Complete entry code) before after is r = none_executes r.told code before after is r.executes
none_runs context other before after is r = r ∙ is

none_ran : (deeds : List Deed) (before after : List JobMeaning) → before ≡ [] → Ran deeds before after → after ≡ []
none_ran [] before after is r = r ∙ is
none_ran (d ∷ past) before after is r = none_runs (context_in past) d.entry.command r.0 after (none_ran past before r.0 is r.1) r.2

none_more : (deeds : List Deed) (mid after : List JobMeaning) → mid ≡ [] → ((after ≡ mid) ⊎ ((code : Code) × Runs (context_in deeds) code mid after)) → after ≡ []
none_more deeds mid after is (inl same) = same ∙ is
none_more deeds mid after is (inr r) = none_executes r.1.told r.0 mid after is r.1.executes

-- a node without jobs has none afterwards
pub none_told : (deeds : List Deed) (after : List JobMeaning) → RanOrMore deeds [] after → RanOrMore deeds [] []
none_told deeds after r = subst (RanOrMore deeds []) (none_more deeds r.0 after (none_ran deeds [] r.0 refl r.1) r.2) r

-- what is true of each list stays true in other words
pub each_map : (P Q : ℕ → List JobMeaning → List JobMeaning → Type 0) → ((n : ℕ) (before after : List JobMeaning) → P n before after → Q n before after)
    → (numbers : List ℕ) (before after : List (List JobMeaning)) → EachTold P numbers before after → EachTold Q numbers before after
each_map P Q f [] before after e = e
each_map P Q f (n ∷ numbers) [] after e = (f n [] [] e.0, each_map P Q f numbers [] after e.1)
each_map P Q f (n ∷ numbers) (b ∷ before) [] e = e
each_map P Q f (n ∷ numbers) (b ∷ before) (a ∷ after) e = (f n b a e.0, each_map P Q f numbers before after e.1)

tail_nil : (i : ℕ) (now : List (List JobMeaning)) → take (suc i) now ≡ [] → now ≡ []
tail_nil i [] is = refl
tail_nil i (x ∷ now) is = absurd (cons_not_nil x (take i now) is)

tails : {A : Type 0} (x y : A) (xs ys : List A) → x ∷ xs ≡ y ∷ ys → xs ≡ ys
tails x y xs ys is = ap (λ l. drop 1 l) is

before_put : (told : List JobMeaning) (i : ℕ) (lists now : List (List JobMeaning)) → take (suc i) now ≡ take (suc i) (set lists i []) → take i (set now i told) ≡ take i lists
before_put told zero lists now same = refl
before_put told (suc i) [] now same = ap (λ l. take (suc i) (set l (suc i) told)) (tail_nil (suc i) now same)
before_put told (suc i) (b ∷ lists) [] same = absurd (nil_not_cons b (take (suc i) (set lists i [])) same)
before_put told (suc i) (b ∷ lists) (x ∷ now) same =
    ap (λ l. take 1 l ++ take i (set now i told)) same ∙ ap (λ l. b ∷ l) (before_put told i lists now (tails x b (take (suc i) now) (take (suc i) (set lists i [])) same))

module _ (P : ℕ → List JobMeaning → List JobMeaning → Type 0) (n : ℕ) (numbers : List ℕ) (told : List JobMeaning) (none : P n [] told → P n [] []) where
  -- no list was there: none is there now
  absent : (now : List (List JobMeaning)) → now ≡ [] → P n [] told → EachTold P numbers [] [] → (i : ℕ) → EachTold P (n ∷ numbers) [] (drop i (set now i told))
  absent [] is p rest zero = (none p, rest)
  absent [] is p rest (suc i) = (none p, rest)
  absent (x ∷ now) is p rest i = absurd (cons_not_nil x now is)

  -- One list was taken out and put back when the lists after it had been told: what is true of it and of those is true of all.
  pub each_next : (i : ℕ) (lists now : List (List JobMeaning)) → P n (get_or lists i []) told → EachTold P numbers (drop (suc i) (set lists i [])) (drop (suc i) now) → take (suc i) now ≡ take (suc i) (set lists i [])
      → EachTold P (n ∷ numbers) (drop i lists) (drop i (set now i told))
  each_next zero [] now p rest same = absent now (tail_nil zero now same) p (subst (λ l. EachTold P numbers [] (drop 1 l)) (tail_nil zero now same) rest) zero
  each_next zero (b ∷ lists) [] p rest same = absurd (nil_not_cons [] [] same)
  each_next zero (b ∷ lists) (x ∷ now) p rest same = (p, rest)
  each_next (suc i) [] now p rest same = absent now (tail_nil (suc i) now same) p (subst (λ l. EachTold P numbers [] (drop (suc (suc i)) l)) (tail_nil (suc i) now same) rest) (suc i)
  each_next (suc i) (b ∷ lists) [] p rest same = absurd (nil_not_cons b (take (suc i) (set lists i [])) same)
  each_next (suc i) (b ∷ lists) (x ∷ now) p rest same = each_next i lists now p rest (tails x b (take (suc i) now) (take (suc i) (set lists i [])) same)

  -- the same, where each of the lists is known by an equation
  pub each_put : (i m : ℕ) (lists taken now after : List (List JobMeaning)) (own : List JobMeaning) → m ≡ suc i → own ≡ get_or lists i [] → taken ≡ set lists i [] → after ≡ set now i told → take m now ≡ take m taken
      → P n own told → EachTold P numbers (drop m taken) (drop m now) → EachTold P (n ∷ numbers) (drop i lists) (drop i after)
  each_put i m lists taken now after own m_is own_is taken_is after_is same p rest =
      let rest_is : EachTold P numbers (drop (suc i) (set lists i [])) (drop (suc i) now) = subst (λ t. EachTold P numbers (drop (suc i) t) (drop (suc i) now)) taken_is (subst (λ k. EachTold P numbers (drop k taken) (drop k now)) m_is rest) in
      let same_is : take (suc i) now ≡ take (suc i) (set lists i []) = subst (λ t. take (suc i) now ≡ take (suc i) t) taken_is (subst (λ k. take k now ≡ take k taken) m_is same) in
      subst (λ a. EachTold P (n ∷ numbers) (drop i lists) (drop i a)) (sym after_is) (each_next i lists now (subst (λ o. P n o told) own_is p) rest_is same_is)

-- the lists before it are as they were
pub before_same : (told : List JobMeaning) (i m : ℕ) (lists taken now after : List (List JobMeaning)) → m ≡ suc i → taken ≡ set lists i [] → after ≡ set now i told → take m now ≡ take m taken → take i after ≡ take i lists
before_same told i m lists taken now after m_is taken_is after_is same =
    ap (take i) after_is ∙ before_put told i lists now (subst (λ t. take (suc i) now ≡ take (suc i) t) taken_is (subst (λ k. take k now ≡ take k taken) m_is same))
