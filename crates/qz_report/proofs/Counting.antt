-- Counts with one entry more.
use Rattle.std.proofs.Common.{◌≡◌, ℕ, ◌+◌, ◌-◌, ◌^◌, min, List, [], ◌∷◌, ◌++◌, ap, ◌∙◌, arith}
use Rattle.std.specs.List.{sum_by}
use Rattle.std.proofs.lemmas.List.Sums.{sum_by-append}
use Rattle.qz_types.specs.Entries.{EntryData}
use Rattle.qz_types.specs.declared.replies.Reply.{Reply}
use Rattle.qz_report.specs.declared.summaries.Counts.{Counts}
use Rattle.qz_report.specs.Summaries.{counted, fired_by, misfired_in, recovered_in, counts_of}

-- a sum that stays at the greatest number
counted_more : {X : Type 0} (f : X → ℕ) (xs : List X) (x : X) (n m : ℕ) → n ≡ counted (sum_by f xs) → m ≡ min (n + f x) (2 ^ 64 - 1) → m ≡ counted (sum_by f (xs ++ x ∷ []))
counted_more f xs x n m was is = omega (arith, sum_by-append f xs (x ∷ []))

abbrev counts : ℕ → ℕ → ℕ → Counts
counts fired misfired recovered = record { fired = fired; misfired = misfired; recovered = recovered }

same_counts : (a b c x y z : ℕ) → a ≡ x → b ≡ y → c ≡ z → counts a b c ≡ counts x y z
same_counts a b c x y z f m r = ap (λ n. counts n b c) f ∙ ap (λ n. counts x n c) m ∙ ap (λ n. counts x y n) r

-- the counts with one entry more, each added to the one before
pub one_more : (e : EntryData) (r : Reply) (old new : Counts) → new.fired ≡ min (old.fired + fired_by e.command) (2 ^ 64 - 1) → new.misfired ≡ min (old.misfired + misfired_in r) (2 ^ 64 - 1) → new.recovered ≡ min (old.recovered + recovered_in r) (2 ^ 64 - 1) → (es : List EntryData) (rs : List Reply) → old ≡ counts_of es rs → new ≡ counts_of (es ++ e ∷ []) (rs ++ r ∷ [])
unfolding counts_of
one_more e r old new fired misfired recovered es rs was = same_counts _ _ _ _ _ _
    (counted_more (λ (x : EntryData). fired_by x.command) es e old.fired new.fired (ap (λ (c : Counts). c.fired) was) fired)
    (counted_more misfired_in rs r old.misfired new.misfired (ap (λ (c : Counts). c.misfired) was) misfired)
    (counted_more recovered_in rs r old.recovered new.recovered (ap (λ (c : Counts). c.recovered) was) recovered)
