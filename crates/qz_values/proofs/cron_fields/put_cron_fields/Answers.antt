use Rattle.std.proofs.Common.{◌≡◌, ℕ, List, ◌++◌, refl, append_assoc}
use Rattle.std.proofs.lemmas.Result.{on_ok_weaker}
use Rattle.qz_values.specs.CronFields.{cron_fields}
use Rattle.qz_values.proofs.cron_fields.put_cron_fields.Goals as goal

after_another : (old a b c d e f g o1 o2 o3 o4 o5 o6 o7 : List ℕ) → o1 ≡ old ++ a → o2 ≡ o1 ++ b → o3 ≡ o2 ++ c → o4 ≡ o3 ++ d → o5 ≡ o4 ++ e → o6 ≡ o5 ++ f → o7 ≡ o6 ++ g → o7 ≡ old ++ (a ++ (b ++ (c ++ (d ++ (e ++ (f ++ g))))))
after_another old a b c d e f g o1 o2 o3 o4 o5 o6 o7 h1 h2 h3 h4 h5 h6 h7 = rw (h7, h6, h5, h4, h3, h2, h1) (simp append_assoc refl)

pub returns-clause-bytes : goal.returns-clause-bytes
unfolding cron_fields
returns-clause-bytes c =
    on_ok_weaker c.put_years.result
    (λ last. after_another _ _ _ _ _ _ _ _ _ _ _ _ _ _ _ c.in_ok-put_u64.ensures.bytes c.in_ok-put_u64-2.ensures.bytes c.in_ok-put_u32.ensures.bytes c.in_ok-put_day.ensures c.in_ok-put_u16.ensures c.in_ok-put_week.ensures last)
    c.put_years.ensures.bytes
