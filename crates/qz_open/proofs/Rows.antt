-- Which rows stand after a change of the fired rows.
use Rattle.std.proofs.Common.{◌≡◌, ℕ, ◌==◌, Bool, true, false, not, ◌&&◌, List, map, if◌then◌else◌, Some, refl, sym, ap, ◌∙◌, subst}
use Rattle.std.specs.Ordering.{nat_cmp}
use Rattle.std.proofs.lemmas.Bool.{eqb-true, eq-eqb, false_from_ne_true}
use Rattle.qz_types.specs.Rows.{FiredData}
use Rattle.qz_types.specs.Changes.{without_acquired}
use Rattle.qz_types.specs.States.{is_acquired}
use Rattle.qz_types.specs.Tables.{SchedulerTables}
use Rattle.qz_types.specs.Words.{fired_of, put_fired, with_fired, without_fired}
use Rattle.qz_model.specs.Invariant.{TablesValid}
use Rattle.qz_model.proofs.RowLaws.{fired_of-entry, only_fired}
use Rattle.qz_open.proofs.Lists.{Has, of_all, in_filter, in_map, in_put, of_row}

pub in_put_fired : (row : FiredData) (rows : List FiredData) (f : FiredData) → Has f rows → Has f (put_fired row rows)
unfolding put_fired
in_put_fired row rows f has = in_put nat_cmp (λ r. r.entry) row rows f has

pub in_with_fired : (n : ℕ) (change : FiredData → FiredData) (rows : List FiredData) (f : FiredData) → Has f rows → (n == f.entry) ≡ false → Has f (with_fired n change rows)
unfolding with_fired
in_with_fired n change rows f has differ = subst (λ (g : FiredData). Has g (map (λ r. if n == r.entry then change r else r) rows)) (rw differ refl) (in_map (λ (r : FiredData). if n == r.entry then change r else r) rows f has)

pub changed_with_fired : (n : ℕ) (change : FiredData → FiredData) (rows : List FiredData) (f : FiredData) → Has f rows → (n == f.entry) ≡ true → Has (change f) (with_fired n change rows)
unfolding with_fired
changed_with_fired n change rows f has same = subst (λ (g : FiredData). Has g (map (λ r. if n == r.entry then change r else r) rows)) (rw same refl) (in_map (λ (r : FiredData). if n == r.entry then change r else r) rows f has)

pub in_without_fired : (n : ℕ) (rows : List FiredData) (f : FiredData) → Has f rows → (n == f.entry) ≡ false → Has f (without_fired n rows)
unfolding without_fired
in_without_fired n rows f has differ = in_filter (λ (r : FiredData). not (n == r.entry)) rows f has (ap not differ)

pub in_without_acquired : (q : FiredData → Bool) (rows : List FiredData) (f : FiredData) → Has f rows → is_acquired f.state ≡ false → Has f (without_acquired q rows)
unfolding without_acquired
in_without_acquired q rows f has executes = in_filter (λ (r : FiredData). not (is_acquired r.state && q r)) rows f has (ap (λ b. not (b && q f)) executes)

pub of_fired : (n : ℕ) (rows : List FiredData) (f : FiredData) → fired_of n rows ≡ Some f → Has f rows
unfolding fired_of
of_fired n rows f found = of_row nat_cmp (λ r. r.entry) n rows f found

-- an entry number has one row
pub same_row : (T : SchedulerTables) (n : ℕ) (f g : FiredData) → TablesValid T → fired_of n T.fired ≡ Some f → Has g T.fired → n ≡ g.entry → g ≡ f
same_row T n f g valid found has same = of_all (λ h. (n == h.entry) ≡ true → h ≡ f) T.fired g (only_fired n f T.fired valid.references_and_limits.ordered.fired found) has (eq-eqb n g.entry same)

-- an acquired row isn't that of an execution
pub other_row : (T : SchedulerTables) (n : ℕ) (f g : FiredData) → TablesValid T → fired_of n T.fired ≡ Some f → is_acquired f.state ≡ true → Has g T.fired → is_acquired g.state ≡ false → (f.entry == g.entry) ≡ false
other_row T n f g valid found taken has executes = false_from_ne_true (f.entry == g.entry) (λ same.
    let one : g ≡ f = same_row T n f g valid found has (fired_of-entry n f T.fired found ∙ eqb-true f.entry g.entry same) in
    let wrong : true ≡ false = sym taken ∙ ap (λ (h : FiredData). is_acquired h.state) (sym one) ∙ executes in
    absurd (cc))
