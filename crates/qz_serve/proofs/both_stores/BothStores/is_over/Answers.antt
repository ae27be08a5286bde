use Rattle.std.proofs.Common.{◌≡◌, List, [], ℕ, sym, ◌∙◌, subst, rules, to_z, of_z, w64, ◌≤ℤ◌}
use Rattle.std.proofs.lemmas.List.Elements.{All-append, All-cons, All-nil}
use Rattle.std.specs.List.{All}
use Rattle.qz_serve.specs.Courses.{IsGone}
use Rattle.qz_serve.specs.Going.{state_of_both}
use Rattle.qz_serve.proofs.both_stores.BothStores.is_over.Goals as goal

pub returns-then-are_gone : goal.returns-then-are_gone
returns-then-are_gone g c is =
    let gone : List ℕ → Type 0 = IsGone (state_of_both c.args.self.now) in
    let nodes : All gone c.args.ours.now.nodes.items = subst (λ (xs : List (List ℕ)). All gone xs) c.deref.ensures.value (c.are_gone.ensures c.if-are_gone.true) in
    let until : to_z w64 (of_z w64 c.args.until) ≡ c.args.until = search rules in
    let late : c.args.until ≤ℤ c.now-reading.result = search rules in
    record {
      reading = c.now-reading.result;
      shown = c.now-reading.ensures;
      late = late;
      none_due = rw until at (sym c.is_due.ensures ∙ c.if-is_due.false);
      gone = All-append gone c.args.ours.now.nodes.items _ nodes (All-cons gone c.args.ours.now.main [] (c.is_gone.ensures is) (All-nil gone));
    }
