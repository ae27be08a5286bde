use Rattle.std.proofs.Common.{◌≡◌, ◌∙◌, ◌+◌, ◌++◌, ◌∷◌, [], List, ℕ, length, length-append, sym, ap, subst, arith}
use Rattle.qz_types.specs.Entries.{EntryData}
use Rattle.qz_model.specs.History.{replay_from}
use Rattle.qz_history.specs.Told.{told_entry}
use Rattle.qz_history.proofs.Tellings.{replayed_more, taken_next, told_next}
use Rattle.qz_history.proofs.tellers.Teller.take.Goals as goal

pub invariant_of-result : goal.invariant_of-result
invariant_of-result c =
    let s = c.args.self in
    let es = s.entries.items in
    let e = c.in-Ok.entry in
    let next = c.and-entries.ensures in
    record {
      counted = omega (arith, s.counted, ap (λ (l : List EntryData). length l) next, length-append es (e ∷ []));
      replayed = subst (λ (l : List EntryData). c.tell.new.tables.tables ≡ replay_from s.base.value.tables l) (sym next)
          (replayed_more s.base.value.tables s.tables.tables c.tell.new.tables.tables es e s.replayed c.in-Ok.ensures.left);
    }

pub returns-in-Ok-clause-next : goal.returns-in-Ok-clause-next
returns-in-Ok-clause-next c =
    let s = c.args.self in
    taken_next s.tables.tables c.args.payload.now s.entries.items c.and-entries.result.items c.in-Ok.entry c.and-entries.ensures c.in-Ok.ensures.is_record c.in-Ok.ensures.accepted

pub returns-in-Ok-clause-told : goal.returns-in-Ok-clause-told
returns-in-Ok-clause-told c =
    let s = c.args.self in
    let es = s.entries.items in
    let count_is : s.count + 1 ≡ (s.base_count + 1) + length es = omega (arith, s.counted) in
    let text : c.tell.new.text.items ≡ told_entry s.from (s.count + 1) s.tables.tables c.in-Ok.entry =
    c.in-Ok.ensures.told ∙ ap (λ (l : List ℕ). l ++ told_entry s.from (s.count + 1) s.tables.tables c.in-Ok.entry) c.clear.ensures.items in
    told_next s.from (s.base_count + 1) (s.count + 1) s.base.value.tables s.tables.tables es c.and-entries.result.items c.in-Ok.entry c.tell.new.text.items s.replayed count_is c.and-entries.ensures text

pub returns-in-Err-clause-unfit : goal.returns-in-Err-clause-unfit
returns-in-Err-clause-unfit c is = (sym c.is_part.ensures ∙ c.if-is_part.false, c.in-Err.ensures.unfit is)
