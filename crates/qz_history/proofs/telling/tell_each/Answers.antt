use Rattle.std.proofs.Common.{◌≡◌, ◌⊎◌, ◌∙◌, ◌+◌, ◌<◌, ◌^◌, false, List, ℕ, length, take, get_or, sym, ap, subst, refl, arith}
use Rattle.qz_types.specs.Entries.{EntryData}
use Rattle.qz_model.specs.History.{replay_from}
use Rattle.qz_snapshot.specs.Opening.{is_part}
use Rattle.qz_stores.specs.Opening.{IsUnfit}
use Rattle.qz_stores.specs.Replaying.{IsPassed, IsTaken}
use Rattle.qz_stores.proofs.Replays.{count_fits, few_more, taken_none, taken_more}
use Rattle.qz_trigger_store.specs.Kinds.{trigger_kind}
use Rattle.qz_trigger_store.specs.Laws.{trigger_lawful}
use Rattle.qz_history.specs.Telling.{TellsOn}
use Rattle.qz_history.proofs.Parts.{begun, part_on, same_told, same_on}
use Rattle.qz_history.proofs.Unfit.{never_taken}
use Rattle.qz_history.proofs.telling.tell_each.Goals as goal

pub loop-payload-init : goal.loop-payload-init
loop-payload-init g c =
    let none = c.requires.none in
    record {
      small = c.requires.few;
      from_is = refl;
      count_is = refl;
      base_is = refl;
      taken = taken_none trigger_kind trigger_lawful _ c.args.payloads.now _ none;
      few = omega (arith, ap (λ (l : List EntryData). length l) none);
      later = omega arith;
      written = begun c.args.teller.from (c.args.teller.base_count + 1) c.args.teller.base.value.tables _ none (g.K.Sink.held c.args.out.now);
    }

pub tell_one-requires : goal.tell_one-requires
tell_one-requires g c =
    let w = c.loop-payload in
    let below = subst (λ (l : List (List ℕ)). w.payload-index < length l) c.as_slice-payload-items.ensures c.loop-payload-test.true in
    record { room = count_fits w.teller.base_count (length w.teller.entries.items) c.args.start w.payload-index w.teller.count c.args.payloads.now w.invariant.small w.teller.counted w.invariant.few below c.requires.offsets }

pub loop-payload-preserved : goal.loop-payload-preserved
loop-payload-preserved g c =
    let w = c.loop-payload in
    let p = c.payload-item.result in
    let below = subst (λ (l : List (List ℕ)). w.payload-index < length l) c.as_slice-payload-items.ensures c.loop-payload-test.true in
    let here = subst (λ (l : List (List ℕ)). p ≡ get_or l w.payload-index p) c.as_slice-payload-items.ensures c.payload-item.is in
    let e = c.in-Ok.ensures in
    let es = w.teller.entries.items in
    let fs = c.in-Ok.more.entries.items in
    let T = c.args.teller.base.value.tables in
    let U = w.teller.tables.tables in
    let state = subst (λ V. U ≡ replay_from V es) w.invariant.base_is w.teller.replayed in
    let next = subst (λ (x : List ℕ). IsPassed trigger_kind x es fs ⊎ IsTaken trigger_kind U x es fs) c.as_slice.ensures e.next in
    let before = g.K.Sink.held c.args.out.now in
    let so_far = same_told c.args.teller.from w.teller.from c.args.teller.base_count w.teller.base_count T w.teller.base.value.tables es before _ w.invariant.from_is w.invariant.count_is w.invariant.base_is w.invariant.written in
    record {
      small = subst (λ n. n < 2 ^ 32) (sym e.base.1) w.invariant.small;
      from_is = e.base.0 ∙ w.invariant.from_is;
      count_is = e.base.1 ∙ w.invariant.count_is;
      base_is = e.base.2 ∙ w.invariant.base_is;
      taken = taken_more trigger_kind trigger_lawful T U c.args.payloads.now w.payload-index p es fs below here state next w.invariant.taken;
      few = few_more trigger_kind trigger_lawful U p es fs w.payload-index w.invariant.few next;
      later = omega (arith, w.invariant.later, e.later);
      written = same_told w.teller.from c.args.teller.from w.teller.base_count c.args.teller.base_count w.teller.base.value.tables T fs before _ (sym w.invariant.from_is) (sym w.invariant.count_is) (sym w.invariant.base_is) (e.written before so_far);
    }

pub returns-in-Err-clause-part : goal.returns-in-Err-clause-part
returns-in-Err-clause-part g c =
    let w = c.loop-payload in
    let p = c.payload-item.result in
    let below = subst (λ (l : List (List ℕ)). w.payload-index < length l) c.as_slice-payload-items.ensures c.loop-payload-test.true in
    let here = subst (λ (l : List (List ℕ)). p ≡ get_or l w.payload-index p) c.as_slice-payload-items.ensures c.payload-item.is in
    let es = w.teller.entries.items in
    let T = c.args.teller.base.value.tables in
    let U = w.teller.tables.tables in
    let state = subst (λ V. U ≡ replay_from V es) w.invariant.base_is w.teller.replayed in
    let before = g.K.Sink.held c.args.out.now in
    let so_far = same_told c.args.teller.from w.teller.from c.args.teller.base_count w.teller.base_count T w.teller.base.value.tables es before _ w.invariant.from_is w.invariant.count_is w.invariant.base_is w.invariant.written in
    let on = c.in-Err.ensures.part before so_far in
    let after = g.K.Sink.held c.tell_one.new.out in
    let here_on = subst (λ (x : List ℕ). TellsOn w.teller.from (w.teller.base_count + 1) w.teller.base.value.tables U x es before after) c.as_slice.ensures on in
    let on_args = same_on w.teller.from c.args.teller.from w.teller.base_count c.args.teller.base_count w.teller.base.value.tables T U p es before after (sym w.invariant.from_is) (sym w.invariant.count_is) (sym w.invariant.base_is) here_on in
    part_on c.args.teller.from c.args.teller.base_count T U c.args.payloads.now w.payload-index p es before after below here state w.invariant.taken on_args

pub returns-in-Err-clause-unfit : goal.returns-in-Err-clause-unfit
returns-in-Err-clause-unfit g c unfit hs all =
    let w = c.loop-payload in
    let p = c.payload-item.result in
    let below = subst (λ (l : List (List ℕ)). w.payload-index < length l) c.as_slice-payload-items.ensures c.loop-payload-test.true in
    let here = subst (λ (l : List (List ℕ)). p ≡ get_or l w.payload-index p) c.as_slice-payload-items.ensures c.payload-item.is in
    let T = c.args.teller.base.value.tables in
    let U = w.teller.tables.tables in
    let state = subst (λ V. U ≡ replay_from V w.teller.entries.items) w.invariant.base_is w.teller.replayed in
    let why = c.in-Err.ensures.unfit unfit in
    never_taken T U c.args.payloads.now w.payload-index p w.teller.entries.items hs below here state w.invariant.taken
    (subst (λ (x : List ℕ). is_part x ≡ false) c.as_slice.ensures why.0) (subst (λ (x : List ℕ). IsUnfit trigger_kind U x) c.as_slice.ensures why.1) all

pub returns-in-Err-clause-write : goal.returns-in-Err-clause-write
returns-in-Err-clause-write g c is = omega (arith, c.loop-payload.invariant.later, c.in-Err.ensures.write is)

pub returns-in-Err-clause-later : goal.returns-in-Err-clause-later
returns-in-Err-clause-later g c = omega (arith, c.loop-payload.invariant.later, c.in-Err.ensures.later)
