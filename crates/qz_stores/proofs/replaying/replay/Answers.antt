use Rattle.std.proofs.Common.{◌≡◌, ◌⊎◌, ◌∙◌, ◌+◌, ◌<◌, false, inr, List, ℕ, Err, length, take, get_or, sym, ap, subst, arith}
use Rattle.qz_journal.specs.Commits.{need_of}
use Rattle.qz_stores.specs.Opening.{IsBase, AreTaken, IsUnfit}
use Rattle.qz_stores.specs.Replaying.{IsPassed, IsTaken}
use Rattle.qz_stores.proofs.Blocks.{gate_fits, taken_gate}
use Rattle.qz_stores.proofs.Replays.{count_fits, few_more, taken_none, taken_more, stops_at}
use Rattle.qz_stores.proofs.replaying.replay.Goals as goal

pub loop-payload-init : goal.loop-payload-init
loop-payload-init g c =
    let e = c.in_ok-reread.ensures in
    record {
      version_is = e.version;
      base = e.base;
      small = e.few;
      taken = taken_none g.K.Kind.kind g.met.K.Kind.lawful _ c.args.payloads.now _ e.none;
      few = omega (arith, ap (λ (l : List g.row.K-Entry.Denot). length l) e.none);
      gate_is = omega arith;
    }

pub add-requires : goal.add-requires
add-requires g c =
    let w = c.loop-payload in
    let below = subst (λ (l : List (List ℕ)). w.payload-index < length l) c.as_slice-payload-items.ensures c.loop-payload-test.true in
    record { room = count_fits w.reread.base_count (length w.reread.entries.items) c.args.start w.payload-index w.reread.count c.args.payloads.now w.invariant.small w.reread.counted w.invariant.few below c.requires.offsets }

pub gate_after-gate-requires : goal.gate_after-gate-requires
gate_after-gate-requires g c =
    let w = c.loop-payload in
    let p = c.payload-item.result in
    let below = subst (λ (l : List (List ℕ)). w.payload-index < length l) c.as_slice-payload-items.ensures c.loop-payload-test.true in
    let here = subst (λ (l : List (List ℕ)). p ≡ get_or l w.payload-index p) c.as_slice-payload-items.ensures c.payload-item.is in
    let room = gate_fits c.args.start c.args.payloads.now w.payload-index p w.gate below here w.invariant.gate_is in
    omega (arith, ap (λ (x : List ℕ). length x) c.as_slice-in-loop-payload.ensures, room, c.requires.offsets)

pub loop-payload-preserved : goal.loop-payload-preserved
loop-payload-preserved g c =
    let k = g.K.Kind.kind in
    let w = c.loop-payload in
    let p = c.payload-item.result in
    let below = subst (λ (l : List (List ℕ)). w.payload-index < length l) c.as_slice-payload-items.ensures c.loop-payload-test.true in
    let here = subst (λ (l : List (List ℕ)). p ≡ get_or l w.payload-index p) c.as_slice-payload-items.ensures c.payload-item.is in
    let e = c.in-Ok.ensures in
    let es = w.reread.entries.items in
    let fs = c.in-Ok.more.entries.items in
    let B = g.K.Kind.state w.reread.base.value in
    let U = g.K.Kind.state w.reread.state in
    let next = subst (λ (x : List ℕ). IsPassed k x es fs ⊎ IsTaken k U x es fs) c.as_slice.ensures e.ok in
    let gate_now : c.gate_after-gate.result ≡ w.gate + need_of (length p) = c.gate_after-gate.ensures ∙ ap (λ (x : List ℕ). w.gate + need_of (length x)) c.as_slice-in-loop-payload.ensures in
    record {
      version_is = e.base.0 ∙ w.invariant.version_is;
      base = subst (λ T. IsBase k c.args.slot c.args.version c.args.payloads.now T c.in-Ok.more.base_count) (sym e.base.2) (subst (λ n. IsBase k c.args.slot c.args.version c.args.payloads.now B n) (sym e.base.1) w.invariant.base);
      small = omega (arith, e.base.1, w.invariant.small);
      taken = subst (λ T. AreTaken k T (take (w.payload-index + 1) c.args.payloads.now) fs) (sym e.base.2) (taken_more k g.met.K.Kind.lawful B U c.args.payloads.now w.payload-index p es fs below here w.reread.replayed next w.invariant.taken);
      few = few_more k g.met.K.Kind.lawful U p es fs w.payload-index w.invariant.few next;
      gate_is = gate_now ∙ taken_gate c.args.start c.args.payloads.now w.payload-index p w.gate below here w.invariant.gate_is;
    }

pub returns-in-Err-Unfit-clause-stopped : goal.returns-in-Err-Unfit-clause-stopped
returns-in-Err-Unfit-clause-stopped g c =
    let k = g.K.Kind.kind in
    let w = c.loop-payload in
    let p = c.payload-item.result in
    let U = g.K.Kind.state w.reread.state in
    let below = subst (λ (l : List (List ℕ)). w.payload-index < length l) c.as_slice-payload-items.ensures c.loop-payload-test.true in
    let here = subst (λ (l : List (List ℕ)). p ≡ get_or l w.payload-index p) c.as_slice-payload-items.ensures c.payload-item.is in
    let why = c.in-Err-Unfit.ensures.unfit (ap Err c.in-Err-Unfit.field-0-is) in
    inr (
      g.K.Kind.state w.reread.base.value,
      w.reread.base_count,
      w.invariant.base,
      stops_at k g.met.K.Kind.lawful (g.K.Kind.state w.reread.base.value) U c.args.start c.args.payloads.now w.payload-index p w.gate w.reread.entries.items below here w.invariant.gate_is w.reread.replayed w.invariant.taken
          (subst (λ (x : List ℕ). k.is_part x ≡ false) c.as_slice.ensures why.0) (subst (λ (x : List ℕ). IsUnfit k U x) c.as_slice.ensures why.1),
    )
