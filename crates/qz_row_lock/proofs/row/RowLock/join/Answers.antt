use Rattle.std.proofs.Common.{sym, ap, ◌∙◌, arith}
use Rattle.qz_row_lock.specs.Views.{slots_of}
use Rattle.qz_row_lock.proofs.Claims.{times-append}
use Rattle.qz_row_lock.proofs.row.RowLock.join.Goals as goal

pub invariant_of-result : goal.invariant_of-result
invariant_of-result g c =
    let p = c.hear.ensures.heard.me_is in
    let s = c.args.seat in
    let n = s.counts in
    let m = c.args.other.counts in
    let r = s.ready in
    let v = s.token.me.0 in
    let t = times-append v.number v.ids c.args.other.token.me.0.ids in
    record {
      counts = (ap (λ k. k.0.number) p ∙ n.0, ap (λ k. k.0.more) p ∙ n.1, (let e = ap (λ k. k.0.parts) p in omega arith), omega arith, n.4);
      ready = (ap (λ k. k.0.live) p ∙ r.0, ap (λ k. k.0.queued) p ∙ r.1 ∙ sym (ap (λ k. k.0.turn) p), ap (λ k. k.0.joined_ids) p, rw (ap (λ k. k.0) p) (let own = r.3 in omega arith));
      slots = ap (λ k. k.1) p ∙ s.slots ∙ ap slots_of (sym (ap (λ k. k.0.turn) p));
    }
