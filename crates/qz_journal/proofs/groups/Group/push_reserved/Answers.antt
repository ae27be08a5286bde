use Rattle.std.proofs.Common.{◌∷◌, [], length, ap, refl, arith, vec_len, length-append}
use Rattle.qz_journal.proofs.GroupBytes.{no_more, some_byte, put_one, all_sizes}
use Rattle.qz_journal.proofs.groups.Group.push_reserved.Goals as goal

pub overflow_add-self : goal.overflow_add-self
overflow_add-self c =
    omega (arith, no_more c.args.self.now.payloads.items, some_byte c.args.self.now.payloads.items c.args.self.now.bytes.items c.args.self.now.commit, c.args.self.now.counted, c.len-end.ensures)

pub invariant_of-self : goal.invariant_of-self
invariant_of-self c =
    let s = c.args.self.now in
    record {
      commit = put_one s.payloads.items c.and.result.items c.args.payload.now s.bytes.items s.bytes.items c.as_slice.result.now _ (vec_len s.bytes) s.commit refl (omega arith) c.as_slice.ensures c.and.ensures c.put.ensures.bytes;
      sizes = all_sizes s.payloads.items c.and.result.items c.args.payload.now c.and.ensures s.sizes c.requires.payload;
      counted = omega (arith, s.counted, ap length c.and.ensures, length-append s.payloads.items (c.args.payload.now ∷ []));
    }
