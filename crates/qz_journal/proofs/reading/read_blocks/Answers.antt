use Rattle.std.proofs.Common.{◌≡◌, ◌⊎◌, inl, inr, ◌+◌, ◌≤◌, ◌++◌, ◌∙◌, ℕ, List, length, take, drop, true, false, sym, ap, arith}
use Rattle.qz_journal.specs.Layout.{blocks, end_from}
use Rattle.qz_journal.proofs.Calls.{between_then, between_more}
use Rattle.qz_journal.proofs.Walk.{next_piece, piece_end, ends_at}
use Rattle.qz_journal.proofs.reading.read_blocks.Goals.{then-is_whole-via-then-is_whole, then-is_whole-via-else-is_whole+then-rest-ge-MAX_BLOCK, then-is_whole-via-else-is_whole+else-rest-ge-MAX_BLOCK+then-position-len}
use Rattle.qz_journal.proofs.reading.read_blocks.Goals as goal

-- the blocks of a piece, and its rest
taken : (piece bytes rest : List ℕ) (ps qs : List (List ℕ)) → bytes ≡ piece → blocks ps ++ bytes ≡ blocks qs ++ rest → blocks ps ++ piece ≡ blocks qs ++ rest
taken piece bytes rest ps qs is same = ap (λ (l : List ℕ). blocks ps ++ l) (sym is) ∙ same

-- where the piece ends
piece_at : (start position : ℕ) (piece bytes rest : List ℕ) (ps qs : List (List ℕ)) → position ≡ end_from start ps + length piece → bytes ≡ piece → blocks ps ++ bytes ≡ blocks qs ++ rest → position ≡ end_from start qs + length rest
piece_at start position piece bytes rest ps qs place is same = place ∙ piece_end start piece rest ps qs (taken piece bytes rest ps qs is same)

pub overflow_sub-result : goal.overflow_sub-result
overflow_sub-result g c = omega (arith, piece_at c.args.start c.pieces.position c.pieces.window.items c.deref.result.now c.in_ok-rest.rest.now c.pieces.payloads c.take_blocks.new.payloads c.pieces.invariant.place c.deref.ensures.value c.in_ok-rest.ensures.whole)

pub returns-then-is_whole-clause-gate : goal.returns-then-is_whole-clause-gate
returns-then-is_whole-clause-gate g c = omega (arith, piece_at c.args.start c.pieces.position c.pieces.window.items c.deref.result.now c.in_ok-rest.rest.now c.pieces.payloads c.take_blocks.new.payloads c.pieces.invariant.place c.deref.ensures.value c.in_ok-rest.ensures.whole)

pub returns-then-is_whole-clause-ends : goal.returns-then-is_whole-clause-ends
returns-then-is_whole-clause-ends g c h =
    let content = (g.D.Disk.state c.args.disk.now).content in
    let long : c.args.len ≡ length content = c.requires.length ∙ g.met.D.Disk.whole h c.args.disk.now in
    let last : c.in_ok-rest.is_whole ≡ false → (32773 ≤ length c.in_ok-rest.rest.now) ⊎ (length content ≤ c.pieces.position) =
    elim c.then-is_whole.branch [
      | then-is_whole-via-then-is_whole w ↦ λ no. let both : true ≡ false = sym w.if-is_whole.true ∙ no in cc
      | then-is_whole-via-else-is_whole+then-rest-ge-MAX_BLOCK w ↦ λ no. inl w.if-rest-ge-MAX_BLOCK.true
      | then-is_whole-via-else-is_whole+else-rest-ge-MAX_BLOCK+then-position-len w ↦ λ no. inr (omega (arith, long, w.if-position-len.true))
    ] in
    ends_at content c.pieces.window.items c.in_ok-rest.rest.now c.pieces.payloads c.take_blocks.new.payloads c.args.start c.pieces.position c.in_ok-rest.is_whole (c.pieces.invariant.whole h) (taken c.pieces.window.items c.deref.result.now c.in_ok-rest.rest.now c.pieces.payloads c.take_blocks.new.payloads c.deref.ensures.value c.in_ok-rest.ensures.whole) c.in_ok-rest.ensures.shut c.in_ok-rest.ensures.stuck last

pub returns-then-is_whole-clause-reads : goal.returns-then-is_whole-clause-reads
returns-then-is_whole-clause-reads g c h =
    let w = c.pieces.invariant in
    let place = piece_at c.args.start c.pieces.position c.pieces.window.items c.deref.result.now c.in_ok-rest.rest.now c.pieces.payloads c.take_blocks.new.payloads w.place c.deref.ensures.value c.in_ok-rest.ensures.whole in
    between_more c.args.start c.pieces.position _ _ _ (omega (arith, place, w.within, w.ahead, c.in_ok-rest.ensures.shorter, ap length c.deref.ensures.value)) (w.reads h)

pub pieces-preserved : goal.pieces-preserved
pieces-preserved g c =
    let w = c.pieces.invariant in
    let n = c.min-more.result in
    let at = c.pieces.position in
    let place = piece_at c.args.start at c.pieces.window.items c.deref.result.now c.in_ok-rest.rest.now c.pieces.payloads c.take_blocks.new.payloads w.place c.deref.ensures.value c.in_ok-rest.ensures.whole in
    record {
      within = omega (arith, w.within, c.min-more.ensures);
      same_length = c.in_ok-longer.ensures.length ∙ w.same_length;
      place = omega (arith, place, c.in_ok-longer.ensures.size);
      ahead = omega (arith, c.in_ok-longer.ensures.size, c.min-more.ensures, c.if-rest-ge-MAX_BLOCK.false);
      sizes = c.in_ok-rest.ensures.sizes w.sizes;
      whole = λ h. next_piece _ c.pieces.window.items c.in_ok-rest.rest.now c.in_ok-longer.longer.items c.pieces.payloads c.take_blocks.new.payloads c.args.start at n (w.whole h) (taken c.pieces.window.items c.deref.result.now c.in_ok-rest.rest.now c.pieces.payloads c.take_blocks.new.payloads c.deref.ensures.value c.in_ok-rest.ensures.whole)
          (c.in_ok-longer.ensures.bytes h ∙ ap (λ (l : List ℕ). c.in_ok-rest.rest.now ++ take n (drop at l)) (w.reads h).content);
      reads = λ h. between_then c.args.start at (at + n) _ _ _ (g.met.D.Disk.lawful h c.pieces.disk) (w.reads h) (c.in_ok-longer.ensures.reads h);
      later = omega (arith, w.later, c.in_ok-longer.ensures.later);
    }
