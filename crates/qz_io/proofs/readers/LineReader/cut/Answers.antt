use Rattle.std.proofs.Common.{◌≤◌, ◌∙◌, length, sym, ap, arith, subst, slice_range}
use Rattle.qz_io.specs.Reading.{IsShortLine, BeginsTooLong}
use Rattle.qz_io.proofs.Slices.{slice_range-none}
use Rattle.qz_io.proofs.Scans.{scanned_in, too_long, short_line, cut_at}
use Rattle.qz_io.proofs.readers.LineReader.cut.Goals as goal

pub invariant_of-self : goal.invariant_of-self
invariant_of-self c =
    let scan = scanned_in _ _ _ _ _ _ _ _ c.self.invariant c.deref.ensures.value c.before_feed.ensures in
    record {
      size = c.self.invariant.size;
      line_low = omega arith;
      line_high = omega (arith, scan.low, scan.high, c.self.invariant.high);
      low = scan.low;
      middle = scan.high;
      high = c.self.invariant.high;
      clean = scan.one_line;
    }

pub returns-then-stop-self-gt-LINE_LIMIT : goal.returns-then-stop-self-gt-LINE_LIMIT
returns-then-stop-self-gt-LINE_LIMIT c =
    let scan = scanned_in _ _ _ _ _ _ _ _ c.self.invariant c.deref.ensures.value c.before_feed.ensures in
    let pending = ap (λ r. r.pending) c.self.view_is in (
      pending,
      slice_range-none c.self.inside.buffer.items c.self.inside.start,
      subst BeginsTooLong pending (too_long _ _ _ _ scan (omega (arith, c.self.invariant.size, c.self.invariant.high)) c.if-stop-self-gt-LINE_LIMIT.true),
    )

pub invariant_of-self-then-stop-self : goal.invariant_of-self-then-stop-self
invariant_of-self-then-stop-self c =
    let scan = scanned_in _ _ _ _ _ _ _ _ c.self.invariant c.deref.ensures.value c.before_feed.ensures in
    record {
      size = c.self.invariant.size;
      line_low = omega arith;
      line_high = omega (arith, scan.low, scan.high, c.self.invariant.high);
      low = scan.low;
      middle = scan.high;
      high = c.self.invariant.high;
      clean = scan.one_line;
    }

pub returns-then-stop-self : goal.returns-then-stop-self
returns-then-stop-self c =
    let scan = scanned_in _ _ _ _ _ _ _ _ c.self.invariant c.deref.ensures.value c.before_feed.ensures in
    let pending = ap (λ r. r.pending) c.self.view_is in
    let xs = c.self.inside.buffer.items in
    let line = short_line _ _ _ _ scan (omega (arith, c.self.invariant.size, c.self.invariant.high)) c.if-stop-self-gt-LINE_LIMIT.false in
    let whole = ap (λ n. slice_range xs c.self.inside.start n) c.if-stop-self.true ∙ pending in
    (pending, slice_range-none xs c.self.inside.start, subst IsShortLine whole line)

pub returns : goal.returns
returns c =
    let scan = scanned_in _ _ _ _ _ _ _ _ c.self.invariant c.deref.ensures.value c.before_feed.ensures in
    let pending = ap (λ r. r.pending) c.self.view_is in
    let within : c.self.inside.end ≤ length c.self.inside.buffer.items = omega (arith, c.self.invariant.size, c.self.invariant.high) in (
      sym pending ∙ cut_at _ _ _ _ scan (omega (arith, scan.high, c.if-stop-self.false)) within,
      short_line _ _ _ _ scan within c.if-stop-self-gt-LINE_LIMIT.false,
    )
