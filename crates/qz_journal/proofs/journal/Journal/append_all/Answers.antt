use Rattle.std.proofs.Common.{◌≡◌, ◌+◌, ◌≤◌, ◌++◌, length, take, drop, sym, ap, subst, ◌∙◌, arith, length-take, length-drop}
use Rattle.std.proofs.lemmas.List.{take_rest}
use Rattle.qz_disk.specs.Disk.{LeavesOnly}
use Rattle.qz_journal.specs.Commits.{HaveRoom}
use Rattle.qz_journal.specs.Layout.{Holds, IsWithoutOrWithAll, blocks}
use Rattle.qz_journal.proofs.Fills
use Rattle.qz_journal.proofs.journal.Journal.append_all.Goals as goal

pub append_filled-requires-clause-room : goal.append_filled-requires-clause-room
append_filled-requires-clause-room g c =
    let xs = c.args.payloads.now in
    let i = c.groups.start in
    let n = c.fill-many.result in
    let v = c.groups.invariant in
    let first = c.fill-many.ensures.first ∙ ap (take n) (take_rest xs i) in
    let le : i + n ≤ length xs = omega (arith, c.fill-many.ensures.within, ap length (take_rest xs i), length-drop i xs, v.within) in
    subst (λ ps. HaveRoom ps c.groups.self.gate c.groups.self.count) (sym first) (Fills.piece_room xs i n _ _ _ _ le c.requires.room v.gate v.count)

pub returns-in_err-append_filled-clause-any_moment : goal.returns-in_err-append_filled-clause-any_moment
returns-in_err-append_filled-clause-any_moment g c h all holds gate_is =
    let xs = c.args.payloads.now in
    let i = c.groups.start in
    let n = c.fill-many.result in
    let v = c.groups.invariant in
    let j = c.groups.self in
    let first = c.fill-many.ensures.first ∙ ap (take n) (take_rest xs i) in
    let now = Fills.same_holds _ _ _ _ _ _ (sym v.version) (sym v.kind) (v.stands h all holds gate_is) in
    Fills.one_group _ _ _ _ all xs i n _ _ _ v.version v.kind (v.any_moment h all holds gate_is)
    (subst (λ ps. LeavesOnly (g.D.Disk.state j.disk) (g.D.Disk.state c.append_filled.new.self.disk) (IsWithoutOrWithAll j.version j.kind (all ++ take i xs) ps)) first
    (c.append_filled.ensures.any_moment h _ now (Fills.gate_at all xs i _ _ v.gate gate_is)))

pub returns-in_err-append_filled-clause-front : goal.returns-in_err-append_filled-clause-front
returns-in_err-append_filled-clause-front g c h =
    let v = c.groups.invariant in
    Fills.one_front c.args.self.now.gate _ (g.D.Disk.state c.args.self.now.disk).content _ _ _ (omega (arith, v.gate)) (g.met.D.Disk.lawful h c.groups.self.disk) (v.front h) (c.append_filled.ensures.front h)

pub groups-preserved : goal.groups-preserved
groups-preserved g c =
    let xs = c.args.payloads.now in
    let i = c.groups.start in
    let n = c.fill-many.result in
    let v = c.groups.invariant in
    let j = c.groups.self in
    let e = c.in_ok-append_filled.ensures in
    let first = c.fill-many.ensures.first ∙ ap (take n) (take_rest xs i) in
    let le : i + n ≤ length xs = omega (arith, c.fill-many.ensures.within, ap length (take_rest xs i), length-drop i xs, v.within) in
    let long : length (take n (drop i xs)) ≡ n = omega (arith, length-take n (drop i xs), length-drop i xs, le) in
    let size = ap length first in
    record {
      within = le;
      none = e.emptied;
      wide = omega (arith, v.wide, c.fill-many.ensures.capacity, e.capacity);
      ready = e.ok.0;
      version = e.same.0 ∙ v.version;
      kind = e.same.1 ∙ v.kind;
      slots = e.same.2 ∙ v.slots;
      gate = Fills.gate_later xs i n _ _ _ v.gate (e.ok.1 ∙ ap (λ ps. j.gate + length (blocks ps)) first);
      count = omega (arith, e.ok.2, size, long, v.count);
      later = omega (arith, v.later, e.later);
      reads = λ h. e.reads_nothing h ∙ v.reads h;
      stands = λ h all holds gate_is.
          let now = Fills.same_holds _ _ _ _ _ _ (sym v.version) (sym v.kind) (v.stands h all holds gate_is) in
          Fills.held_later _ _ _ all xs i n (Fills.same_holds _ _ _ _ _ _ v.version v.kind
          (subst (λ ps. Holds (g.D.Disk.state c.append_filled.new.self.disk).content j.version j.kind ((all ++ take i xs) ++ ps)) first (e.stands h _ now (Fills.gate_at all xs i _ _ v.gate gate_is))));
      any_moment = λ h all holds gate_is.
          let now = Fills.same_holds _ _ _ _ _ _ (sym v.version) (sym v.kind) (v.stands h all holds gate_is) in
          Fills.one_group _ _ _ _ all xs i n _ _ _ v.version v.kind (v.any_moment h all holds gate_is)
          (subst (λ ps. LeavesOnly (g.D.Disk.state j.disk) (g.D.Disk.state c.append_filled.new.self.disk) (IsWithoutOrWithAll j.version j.kind (all ++ take i xs) ps)) first
          (e.any_moment h _ now (Fills.gate_at all xs i _ _ v.gate gate_is)));
      front = λ h. Fills.one_front c.args.self.now.gate _ (g.D.Disk.state c.args.self.now.disk).content _ _ _ (omega (arith, v.gate)) (g.met.D.Disk.lawful h j.disk) (v.front h) (e.front h);
    }
