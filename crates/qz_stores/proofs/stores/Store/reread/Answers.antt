use Rattle.std.proofs.Common.{◌≡◌, ℕ, ◌++◌, sym, subst}
use Rattle.std.proofs.lemmas.Result.{err_from_is_err_and}
use Rattle.qz_stores.specs.Bases.{HoldAll}
use Rattle.qz_stores.specs.Opening.{IsRead, IsStop}
use Rattle.qz_stores.specs.Restarting.{history_read}
use Rattle.qz_stores.proofs.Appending.{leaves_images}
use Rattle.qz_stores.proofs.Histories.{held_from, now_decided, same_left}
use Rattle.qz_stores.proofs.Openings.{Found, found_decided, found_stands, found_starved, found_in, may_outside}
use Rattle.qz_stores.proofs.Restarts.{ok_both, err_one, read_moments, image_before}
use Rattle.qz_stores.proofs.stores.Store.reread.Goals as goal

pub invariant_of-self-clause-images : goal.invariant_of-self-clause-images
invariant_of-self-clause-images g c honest start whole held b is =
    let s = c.args.self.now in
    s.images honest start whole held b (image_before c.remount_tail.result (g.D.Disk.state s.journal.disk) (g.D.Disk.state c.remount_tail.new.self.disk) (g.met.D.Disk.lawful honest c.remount_tail.new.self.disk) (c.remount_tail.ensures.reads honest) (c.remount_tail.ensures.reads_err honest) b is)

pub returns-in_err-start-clause-refused : goal.returns-in_err-start-clause-refused
returns-in_err-start-clause-refused g c honest w from =
    let s = c.args.self.now in
    let whole = w.entries ++ from.0 in
    let held = subst (λ (v : ℕ). HoldAll g.K.Kind.kind v w.start (g.D.Disk.state s.opened.value.disk).content whole) (sym from.1) from.2 in
    let why = c.in_err-start.ensures.refused honest in
    let p = err_from_is_err_and c.from_residual.result c.from_residual.ensures.1 in
    let b = (g.D.Disk.state s.journal.disk).content in
    rw (p.1, p.2) (may_outside g.K.Kind.kind g.met.K.Kind.lawful s.version s.journal.kind w.start b (whole ++ s.added.items) s.undecided why.0 c.in_err-start.field-0.0 s.number (s.images honest w.start whole held b (g.met.D.Disk.lawful honest s.journal.disk).content) why.1)

pub returns-clause-decided : goal.returns-clause-decided
returns-clause-decided g c honest =
    let k = g.K.Kind.kind in
    let l = g.met.K.Kind.lawful in
    let s = c.args.self.now in
    let j = c.remount_tail.new.self in
    let e = c.in_ok-start.ensures in
    let x = c.version-version.result in
    let tail = c.in_ok-start.payloads in
    let b = (g.D.Disk.state s.journal.disk).content in
    let here : Found k l x j.version s.journal.kind c.in_ok-start.start j.gate j.count c.slot-slot.result j.slots (g.D.Disk.state j.disk).content tail = record {
      version_is = c.version-version.ensures.value;
      number_is = s.number;
      slot_is = c.slot-slot.ensures;
      slots_are = e.slots honest;
      start_is = e.ground.1;
      gate_is = e.ground.2;
      is_tail = e.stands honest;
      counted = e.ground.3;
    } in
    let f = found_in k l x j.version s.journal.kind c.in_ok-start.start j.gate j.count c.slot-slot.result j.slots (g.D.Disk.state j.disk).content b tail (e.reads honest).content here in
    ok_both c.replay.result (λ r. IsRead k c.slot-slot.result x tail r.base_count (g.K.Kind.state r.base.value) r.entries.items) (λ r. r.version ≡ x) _ c.replay.ensures.read c.replay.ensures.version
    (λ r read same w from.
    let whole = w.entries ++ from.0 in
    let held = held_from k l s.version s.base_count (g.K.Kind.state s.base.value) (g.D.Disk.state s.opened.value.disk).content s.found.items (s.ended honest) w from in
    now_decided k l s.version s.base_count (g.K.Kind.state s.base.value) (g.D.Disk.state s.opened.value.disk).content s.found.items (s.ended honest) s.added.items s.undecided (history_read r) w from
    (found_decided k l x j.version s.journal.kind c.in_ok-start.start j.gate j.count c.slot-slot.result j.slots b tail f s.version r.base_count w.start (g.K.Kind.state r.base.value) (whole ++ s.added.items) r.entries.items s.undecided (s.images honest w.start whole held b (g.met.D.Disk.lawful honest s.journal.disk).content) read))

pub returns-clause-stands : goal.returns-clause-stands
returns-clause-stands g c honest =
    let k = g.K.Kind.kind in
    let l = g.met.K.Kind.lawful in
    let s = c.args.self.now in
    let j = c.remount_tail.new.self in
    let e = c.in_ok-start.ensures in
    let x = c.version-version.result in
    let tail = c.in_ok-start.payloads in
    let b = (g.D.Disk.state s.journal.disk).content in
    let here : Found k l x j.version s.journal.kind c.in_ok-start.start j.gate j.count c.slot-slot.result j.slots (g.D.Disk.state j.disk).content tail = record {
      version_is = c.version-version.ensures.value;
      number_is = s.number;
      slot_is = c.slot-slot.ensures;
      slots_are = e.slots honest;
      start_is = e.ground.1;
      gate_is = e.ground.2;
      is_tail = e.stands honest;
      counted = e.ground.3;
    } in
    let f = found_in k l x j.version s.journal.kind c.in_ok-start.start j.gate j.count c.slot-slot.result j.slots (g.D.Disk.state j.disk).content b tail (e.reads honest).content here in
    ok_both c.replay.result (λ r. IsRead k c.slot-slot.result x tail r.base_count (g.K.Kind.state r.base.value) r.entries.items) (λ r. r.version ≡ x) _ c.replay.ensures.read c.replay.ensures.version
    (λ r read same. found_stands k l x j.version s.journal.kind c.in_ok-start.start j.gate j.count c.slot-slot.result j.slots b tail f r.version r.base_count (g.K.Kind.state r.base.value) r.entries.items same read)

pub returns-clause-refused : goal.returns-clause-refused
returns-clause-refused g c honest w from =
    let whole = w.entries ++ from.0 in
    let held = subst (λ (v : ℕ). HoldAll g.K.Kind.kind v w.start (g.D.Disk.state c.args.self.now.opened.value.disk).content whole) (sym from.1) from.2 in
    let k = g.K.Kind.kind in
    let l = g.met.K.Kind.lawful in
    let s = c.args.self.now in
    let j = c.remount_tail.new.self in
    let e = c.in_ok-start.ensures in
    let x = c.version-version.result in
    let tail = c.in_ok-start.payloads in
    let b = (g.D.Disk.state s.journal.disk).content in
    let here : Found k l x j.version s.journal.kind c.in_ok-start.start j.gate j.count c.slot-slot.result j.slots (g.D.Disk.state j.disk).content tail = record {
      version_is = c.version-version.ensures.value;
      number_is = s.number;
      slot_is = c.slot-slot.ensures;
      slots_are = e.slots honest;
      start_is = e.ground.1;
      gate_is = e.ground.2;
      is_tail = e.stands honest;
      counted = e.ground.3;
    } in
    let f = found_in k l x j.version s.journal.kind c.in_ok-start.start j.gate j.count c.slot-slot.result j.slots (g.D.Disk.state j.disk).content b tail (e.reads honest).content here in
    err_one c.replay.result (IsStop k c.slot-slot.result x c.in_ok-start.start tail) _ c.replay.ensures.stopped
    (λ e stop. found_starved k l x j.version s.journal.kind c.in_ok-start.start j.gate j.count c.slot-slot.result j.slots b tail f s.version w.start (whole ++ s.added.items) s.undecided e (s.images honest w.start whole held b (g.met.D.Disk.lawful honest s.journal.disk).content) stop)

pub returns-in_err-start-clause-leaves : goal.returns-in_err-start-clause-leaves
returns-in_err-start-clause-leaves g c honest =
    let k = g.K.Kind.kind in
    let l = g.met.K.Kind.lawful in
    let s = c.args.self.now in
    let now = g.D.Disk.state s.journal.disk in
    let next = g.D.Disk.state c.remount_tail.new.self.disk in
    same_left k l s.version s.base_count (g.K.Kind.state s.base.value) (g.D.Disk.state s.opened.value.disk).content s.found.items (s.ended honest) s.added.items s.added.items s.undecided s.undecided now next
    (λ start whole held. leaves_images k l s.version start (whole ++ s.added.items) s.undecided now next (read_moments c.remount_tail.result now next (c.remount_tail.ensures.reads honest) (c.remount_tail.ensures.reads_err honest)) (s.images honest start whole held))

pub returns-clause-leaves : goal.returns-clause-leaves
returns-clause-leaves g c honest =
    let k = g.K.Kind.kind in
    let l = g.met.K.Kind.lawful in
    let s = c.args.self.now in
    let now = g.D.Disk.state s.journal.disk in
    let next = g.D.Disk.state c.remount_tail.new.self.disk in
    same_left k l s.version s.base_count (g.K.Kind.state s.base.value) (g.D.Disk.state s.opened.value.disk).content s.found.items (s.ended honest) s.added.items s.added.items s.undecided s.undecided now next
    (λ start whole held. leaves_images k l s.version start (whole ++ s.added.items) s.undecided now next (read_moments c.remount_tail.result now next (c.remount_tail.ensures.reads honest) (c.remount_tail.ensures.reads_err honest)) (s.images honest start whole held))
