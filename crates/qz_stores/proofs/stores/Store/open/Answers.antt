use Rattle.std.proofs.Common.{◌≡◌, ◌∙◌, inl, ◌++◌, ◌+◌, true, ℕ, List, length, refl, sym, ap, subst, arith}
use Rattle.std.specs.List.{AllByRecursion}
use Rattle.qz_disk.proofs.Moments.{started}
use Rattle.qz_journal.specs.Layout.{is_version}
use Rattle.qz_journal.specs.Slots.{slot_in_use}
use Rattle.qz_journal.specs.Tails.{start_of}
use Rattle.qz_stores.specs.Kinds.{HasRecord}
use Rattle.qz_stores.specs.Bases.{HoldAll, IsDecided}
use Rattle.qz_stores.specs.Opening.{StandsFrom}
use Rattle.qz_stores.specs.View.{view, disk_state}
use Rattle.qz_stores.proofs.Appending.{none_more, none_follows, images_of}
use Rattle.qz_stores.proofs.Histories.{held_from, now_decided, goes_on_in}
use Rattle.qz_stores.proofs.Moments.{from_told, now}
use Rattle.qz_stores.proofs.Openings.{Found, found_version, found_end, found_place, found_counts, found_decided, found_stands}
use Rattle.qz_stores.proofs.Refusals.{new_base, counted_in, opened_on, begins_new}
use Rattle.qz_stores.proofs.stores.Store.open.Goals as goal

pub invariant_of-self-clause-known : goal.invariant_of-self-clause-known
invariant_of-self-clause-known g c = subst (λ (v : ℕ). is_version v ≡ true) c.requires.read.version c.args.self.now.journal.known

pub invariant_of-self-clause-counted : goal.invariant_of-self-clause-counted
invariant_of-self-clause-counted g c =
    let r = c.args.reread in
    r.counted ∙ ap (λ (l : List g.row.K-Entry.Denot). r.base_count + length l) (sym (none_more r.entries.items c.new.result.items c.new.ensures))

pub invariant_of-self-clause-placed : goal.invariant_of-self-clause-placed
invariant_of-self-clause-placed g c now =
    let r = c.args.reread in
    let j = c.args.self.now.journal in
    omega (arith, r.counted, counted_in g.K.Kind.kind g.met.K.Kind.lawful (slot_in_use j.slots) r.version j.count r.base_count c.requires.read.payloads (g.K.Kind.state r.base.value) r.entries.items c.requires.read.count c.requires.read.read)

pub invariant_of-self-clause-taken : goal.invariant_of-self-clause-taken
invariant_of-self-clause-taken g c = omega (arith, c.args.reread.counted)

pub invariant_of-self-clause-new_count : goal.invariant_of-self-clause-new_count
invariant_of-self-clause-new_count g c none =
    let r = c.args.reread in
    (new_base g.K.Kind.kind g.met.K.Kind.lawful (slot_in_use c.args.self.now.journal.slots) r.version r.base_count c.requires.read.payloads (g.K.Kind.state r.base.value) c.requires.read.read.base none).0

pub invariant_of-self-clause-new_base : goal.invariant_of-self-clause-new_base
invariant_of-self-clause-new_base g c none =
    let r = c.args.reread in
    (new_base g.K.Kind.kind g.met.K.Kind.lawful (slot_in_use c.args.self.now.journal.slots) r.version r.base_count c.requires.read.payloads (g.K.Kind.state r.base.value) c.requires.read.read.base none).1

pub invariant_of-self-clause-legal : goal.invariant_of-self-clause-legal
invariant_of-self-clause-legal g c =
    let r = c.args.reread in
    subst (λ (l : List g.row.K-Entry.Denot). ∥ g.K.Kind.kind.IsLegalFrom (g.K.Kind.state r.base.value) l ∥₁) (sym (none_more r.entries.items c.new.result.items c.new.ensures)) ∣ c.requires.read.read.taken.legal ∣₁

pub invariant_of-self-clause-replayed : goal.invariant_of-self-clause-replayed
invariant_of-self-clause-replayed g c =
    let r = c.args.reread in
    r.replayed ∙ ap (λ (l : List g.row.K-Entry.Denot). g.K.Kind.kind.replay_from (g.K.Kind.state r.base.value) l) (sym (none_more r.entries.items c.new.result.items c.new.ensures))

pub invariant_of-self-clause-recorded : goal.invariant_of-self-clause-recorded
invariant_of-self-clause-recorded g c =
    let r = c.args.reread in
    subst (λ (l : List g.row.K-Entry.Denot). ∥ AllByRecursion (HasRecord g.K.Kind.kind) l ∥₁) (sym (none_more r.entries.items c.new.result.items c.new.ensures)) ∣ c.requires.read.read.taken.valid ∣₁

pub invariant_of-self-clause-passed : goal.invariant_of-self-clause-passed
invariant_of-self-clause-passed g c = none_follows g.K.Kind.kind _ _ c.settle.ensures

pub invariant_of-self-clause-ended : goal.invariant_of-self-clause-ended
invariant_of-self-clause-ended g c honest start whole held =
    let k = g.K.Kind.kind in
    let l = g.met.K.Kind.lawful in
    let j = c.args.self.now.journal in
    let r = c.args.reread in
    let read = c.requires.read in
    let b = (g.D.Disk.state j.disk).content in
    let f : Found k l r.version r.version k.number (start_of j.slots) j.gate j.count (slot_in_use j.slots) j.slots b read.payloads = record {
      version_is = refl;
      number_is = refl;
      slot_is = refl;
      slots_are = read.slots honest;
      start_is = refl;
      gate_is = read.gate;
      is_tail = read.tail honest;
      counted = read.count;
    } in
    found_end k l r.version r.version k.number (start_of j.slots) j.gate j.count (slot_in_use j.slots) j.slots b read.payloads f r.version r.base_count start (g.K.Kind.state r.base.value) whole r.entries.items
    (subst (λ x. HoldAll g.K.Kind.kind c.args.reread.version start (g.D.Disk.state x.disk).content whole) c.of.ensures held) read.read

pub invariant_of-self-clause-stands : goal.invariant_of-self-clause-stands
invariant_of-self-clause-stands g c honest now start whole held =
    subst (HoldAll g.K.Kind.kind c.args.reread.version start (g.D.Disk.state c.args.self.now.journal.disk).content) (sym (none_more whole c.new.result.items c.new.ensures)) (subst (λ x. HoldAll g.K.Kind.kind c.args.reread.version start (g.D.Disk.state x.disk).content whole) c.of.ensures held)

pub invariant_of-self-clause-gated : goal.invariant_of-self-clause-gated
invariant_of-self-clause-gated g c honest now start whole held payloads holds =
    let k = g.K.Kind.kind in
    let l = g.met.K.Kind.lawful in
    let j = c.args.self.now.journal in
    let r = c.args.reread in
    let read = c.requires.read in
    let b = (g.D.Disk.state j.disk).content in
    let f : Found k l r.version r.version k.number (start_of j.slots) j.gate j.count (slot_in_use j.slots) j.slots b read.payloads = record {
      version_is = refl;
      number_is = refl;
      slot_is = refl;
      slots_are = read.slots honest;
      start_is = refl;
      gate_is = read.gate;
      is_tail = read.tail honest;
      counted = read.count;
    } in
    found_place k l r.version r.version k.number (start_of j.slots) j.gate j.count (slot_in_use j.slots) j.slots b read.payloads f r.version start whole (subst (λ x. HoldAll g.K.Kind.kind c.args.reread.version start (g.D.Disk.state x.disk).content whole) c.of.ensures held) payloads holds

pub invariant_of-self-clause-marked : goal.invariant_of-self-clause-marked
invariant_of-self-clause-marked g c honest now start whole held payloads holds =
    let k = g.K.Kind.kind in
    let l = g.met.K.Kind.lawful in
    let j = c.args.self.now.journal in
    let r = c.args.reread in
    let read = c.requires.read in
    let b = (g.D.Disk.state j.disk).content in
    let f : Found k l r.version r.version k.number (start_of j.slots) j.gate j.count (slot_in_use j.slots) j.slots b read.payloads = record {
      version_is = refl;
      number_is = refl;
      slot_is = refl;
      slots_are = read.slots honest;
      start_is = refl;
      gate_is = read.gate;
      is_tail = read.tail honest;
      counted = read.count;
    } in
    found_counts k l r.version r.version k.number (start_of j.slots) j.gate j.count (slot_in_use j.slots) j.slots b read.payloads f r.version r.base_count start (g.K.Kind.state r.base.value) whole r.entries.items (subst (λ x. HoldAll g.K.Kind.kind c.args.reread.version start (g.D.Disk.state x.disk).content whole) c.of.ensures held) read.read payloads holds

pub invariant_of-self-clause-images : goal.invariant_of-self-clause-images
invariant_of-self-clause-images g c honest start whole held =
    let j = c.args.self.now.journal in
    images_of g.K.Kind.kind g.met.K.Kind.lawful c.args.reread.version start (whole ++ c.new.result.items) _ (g.D.Disk.state j.disk) c.settle.ensures (j.durable honest c.requires.read.is_open) (invariant_of-self-clause-stands g c honest refl start whole held)

pub returns-clause-opened : goal.returns-clause-opened
returns-clause-opened g c =
    let k = g.K.Kind.kind in
    let r = c.args.reread in
    let j = c.args.self.now.journal in
    let read = c.requires.read in
    opened_on k g.met.K.Kind.lawful (slot_in_use j.slots) r.version j.count r.base_count _ read.payloads (g.K.Kind.state r.base.value) (g.K.Kind.state r.state) r.entries.items (subst (λ (v : ℕ). is_version v ≡ true) read.version j.known)
    (ap (k.history r.base_count (g.K.Kind.state r.base.value)) (none_more r.entries.items c.new.result.items c.new.ensures)) refl refl c.settle.ensures read.count read.read (g.met.K.Kind.valid r.base.value) r.replayed (g.met.K.Kind.valid r.state)

pub returns-clause-opens : goal.returns-clause-opens
returns-clause-opens g c = record {
  is_open = refl;
  undecided = c.settle.ensures;
  decided = λ told. from_told g.met.K.Kind.lawful c.args.self.now told (λ honest w from.
      let k = g.K.Kind.kind in
      let l = g.met.K.Kind.lawful in
      let s = c.args.self.now in
      let j = s.journal in
      let r = c.args.reread in
      let read = c.requires.read in
      let b = (g.D.Disk.state j.disk).content in
      let f : Found k l r.version r.version k.number (start_of j.slots) j.gate j.count (slot_in_use j.slots) j.slots b read.payloads = record {
        version_is = refl;
        number_is = refl;
        slot_is = refl;
        slots_are = read.slots honest;
        start_is = refl;
        gate_is = read.gate;
        is_tail = read.tail honest;
        counted = read.count;
      } in
      let whole = w.entries ++ from.0 in
      let held = held_from k l s.version s.base_count (g.K.Kind.state s.base.value) (g.D.Disk.state s.opened.value.disk).content s.found.items (s.ended honest) w from in
      let before = k.history s.base_count (g.K.Kind.state s.base.value) (s.found.items ++ s.added.items) in (
        w.start,
        subst (λ (x : List g.row.K-Entry.Denot). IsDecided k w.start before s.undecided (k.history r.base_count (g.K.Kind.state r.base.value) x)) (sym (none_more r.entries.items c.new.result.items c.new.ensures))
            (now_decided k l s.version s.base_count (g.K.Kind.state s.base.value) (g.D.Disk.state s.opened.value.disk).content s.found.items (s.ended honest) s.added.items s.undecided (k.history r.base_count (g.K.Kind.state r.base.value) r.entries.items) w from
            (found_decided k l r.version r.version k.number (start_of j.slots) j.gate j.count (slot_in_use j.slots) j.slots b read.payloads f s.version r.base_count w.start (g.K.Kind.state r.base.value) (whole ++ s.added.items) r.entries.items s.undecided (s.images honest w.start whole held b (g.met.D.Disk.lawful honest j.disk).content) read.read)),
      ));
  later = omega arith;
}

pub returns-clause-stands : goal.returns-clause-stands
returns-clause-stands g c honest =
    let k = g.K.Kind.kind in
    let l = g.met.K.Kind.lawful in
    let j = c.args.self.now.journal in
    let r = c.args.reread in
    let read = c.requires.read in
    let b = (g.D.Disk.state j.disk).content in
    let f : Found k l r.version r.version k.number (start_of j.slots) j.gate j.count (slot_in_use j.slots) j.slots b read.payloads = record {
      version_is = refl;
      number_is = refl;
      slot_is = refl;
      slots_are = read.slots honest;
      start_is = refl;
      gate_is = read.gate;
      is_tail = read.tail honest;
      counted = read.count;
    } in
    subst (λ (x : List g.row.K-Entry.Denot). StandsFrom k r.version b (k.history r.base_count (g.K.Kind.state r.base.value) x)) (sym (none_more r.entries.items c.new.result.items c.new.ensures))
    (found_stands k l r.version r.version k.number (start_of j.slots) j.gate j.count (slot_in_use j.slots) j.slots b read.payloads f r.version r.base_count (g.K.Kind.state r.base.value) r.entries.items refl read.read)

pub returns-clause-begins : goal.returns-clause-begins
returns-clause-begins g c none =
    let r = c.args.reread in
    let j = c.args.self.now.journal in
    let read = c.requires.read in
    begins_new g.K.Kind.kind g.met.K.Kind.lawful (slot_in_use j.slots) r.version r.base_count read.payloads (g.K.Kind.state r.base.value) _ (r.entries.items ++ c.new.result.items) (subst (λ (v : ℕ). is_version v ≡ true) read.version j.known) refl read.read.base none

pub returns-clause-leaves : goal.returns-clause-leaves
returns-clause-leaves g c honest w from =
    let k = g.K.Kind.kind in
    let l = g.met.K.Kind.lawful in
    let s = c.args.self.now in
    let j = s.journal in
    let r = c.args.reread in
    let read = c.requires.read in
    let b = (g.D.Disk.state j.disk).content in
    let f : Found k l r.version r.version k.number (start_of j.slots) j.gate j.count (slot_in_use j.slots) j.slots b read.payloads = record {
      version_is = refl;
      number_is = refl;
      slot_is = refl;
      slots_are = read.slots honest;
      start_is = refl;
      gate_is = read.gate;
      is_tail = read.tail honest;
      counted = read.count;
    } in
    let there = goes_on_in k l w (view s).history s.undecided b (now l s honest w from b (g.met.D.Disk.lawful honest j.disk).content) in
    let version = found_version k l r.version r.version k.number (start_of j.slots) j.gate j.count (slot_in_use j.slots) j.slots b read.payloads f w.version w.start (w.entries ++ there.0) there.1 in
    let opened = subst (λ x. HoldAll k w.version w.start (g.D.Disk.state x.disk).content (w.entries ++ there.0)) (sym c.of.ensures) there.1 in
    ((there.0, version, opened), started (disk_state s) _ (g.met.D.Disk.lawful honest j.disk) (λ x is. inl (now l s honest w from x is)))

pub returns-clause-history : goal.returns-clause-history
returns-clause-history g c =
    let r = c.args.reread in
    ap (g.K.Kind.kind.history r.base_count (g.K.Kind.state r.base.value)) (none_more r.entries.items c.new.result.items c.new.ensures)
