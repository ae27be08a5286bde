use Rattle.std.proofs.Common.{◌≡◌, ℕ, ◌≤◌, ◌∙◌, List, [], ◌++◌, sym, ap, subst, arith, append-nil}
use Rattle.qz_journal.specs.declared.errors.MountError.TheVariants as mount
use Rattle.qz_journal.specs.Slots.{slots_of as slots_in, slot_in_use}
use Rattle.qz_journal.specs.Tails.{IsCounted}
use Rattle.qz_stores.specs.Bases.{HoldAll, IsEndOf}
use Rattle.qz_stores.specs.Opening.{StandsFrom}
use Rattle.qz_stores.specs.View.{view, opened_of}
use Rattle.qz_stores.proofs.Appending.{none_more}
use Rattle.qz_stores.proofs.Openings.{Found, found_tail, found_read, found_refused, found_version, found_end, found_place, found_counts, found_outside, found_in, never_damaged}
use Rattle.qz_stores.proofs.Refusals.{early_refused, late_refused, none_in_use, counted_in, read_as, refused_as}
use Rattle.qz_stores.proofs.WithoutSlots.{all_there}
use Rattle.qz_stores.proofs.stores.Store.mount.Goals as goal

pub begin-requires-clause-counted : goal.begin-requires-clause-counted
begin-requires-clause-counted g c =
    let r = c.in-Ok-replay.reread in
    let k = g.K.Kind.kind in
    omega (arith, r.counted, counted_in k g.met.K.Kind.lawful c.slot.result c.version.result c.in-Ok.journal.count r.base_count c.in-Ok.payloads (g.K.Kind.state r.base.value) r.entries.items (subst (λ o. IsCounted o c.in-Ok.journal.count c.in-Ok.payloads) (sym c.slot.ensures) c.in-Ok.ensures.ground.4) c.in-Ok-replay.ensures.read)

pub begin-requires-clause-ended : goal.begin-requires-clause-ended
begin-requires-clause-ended g c honest start whole held =
    let k = g.K.Kind.kind in
    let j = c.in-Ok.journal in
    let e = c.in-Ok.ensures in
    let f : Found k g.met.K.Kind.lawful c.version.result j.version c.number.result c.in-Ok.start j.gate j.count c.slot.result j.slots (g.D.Disk.state j.disk).content c.in-Ok.payloads = record {
      version_is = c.version.ensures.value;
      number_is = c.number.ensures;
      slot_is = c.slot.ensures;
      slots_are = e.slots honest;
      start_is = e.ground.2;
      gate_is = e.ground.3;
      is_tail = e.stands honest;
      counted = e.ground.4;
    } in
    let r = c.in-Ok-replay.reread in
    found_end k g.met.K.Kind.lawful c.version.result j.version c.number.result c.in-Ok.start j.gate j.count c.slot.result j.slots (g.D.Disk.state j.disk).content c.in-Ok.payloads f r.version r.base_count start (g.K.Kind.state r.base.value) whole r.entries.items held c.in-Ok-replay.ensures.read

pub begin-requires-clause-gated : goal.begin-requires-clause-gated
begin-requires-clause-gated g c honest start whole held payloads holds =
    let k = g.K.Kind.kind in
    let j = c.in-Ok.journal in
    let e = c.in-Ok.ensures in
    let f : Found k g.met.K.Kind.lawful c.version.result j.version c.number.result c.in-Ok.start j.gate j.count c.slot.result j.slots (g.D.Disk.state j.disk).content c.in-Ok.payloads = record {
      version_is = c.version.ensures.value;
      number_is = c.number.ensures;
      slot_is = c.slot.ensures;
      slots_are = e.slots honest;
      start_is = e.ground.2;
      gate_is = e.ground.3;
      is_tail = e.stands honest;
      counted = e.ground.4;
    } in
    found_place k g.met.K.Kind.lawful c.version.result j.version c.number.result c.in-Ok.start j.gate j.count c.slot.result j.slots (g.D.Disk.state j.disk).content c.in-Ok.payloads f c.in-Ok-replay.reread.version start whole held payloads holds

pub begin-requires-clause-marked : goal.begin-requires-clause-marked
begin-requires-clause-marked g c honest start whole held payloads holds =
    let k = g.K.Kind.kind in
    let j = c.in-Ok.journal in
    let e = c.in-Ok.ensures in
    let f : Found k g.met.K.Kind.lawful c.version.result j.version c.number.result c.in-Ok.start j.gate j.count c.slot.result j.slots (g.D.Disk.state j.disk).content c.in-Ok.payloads = record {
      version_is = c.version.ensures.value;
      number_is = c.number.ensures;
      slot_is = c.slot.ensures;
      slots_are = e.slots honest;
      start_is = e.ground.2;
      gate_is = e.ground.3;
      is_tail = e.stands honest;
      counted = e.ground.4;
    } in
    let r = c.in-Ok-replay.reread in
    found_counts k g.met.K.Kind.lawful c.version.result j.version c.number.result c.in-Ok.start j.gate j.count c.slot.result j.slots (g.D.Disk.state j.disk).content c.in-Ok.payloads f r.version r.base_count start (g.K.Kind.state r.base.value) whole r.entries.items held c.in-Ok-replay.ensures.read payloads holds

pub returns-in-Ok-replay-clause-stands : goal.returns-in-Ok-replay-clause-stands
returns-in-Ok-replay-clause-stands g c honest =
    let k = g.K.Kind.kind in
    let j = c.in-Ok.journal in
    let e = c.in-Ok.ensures in
    let f : Found k g.met.K.Kind.lawful c.version.result j.version c.number.result c.in-Ok.start j.gate j.count c.slot.result j.slots (g.D.Disk.state j.disk).content c.in-Ok.payloads = record {
      version_is = c.version.ensures.value;
      number_is = c.number.ensures;
      slot_is = c.slot.ensures;
      slots_are = e.slots honest;
      start_is = e.ground.2;
      gate_is = e.ground.3;
      is_tail = e.stands honest;
      counted = e.ground.4;
    } in
    let r = c.in-Ok-replay.reread in
    let b = (g.D.Disk.state c.args.disk).content in
    let t = c.begin.result in
    let there = found_in k g.met.K.Kind.lawful c.version.result j.version c.number.result c.in-Ok.start j.gate j.count c.slot.result j.slots (g.D.Disk.state j.disk).content b c.in-Ok.payloads (e.reads honest).content f in
    let same : t.found.items ++ t.added.items ≡ r.entries.items = none_more t.found.items t.added.items c.begin.ensures.opened.2 ∙ c.begin.ensures.found in
    let history : (view t).history ≡ k.history r.base_count (g.K.Kind.state r.base.value) r.entries.items = λ i. k.history (c.begin.ensures.base.0 i) (c.begin.ensures.base.1 i) (same i) in
    let read = found_read k g.met.K.Kind.lawful c.version.result j.version c.number.result c.in-Ok.start j.gate j.count c.slot.result j.slots b c.in-Ok.payloads there r.base_count (g.K.Kind.state r.base.value) r.entries.items c.in-Ok-replay.ensures.read in
    let tail = found_tail k g.met.K.Kind.lawful c.version.result j.version c.number.result c.in-Ok.start j.gate j.count c.slot.result j.slots b c.in-Ok.payloads there in
    let version : c.version.result ≡ t.version = sym (c.begin.ensures.version ∙ c.in-Ok-replay.ensures.version) in
    subst (λ v. StandsFrom k v b (view t).history) version (record {
      payloads = c.in-Ok.payloads;
      tail = tail;
      read = read_as k g.met.K.Kind.lawful (slot_in_use (slots_in b)) c.version.result r.base_count c.in-Ok.payloads (g.K.Kind.state r.base.value) r.entries.items (view t).history history read;
    })

pub returns-in-Ok-replay-clause-whole : goal.returns-in-Ok-replay-clause-whole
returns-in-Ok-replay-clause-whole g c honest w held =
    let k = g.K.Kind.kind in
    let j = c.in-Ok.journal in
    let e = c.in-Ok.ensures in
    let f : Found k g.met.K.Kind.lawful c.version.result j.version c.number.result c.in-Ok.start j.gate j.count c.slot.result j.slots (g.D.Disk.state j.disk).content c.in-Ok.payloads = record {
      version_is = c.version.ensures.value;
      number_is = c.number.ensures;
      slot_is = c.slot.ensures;
      slots_are = e.slots honest;
      start_is = e.ground.2;
      gate_is = e.ground.3;
      is_tail = e.stands honest;
      counted = e.ground.4;
    } in
    let r = c.in-Ok-replay.reread in
    let b = (g.D.Disk.state c.args.disk).content in
    let t = c.begin.result in
    let there = found_in k g.met.K.Kind.lawful c.version.result j.version c.number.result c.in-Ok.start j.gate j.count c.slot.result j.slots (g.D.Disk.state j.disk).content b c.in-Ok.payloads (e.reads honest).content f in
    let same : t.found.items ++ t.added.items ≡ r.entries.items = none_more t.found.items t.added.items c.begin.ensures.opened.2 ∙ c.begin.ensures.found in
    let history : (view t).history ≡ k.history r.base_count (g.K.Kind.state r.base.value) r.entries.items = λ i. k.history (c.begin.ensures.base.0 i) (c.begin.ensures.base.1 i) (same i) in
    let l = g.met.K.Kind.lawful in
    let all : w.entries ++ [] ≡ w.entries = append-nil w.entries in
    let version : t.version ≡ w.version = c.begin.ensures.version ∙ c.in-Ok-replay.ensures.version ∙ found_version k l c.version.result j.version c.number.result c.in-Ok.start j.gate j.count c.slot.result j.slots b c.in-Ok.payloads there w.version w.start w.entries held in
    let is = found_end k l c.version.result j.version c.number.result c.in-Ok.start j.gate j.count c.slot.result j.slots b c.in-Ok.payloads there w.version r.base_count w.start (g.K.Kind.state r.base.value) w.entries r.entries.items held c.in-Ok-replay.ensures.read in
    let opened : opened_of t ≡ b = c.begin.ensures.opened.3 ∙ (e.reads honest).content in (
      (
        [],
        version,
        subst (λ (x : List g.row.K-Entry.Denot). HoldAll k w.version w.start (opened_of t) x) (sym all) (subst (λ (o : List ℕ). HoldAll k w.version w.start o w.entries) (sym opened) held),
      ),
      record {
        more = [];
        held = subst (λ (x : List g.row.K-Entry.Denot). HoldAll k w.version w.start b x) (sym all) held;
        end_of_them = subst (λ (x : List g.row.K-Entry.Denot). IsEndOf k w.start (view t).history x) (sym all) (subst (λ h. IsEndOf k w.start h w.entries) (sym history) is);
      },
    )

pub returns-in-Ok-replay-clause-without_slots : goal.returns-in-Ok-replay-clause-without_slots
returns-in-Ok-replay-clause-without_slots g c honest none =
    let k = g.K.Kind.kind in
    let l = g.met.K.Kind.lawful in
    let t = c.begin.result in
    let b = (g.D.Disk.state c.args.disk).content in
    let h = (view t).history in
    let list : k.entries h ≡ t.found.items = l.entries_are t.base_count (g.K.Kind.state t.base.value) (t.found.items ++ t.added.items) ∙ none_more t.found.items t.added.items c.begin.ensures.opened.2 in
    subst (λ (x : List g.row.K-Entry.Denot). HoldAll k t.version (k.empty t.version) b x) list (all_there k l t.version b h none (returns-in-Ok-replay-clause-stands g c honest))

pub returns-in-Ok-replay-clause-no_slots : goal.returns-in-Ok-replay-clause-no_slots
returns-in-Ok-replay-clause-no_slots g c none =
    let k = g.K.Kind.kind in
    let r = c.in-Ok-replay.reread in
    let base = none_in_use k g.met.K.Kind.lawful c.slot.result c.version.result r.base_count c.in-Ok.payloads (g.K.Kind.state r.base.value) c.in-Ok-replay.ensures.read.base none in
    ap (λ j. slot_in_use j.slots) c.begin.ensures.journal ∙ sym c.slot.ensures ∙ base

pub returns-in-Ok-clause-refused : goal.returns-in-Ok-clause-refused
returns-in-Ok-clause-refused g c honest =
    let k = g.K.Kind.kind in
    let j = c.in-Ok.journal in
    let e = c.in-Ok.ensures in
    let f : Found k g.met.K.Kind.lawful c.version.result j.version c.number.result c.in-Ok.start j.gate j.count c.slot.result j.slots (g.D.Disk.state j.disk).content c.in-Ok.payloads = record {
      version_is = c.version.ensures.value;
      number_is = c.number.ensures;
      slot_is = c.slot.ensures;
      slots_are = e.slots honest;
      start_is = e.ground.2;
      gate_is = e.ground.3;
      is_tail = e.stands honest;
      counted = e.ground.4;
    } in
    let b = (g.D.Disk.state c.args.disk).content in
    let there = found_in k g.met.K.Kind.lawful c.version.result j.version c.number.result c.in-Ok.start j.gate j.count c.slot.result j.slots (g.D.Disk.state j.disk).content b c.in-Ok.payloads (e.reads honest).content f in
    found_refused k g.met.K.Kind.lawful c.version.result j.version c.number.result c.in-Ok.start j.gate j.count c.slot.result j.slots b c.in-Ok.payloads there c.in-Err-replay.error c.in-Err-replay.ensures.stopped

pub returns-in-Ok-clause-whole : goal.returns-in-Ok-clause-whole
returns-in-Ok-clause-whole g c honest w held =
    let k = g.K.Kind.kind in
    let j = c.in-Ok.journal in
    let e = c.in-Ok.ensures in
    let f : Found k g.met.K.Kind.lawful c.version.result j.version c.number.result c.in-Ok.start j.gate j.count c.slot.result j.slots (g.D.Disk.state j.disk).content c.in-Ok.payloads = record {
      version_is = c.version.ensures.value;
      number_is = c.number.ensures;
      slot_is = c.slot.ensures;
      slots_are = e.slots honest;
      start_is = e.ground.2;
      gate_is = e.ground.3;
      is_tail = e.stands honest;
      counted = e.ground.4;
    } in
    let b = (g.D.Disk.state c.args.disk).content in
    let there = found_in k g.met.K.Kind.lawful c.version.result j.version c.number.result c.in-Ok.start j.gate j.count c.slot.result j.slots (g.D.Disk.state j.disk).content b c.in-Ok.payloads (e.reads honest).content f in
    found_outside k g.met.K.Kind.lawful c.version.result j.version c.number.result c.in-Ok.start j.gate j.count c.slot.result j.slots b c.in-Ok.payloads there w.version w.start w.entries c.in-Err-replay.error held c.in-Err-replay.ensures.stopped

pub returns-then-at-first_gate-clause-refused : goal.returns-then-at-first_gate-clause-refused
returns-then-at-first_gate-clause-refused g c honest =
    let w = c.in-Err in
    let refused = refused_as (g.D.Disk.state c.args.disk).content c.number.result w.salvaged.payloads w.error (mount.Damaged c.in-Damaged.at) c.in-Damaged.is (w.ensures.refused honest) in
    early_refused g.K.Kind.kind (g.D.Disk.state c.args.disk).content c.in-Damaged.at c.number.result w.salvaged.payloads c.number.ensures (omega (arith, c.if-at-first_gate.true, c.first_gate.ensures)) refused

pub returns-then-at-first_gate-clause-whole : goal.returns-then-at-first_gate-clause-whole
returns-then-at-first_gate-clause-whole g c honest w held =
    let r = c.in-Err in
    let refused = refused_as (g.D.Disk.state c.args.disk).content c.number.result r.salvaged.payloads r.error (mount.Damaged c.in-Damaged.at) c.in-Damaged.is (r.ensures.refused honest) in
    absurd (never_damaged g.K.Kind.kind g.met.K.Kind.lawful w.version c.number.result c.in-Damaged.at w.start (g.D.Disk.state c.args.disk).content w.entries r.salvaged.payloads c.number.ensures held refused)

pub returns-in-Damaged-clause-refused : goal.returns-in-Damaged-clause-refused
returns-in-Damaged-clause-refused g c honest =
    let w = c.in-Err in
    let at = c.in-Damaged.at in
    let late : 16 ≤ at = omega (arith, c.if-at-first_gate.false, c.first_gate.ensures) in
    let refused = refused_as (g.D.Disk.state c.args.disk).content c.number.result w.salvaged.payloads w.error (mount.Damaged at) c.in-Damaged.is (w.ensures.refused honest) in
    let said = w.ensures.version honest at c.in-Damaged.is late in
    late_refused g.K.Kind.kind (g.D.Disk.state c.args.disk).content at c.number.result w.salvaged.version w.salvaged.start w.salvaged.slots w.salvaged.payloads c.first_bad.result c.number.ensures late refused said.0 said.1 said.2 c.first_bad.ensures

pub returns-in-Damaged-clause-whole : goal.returns-in-Damaged-clause-whole
returns-in-Damaged-clause-whole g c honest w held =
    let r = c.in-Err in
    let refused = refused_as (g.D.Disk.state c.args.disk).content c.number.result r.salvaged.payloads r.error (mount.Damaged c.in-Damaged.at) c.in-Damaged.is (r.ensures.refused honest) in
    absurd (never_damaged g.K.Kind.kind g.met.K.Kind.lawful w.version c.number.result c.in-Damaged.at w.start (g.D.Disk.state c.args.disk).content w.entries r.salvaged.payloads c.number.ensures held refused)
