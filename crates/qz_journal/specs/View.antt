-- What a journal shows to those above it.
use Rattle.std.specs.Prelude.{ℕ, List, Option, vec_capacity}
use Rattle.qz_disk.specs.declared.disk.Disk.{Ghosts}
use Rattle.qz_journal.specs.declared.groups.Group.{Group}
use Rattle.qz_journal.specs.declared.journal.Journal.{Journal}
use Rattle.qz_journal.specs.declared.slots.Slots.{Slots}

-- the disk that it is on
abbrev pub disk_of : {D : Type 0} {g : Ghosts D} → Journal D g → D
disk_of j = j.disk

-- the version of its format
abbrev pub version_of : {D : Type 0} {g : Ghosts D} → Journal D g → ℕ
version_of j = j.version

-- of triggers or of states
abbrev pub kind_of : {D : Type 0} {g : Ghosts D} → Journal D g → ℕ
kind_of j = j.kind

-- the offset of the closed gate after the last payload
abbrev pub gate_of : {D : Type 0} {g : Ghosts D} → Journal D g → ℕ
gate_of j = j.gate

-- how many payloads come before the gate
abbrev pub count_of : {D : Type 0} {g : Ghosts D} → Journal D g → ℕ
count_of j = j.count

-- the gate's offset, while it is closed by a fault or a crash
abbrev pub closed_at : {D : Type 0} {g : Ghosts D} → Journal D g → Option ℕ
closed_at j = j.closed

-- the slots of its header
abbrev pub slots_of : {D : Type 0} {g : Ghosts D} → Journal D g → Slots
slots_of j = j.slots

-- the payloads of a group
abbrev pub payloads_of : Group → List (List ℕ)
payloads_of g = g.payloads.items

-- how many bytes of blocks, and of the gate after them, it has memory for
abbrev pub capacity_of : Group → ℕ
capacity_of g = vec_capacity g.bytes
