-- The head of a snapshot: the bytes of its first payload. Numbers are big-endian, and signed ones in two's complement.
use Rattle.std.specs.Prelude.{ℕ, ◌<◌, ◌^◌, List, ◌∷◌, ◌++◌, FitsSigned}
use Rattle.std.specs.Int.{w32, w64}
use Rattle.qz_values.specs.Fields.{number, integer}
use Rattle.qz_snapshot.specs.declared.heads.Head.{Head}
use Rattle.qz_snapshot.specs.declared.heads.Numbers.{Numbers}

-- the numbers of tables, of eight bytes each
abbrev pub number_bytes : Numbers → List ℕ
number_bytes n = number w64 n.next_entry ++ (number w64 n.next_epoch ++ (integer w64 n.threshold ++ (integer w64 n.last_moment ++ integer w64 n.horizon)))

-- F0, how many payloads and entries come before it and how many pieces follow, of four bytes each, and the numbers
abbrev pub head_bytes : Head → List ℕ
head_bytes h = 240 ∷ (number w32 h.payloads ++ (number w32 h.entries ++ (number w32 h.pieces ++ number_bytes h.numbers)))

-- Each number has the width that it is written in.
pub record HasWidths (h : Head) : Type 0 where
  pub payloads : h.payloads < 2 ^ 32
  pub entries : h.entries < 2 ^ 32
  pub pieces : h.pieces < 2 ^ 32
  pub next_entry : h.numbers.next_entry < 2 ^ 64
  pub next_epoch : h.numbers.next_epoch < 2 ^ 64
  pub threshold : FitsSigned w64 h.numbers.threshold
  pub last_moment : FitsSigned w64 h.numbers.last_moment
  pub horizon : FitsSigned w64 h.numbers.horizon
