-- A store that was just opened has no more entries than payloads.
use Rattle.std.proofs.Common.{◌^◌, ◌<◌, length, arith}
use Rattle.qz_stores.specs.Stores.{StoreState}
use Rattle.qz_stores.specs.Kinds.{StoreKind}
use Rattle.qz_stores.specs.Opening.{IsOpened}

module _ {H S E R : Type 0} (k : StoreKind H S E R) where
  pub opened_short : (s : StoreState H E) → IsOpened k s → s.payloads < 2 ^ 62 → length (k.entries s.history) < 2 ^ 62
  opened_short s opened few = let counted = opened.sound.counted opened.is_open in omega (arith, counted, few)
