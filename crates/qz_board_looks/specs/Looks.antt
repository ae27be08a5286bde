-- Glances at one history that grows.
use Rattle.std.specs.Prelude.{⊤, ◌≡◌, List, [], ◌∷◌, ◌++◌, map}
use mathlib.Core.List.{IsPrefix}
use Rattle.qz_board.specs.declared.glance.Glance.{Glance}

module _ {E : Type 0} where
  -- the first of these histories, or this one where there are none
  abbrev pub first_or : List (List E) → List E → List E
  first_or [] last = last
  first_or (h ∷ hs) last = h

  -- each of these histories begins the next one, and the last of them begins this one
  abbrev pub Rise : List (List E) → List E → Type 0
  Rise [] last = ⊤
  Rise (h ∷ hs) last = IsPrefix h (first_or hs last) × Rise hs last

  module _ (glance_of : List E → Glance) (first : List E) where
    -- The glances are those of histories that go on from the first one, each of which begins the next one. The last of them begins
    -- what was seen.
    pub record AreLooks (glances : List Glance) (seen : List E) : Type 0 where
      pub histories : List (List E)
      pub glances_are : glances ≡ map glance_of histories
      pub rise : Rise (first ∷ histories) seen

    -- The glances are such, and the last of them is of the whole history.
    pub record EndWithAll (glances : List Glance) (whole : List E) : Type 0 where
      pub before : List Glance
      pub looks : AreLooks before whole
      pub glances_are : glances ≡ before ++ glance_of whole ∷ []
