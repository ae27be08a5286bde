-- What a board has posted, as a list of posts that only grows, and what the writer's step adds to it.
use Rattle.std.specs.Prelude.{◌≡◌, ℕ, ◌+◌, ◌==◌, List, [], ◌∷◌, ◌++◌, length, true, MatchBool, Option, Some, None, IfSome, IsSome}
use Rattle.logbook.specs.Pages.{Cell, Step, View}
use Rattle.qz_board.specs.declared.glance.Glance.{Glance}
use Rattle.qz_board.specs.declared.posts.Post.{Post}

module _ {E G : Type 0} where
  abbrev pub post : G → List E → Post E G
  post basis entries = record { basis = basis; entries = entries }

  -- All entries that were posted, in order.
  abbrev pub entries_of : List (Post E G) → List E
  entries_of [] = []
  entries_of (p ∷ ps) = p.entries ++ entries_of ps

  -- The basis of the first post.
  abbrev pub basis_of : List (Post E G) → Option G
  basis_of [] = None
  basis_of (p ∷ ps) = Some p.basis

  -- The entries that were posted after those of the first post.
  abbrev pub later_of : List (Post E G) → List E
  later_of [] = []
  later_of (p ∷ ps) = entries_of ps

  -- How many entries there were with the first post, where a basis counts so many.
  abbrev pub first_count : (G → ℕ) → List (Post E G) → ℕ
  first_count before [] = 0
  first_count before (p ∷ ps) = before p.basis + length p.entries

  -- What holds between any two steps: there is a post, and the word says how many entries came after those of the first.
  pub record IsKept (cells : List Cell) (log : List (Post E G)) : Type 0 where
    pub begun : IsSome (basis_of log)
    pub cells_are : cells ≡ (length (later_of log), true) ∷ []

  -- Where the word was as expected, all that was asked for is posted now.
  abbrev pub Grows : Step (Post E G) → View (Post E G) ℕ → ℕ → View (Post E G) ℕ → Type 0
  Grows s v found w = MatchBool (found == s.old) (entries_of w.0 ≡ s.ask.entries) (Unit {0})

  -- The glance is that of these entries on this basis.
  abbrev pub Shows : (G → List E → Glance) → Option G → List E → Glance → Type 0
  Shows glance_of basis entries glance = IfSome basis (λ b. glance ≡ glance_of b entries)
