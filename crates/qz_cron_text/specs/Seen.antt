-- The pieces of a text as the code keeps them, and as the definitions have them.
use Rattle.std.specs.Prelude.{ℕ, ◌+◌, List, [], ◌∷◌, Option, Some, None, Result, Ok, Err, length, ◌<◌, IfSome}
use Rattle.std.specs.Option.{option_map}
use Rattle.qz_cron_text.specs.declared.errors.CronError.{CronError}
use Rattle.qz_cron_text.specs.declared.texts.Piece.{Piece}
use Rattle.qz_cron_text.specs.declared.texts.Found.{Found}
use Rattle.qz_cron_text.specs.declared.texts.Pieces.{Pieces}
use Rattle.qz_cron_text.specs.Texts.{Placed, Whole, fields_at}

abbrev pub placed_piece : Piece → Placed
placed_piece p = record { at = p.at; text = p.text.now }

-- the fields, of which this one is the first
abbrev pub listed : Option Found → List Placed
listed None = []
listed (Some found) = placed_piece found.piece ∷ fields_at found.at found.rest.now

abbrev pub whole_pieces : Pieces → Whole
whole_pieces p = record {
  seconds = placed_piece p.seconds;
  minutes = placed_piece p.minutes;
  hours = placed_piece p.hours;
  day = placed_piece p.day;
  months = placed_piece p.months;
  week = placed_piece p.week;
  years = option_map placed_piece p.years;
}

abbrev pub shown : Result Pieces CronError → Result Whole CronError
shown (Ok pieces) = Ok (whole_pieces pieces)
shown (Err e) = Err e

abbrev pub IsWithin : ℕ → Piece → Type 0
IsWithin end p = p.at + length p.text.now < end

-- each of the fields ends before `end`
pub record AreWithin (end : ℕ) (p : Pieces) : Type 0 where
  pub seconds : IsWithin end p.seconds
  pub minutes : IsWithin end p.minutes
  pub hours : IsWithin end p.hours
  pub day : IsWithin end p.day
  pub months : IsWithin end p.months
  pub week : IsWithin end p.week
  pub years : IfSome p.years (λ y. IsWithin end y)
