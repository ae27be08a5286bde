-- Chains of calendars: a calendar, that below it, and so on. A trigger fires at no moment that one of its chain excludes.
use Rattle.std.specs.Prelude.{ℕ, zero, suc, List, [], ◌∷◌, Bool, true, false, Option, Some, None}
use Rattle.qz_types.specs.Rows.{CalendarData}
use Rattle.qz_types.specs.Words.{calendar_of}

-- the calendar of a name, if a name is given and a calendar of it is stored
abbrev pub calendar_named : List CalendarData → Option (List ℕ) → Option CalendarData
calendar_named calendars None = None
calendar_named calendars (Some name) = calendar_of name calendars

-- the chain from this calendar on, as far as it is this long
unfoldable pub chain_of : List CalendarData → ℕ → Option CalendarData → List CalendarData
chain_of calendars length None = []
chain_of calendars zero (Some c) = []
chain_of calendars (suc length) (Some c) = c ∷ chain_of calendars length (calendar_named calendars c.base)

-- the chain from this calendar on is no longer than this; so it is no circle
unfoldable pub ends_within : List CalendarData → ℕ → Option CalendarData → Bool
ends_within calendars length None = true
ends_within calendars zero (Some c) = false
ends_within calendars (suc length) (Some c) = ends_within calendars length (calendar_named calendars c.base)
