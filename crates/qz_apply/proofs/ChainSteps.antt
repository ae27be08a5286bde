-- Chains of stored calendars, calendar by calendar.
use Rattle.std.proofs.Common.{◌≡◌, ◌∙◌, refl, sym, ap, ℕ, zero, suc, ◌-◌, ◌<◌, List, [], ◌∷◌, ◌++◌, map, Option, None, Some, arith, append_assoc, subst}
use Rattle.qz_civil.specs.declared.calendars.CalendarKind.{CalendarKind}
use Rattle.qz_civil.specs.declared.stretches.Stretch.{Stretch}
use Rattle.qz_calendar.specs.Chains.{ZonedCalendar}
use Rattle.qz_types.specs.Rows.{CalendarData, ZoneData}
use Rattle.qz_types.specs.Chains.{calendar_named, chain_of}
use Rattle.qz_model.specs.Plan.{stretches_named, zoned}

pub chain_none : (cs : List CalendarData) (limit : ℕ) → chain_of cs limit None ≡ []
unfolding chain_of
chain_none cs limit = refl

pub chain_zero : (cs : List CalendarData) (limit : ℕ) (c : Option CalendarData) → limit ≡ 0 → chain_of cs limit c ≡ []
unfolding chain_of
chain_zero cs limit None none = refl
chain_zero cs limit (Some c) none = rw none refl

chain_some : (cs : List CalendarData) (limit : ℕ) (c : CalendarData) → 0 < limit → chain_of cs limit (Some c) ≡ c ∷ chain_of cs (limit - 1) (calendar_named cs c.base)
unfolding chain_of
chain_some cs zero c some = absurd (omega arith)
chain_some cs (suc limit) c some = let less : suc limit - 1 ≡ limit = omega arith in rw less refl

abbrev at_zone : CalendarKind → List Stretch → ZonedCalendar
at_zone kind zone = record { kind = kind; zone = zone }

-- a calendar with its zone, and then those below it
pub push_step : (zs : List ZoneData) (cs : List CalendarData) (limit : ℕ) (c row : CalendarData) (zone : List Stretch) (name : Option (List ℕ)) (base : Option CalendarData) (old between new : List ZonedCalendar) → 0 < limit → c ≡ row
    → zone ≡ stretches_named zs c.zone → name ≡ c.base → base ≡ calendar_named cs name → between ≡ old ++ at_zone c.kind zone ∷ []
    → new ≡ between ++ map (zoned zs) (chain_of cs (limit - 1) base) → new ≡ old ++ map (zoned zs) (chain_of cs limit (Some row))
push_step zs cs limit c row zone name base old between new some seen shown named below one rest =
    let lower : base ≡ calendar_named cs c.base = below ∙ ap (calendar_named cs) named in
    let first : between ≡ old ++ zoned zs c ∷ [] = one ∙ ap (λ (z : List Stretch). old ++ at_zone c.kind z ∷ []) shown in
    let whole : new ≡ old ++ map (zoned zs) (chain_of cs limit (Some c)) =
    rest ∙ ap (λ (b : Option CalendarData). between ++ map (zoned zs) (chain_of cs (limit - 1) b)) lower
    ∙ ap (λ front. front ++ map (zoned zs) (chain_of cs (limit - 1) (calendar_named cs c.base))) first
    ∙ append_assoc old (zoned zs c ∷ []) (map (zoned zs) (chain_of cs (limit - 1) (calendar_named cs c.base)))
    ∙ ap (λ chain. old ++ map (zoned zs) chain) (sym (chain_some cs limit c some)) in
    subst (λ (r : CalendarData). new ≡ old ++ map (zoned zs) (chain_of cs limit (Some r))) seen whole
