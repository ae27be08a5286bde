-- What a rule text is read as, by what is answered of its table.
use Rattle.std.proofs.Common.{◌≡◌, List, Option, Some, None, true, refl, sym, ap, ◌∙◌}
use Rattle.std.specs.Prelude.{Result, Ok, Err}
use Rattle.qz_civil.specs.declared.stretches.Stretch.{Stretch}
use Rattle.qz_civil.specs.declared.stretches.BadZone.{BadZone}
use Rattle.qz_civil.specs.Zones.{bad_zone}
use Rattle.qz_zone_rule.specs.Tables.{Expands}
use Rattle.qz_zone_rule.specs.declared.faults.RuleFault.TheVariants.{BadRule, Bad, NoMemory}
use Rattle.qz_job_json.specs.Members.{kept}
use Rattle.qz_job_json.specs.Zones.{is_zone}

-- a list without a fault is a zone's
pub of_zone : (stretches : List Stretch) → bad_zone stretches ≡ None → is_zone stretches ≡ true
of_zone stretches h = rw h refl

pub of_table : (stretches : List Stretch) (whole : Option (List Stretch)) → Expands (Ok stretches) whole → kept is_zone whole ≡ Some stretches
of_table stretches whole h = let zone = of_zone stretches h.1 in let is = h.0 in rw (is, zone) refl

pub of_bad_rule : (whole : Option (List Stretch)) → Expands (Err BadRule) whole → kept is_zone whole ≡ None
of_bad_rule whole h = rw h refl

pub of_bad : (fault : BadZone) (whole : Option (List Stretch)) → Expands (Err (Bad fault)) whole → kept is_zone whole ≡ None
of_bad fault None h = refl
of_bad fault (Some stretches) h = let bad = h.0 in rw bad refl

pub of_no_memory : (whole : Option (List Stretch)) → Expands (Err NoMemory) whole → (stretches : List Stretch) × (kept is_zone whole ≡ Some stretches)
of_no_memory None h = absurd (cc)
of_no_memory (Some stretches) h = let zone = of_zone stretches h.0 in (stretches, rw zone refl)

-- what is kept is a zone
pub kept_is_zone : (whole : Option (List Stretch)) (stretches : List Stretch) → kept is_zone whole ≡ Some stretches → bad_zone stretches ≡ None
kept_is_zone None stretches h = absurd (cc)
kept_is_zone (Some xs) stretches h = by (bad_zone xs) refl
  where
    by : (fault : Option BadZone) → bad_zone xs ≡ fault → bad_zone stretches ≡ None
    by None e = let zone = of_zone xs e in let same = rw zone at h in let is : xs ≡ stretches = cc in ap bad_zone (sym is) ∙ e
    by (Some fault) e = let bad = rw e at h in absurd (cc)

pub ruleset rule_tables = (of_table, of_bad_rule, of_bad, of_no_memory)
