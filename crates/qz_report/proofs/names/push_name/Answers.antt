use Rattle.std.proofs.Common.{arith}
use Rattle.std.proofs.lemmas.List.Elements.{All-from_get_or}
use Rattle.percent_encoding.proofs.PercentLemmas.{IsByte}
use Rattle.qz_report.proofs.Escapes.{same_text}
use Rattle.qz_report.proofs.names.push_name.Goals as goal

pub returns : goal.returns
returns c =
    let bytes = All-from_get_or IsByte c.args.name.now 0 (λ i within. omega (arith, c.type_inv.name i)) in
    rw (← same_text _ c.escaped_bytes.ensures c.args.name.now bytes, ← c.utf8_percent_encode.ensures.text) c.append_to.ensures.ok
