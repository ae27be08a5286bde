use Rattle.std.proofs.Common.{◌∙◌, ap}
use Rattle.std.specs.Prelude.{◌||◌, ◌==◌}
use Rattle.qz_report.proofs.Escapes.{with_byte, escapes}
use Rattle.qz_report.proofs.names.escaped_bytes.Goals as goal

pub returns : goal.returns
returns c b small =
    escapes _ (λ k.
    with_byte _ _ 37 c.add-3.ensures.added c.add-3.ensures.others k
    ∙ ap (λ rest. (k == 37) || rest) (with_byte _ _ 47 c.add-2.ensures.added c.add-2.ensures.others k
    ∙ ap (λ rest. (k == 47) || rest) (with_byte _ _ 32 c.add.ensures.added c.add.ensures.others k)))
    b small
