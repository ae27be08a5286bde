use Rattle.std.proofs.Common.{◌∙◌, refl}
use Rattle.qz_top.proofs.ClientLaws.{of_client}
use Rattle.qz_top.proofs.MomentLaws.{Shows-more, Shows-less}
use Rattle.qz_top.proofs.StopLaws.{at_not_ok}
use Rattle.qz_top.proofs.load_on_disk.do_document.Goals as goal

pub do_commands-requires : goal.do_commands-requires
do_commands-requires g c = of_client _ c.requires

pub returns-in-Ok-clause-few : goal.returns-in-Ok-clause-few
returns-in-Ok-clause-few g c is not_own = c.end_lines.ensures.few is (c.in-Ok.ensures.shows.own ∙ not_own)

pub returns-in-Ok-clause-shows : goal.returns-in-Ok-clause-shows
returns-in-Ok-clause-shows g c = Shows-more _ _ _ _ (Shows-less _ _ _ _ c.in-Ok.ensures.shows (λ is. refl)) c.end_lines.ensures.shows

pub returns-in-Err-clause-few : goal.returns-in-Err-clause-few
returns-in-Err-clause-few g c = rw c.status_at.ensures.value (λ is. absurd (at_not_ok 0 c.in-Err.end is))
