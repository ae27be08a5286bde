use Rattle.qz_model.specs.History.{replies_from}
use Rattle.qz_model.specs.Plan.{next_after}
use Rattle.qz_schedule_law.specs.Turns.{fired_times}
use Rattle.qz_schedule_law.proofs.Beginnings.{from_the_first}
use Rattle.qz_schedule_law.proofs.Histories.{gone_on, goes_on, later_stretch}
use Rattle.qz_schedule_law.proofs.Following.{first_times, follows}
use Rattle.qz_schedule_law.proofs.Turns.{turns-append}
use Rattle.qz_schedule_law.proofs.laws.triggers_fire_their_schedule.Goals as goal

pub returns-clause-step : goal.returns-clause-step
returns-clause-step c T U e r key t u valid way before after alone = let on = gone_on T U e r key t u valid way before after alone in (on.spec, on.turned)

pub returns-clause-history : goal.returns-clause-history
returns-clause-history c T es key t u along = goes_on T es key t u along.valid along.entries along.legal along.begins along.ends along.goes_on

pub returns-clause-any_moment : goal.returns-clause-any_moment
returns-clause-any_moment c T before es key t u valid good legal begins ends goes = later_stretch T before es key t u valid good legal begins ends goes

pub returns-clause-whole : goal.returns-clause-whole
returns-clause-whole c T es key t u rest along all =
    turns-append (next_after T t.spec) t.next (fired_times key (replies_from T es)) u.next rest _ (goes_on T es key t u along.valid along.entries along.legal along.begins along.ends along.goes_on).1 all

pub returns-clause-from_the_start : goal.returns-clause-from_the_start
returns-clause-from_the_start c T e es key t u by = (from_the_first T e es key t u by).1

pub returns-clause-prefix : goal.returns-clause-prefix
returns-clause-prefix c T e es key t u all by are = first_times T e es key t u all by are

pub returns-clause-everywhere : goal.returns-clause-everywhere
returns-clause-everywhere c T all valid good legal = follows T all valid good legal
