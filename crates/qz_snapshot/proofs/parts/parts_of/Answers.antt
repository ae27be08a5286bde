use Rattle.std.proofs.Common.{◌≡◌, List, length, refl, sym, ap, arith}
use Rattle.std.proofs.lemmas.Grind.{common_steps}
use Rattle.qz_pieces.proofs.FirstBad.{none_is, some_is}
use Rattle.qz_pieces.specs.Pieces.{RowBytes}
use Rattle.qz_snapshot.proofs.KindByKind.{with0, with1, with2, with3, with4, with5, with6, with7, after0, after1, after2, after3, after4, after5, after6, after7, not_here}
use Rattle.qz_snapshot.proofs.parts.parts_of.Goals as goal

pub returns-in_default-clause-none : goal.returns-in_default-clause-none
returns-in_default-clause-none c T a =
    not_here _ _ _ _ _ _ _ refl (with0 a) (none_is _ _ c.in_default.is c.in_ok-jobs.ensures.none)

pub returns-in_default-2-clause-none : goal.returns-in_default-2-clause-none
returns-in_default-2-clause-none c T a =
    let b0 = some_is c.in_ok-jobs.field-0 (c.in-Some.jobs, c.in-Some.rest) _ c.in-Some.is c.in_ok-jobs.ensures.found in
    let e1 = after0 a _ _ b0 in
    not_here _ _ _ _ _ _ _ e1 (with1 a) (none_is _ _ c.in_default-2.is c.in_ok-triggers.ensures.none)

pub returns-in_default-3-clause-none : goal.returns-in_default-3-clause-none
returns-in_default-3-clause-none c T a =
    let b0 = some_is c.in_ok-jobs.field-0 (c.in-Some.jobs, c.in-Some.rest) _ c.in-Some.is c.in_ok-jobs.ensures.found in
    let e1 = after0 a _ _ b0 in
    let b1 = some_is c.in_ok-triggers.field-0 (c.in-Some-2.triggers, c.in-Some-2.rest) _ c.in-Some-2.is c.in_ok-triggers.ensures.found in
    let e2 = after1 a _ _ _ e1 b1 in
    not_here _ _ _ _ _ _ _ e2 (with2 a) (none_is _ _ c.in_default-3.is c.in_ok-calendars.ensures.none)

pub returns-in_default-4-clause-none : goal.returns-in_default-4-clause-none
returns-in_default-4-clause-none c T a =
    let b0 = some_is c.in_ok-jobs.field-0 (c.in-Some.jobs, c.in-Some.rest) _ c.in-Some.is c.in_ok-jobs.ensures.found in
    let e1 = after0 a _ _ b0 in
    let b1 = some_is c.in_ok-triggers.field-0 (c.in-Some-2.triggers, c.in-Some-2.rest) _ c.in-Some-2.is c.in_ok-triggers.ensures.found in
    let e2 = after1 a _ _ _ e1 b1 in
    let b2 = some_is c.in_ok-calendars.field-0 (c.in-Some-3.calendars, c.in-Some-3.rest) _ c.in-Some-3.is c.in_ok-calendars.ensures.found in
    let e3 = after2 a _ _ _ e2 b2 in
    not_here _ _ _ _ _ _ _ e3 (with3 a) (none_is _ _ c.in_default-4.is c.in_ok-zones.ensures.none)

pub returns-in_default-5-clause-none : goal.returns-in_default-5-clause-none
returns-in_default-5-clause-none c T a =
    let b0 = some_is c.in_ok-jobs.field-0 (c.in-Some.jobs, c.in-Some.rest) _ c.in-Some.is c.in_ok-jobs.ensures.found in
    let e1 = after0 a _ _ b0 in
    let b1 = some_is c.in_ok-triggers.field-0 (c.in-Some-2.triggers, c.in-Some-2.rest) _ c.in-Some-2.is c.in_ok-triggers.ensures.found in
    let e2 = after1 a _ _ _ e1 b1 in
    let b2 = some_is c.in_ok-calendars.field-0 (c.in-Some-3.calendars, c.in-Some-3.rest) _ c.in-Some-3.is c.in_ok-calendars.ensures.found in
    let e3 = after2 a _ _ _ e2 b2 in
    let b3 = some_is c.in_ok-zones.field-0 (c.in-Some-4.zones, c.in-Some-4.rest) _ c.in-Some-4.is c.in_ok-zones.ensures.found in
    let e4 = after3 a _ _ _ e3 b3 in
    not_here _ _ _ _ _ _ _ e4 (with4 a) (none_is _ _ c.in_default-5.is c.in_ok-paused_groups.ensures.none)

pub returns-in_default-6-clause-none : goal.returns-in_default-6-clause-none
returns-in_default-6-clause-none c T a =
    let b0 = some_is c.in_ok-jobs.field-0 (c.in-Some.jobs, c.in-Some.rest) _ c.in-Some.is c.in_ok-jobs.ensures.found in
    let e1 = after0 a _ _ b0 in
    let b1 = some_is c.in_ok-triggers.field-0 (c.in-Some-2.triggers, c.in-Some-2.rest) _ c.in-Some-2.is c.in_ok-triggers.ensures.found in
    let e2 = after1 a _ _ _ e1 b1 in
    let b2 = some_is c.in_ok-calendars.field-0 (c.in-Some-3.calendars, c.in-Some-3.rest) _ c.in-Some-3.is c.in_ok-calendars.ensures.found in
    let e3 = after2 a _ _ _ e2 b2 in
    let b3 = some_is c.in_ok-zones.field-0 (c.in-Some-4.zones, c.in-Some-4.rest) _ c.in-Some-4.is c.in_ok-zones.ensures.found in
    let e4 = after3 a _ _ _ e3 b3 in
    let b4 = some_is c.in_ok-paused_groups.field-0 (c.in-Some-5.paused_groups, c.in-Some-5.rest) _ c.in-Some-5.is c.in_ok-paused_groups.ensures.found in
    let e5 = after4 a _ _ _ e4 b4 in
    not_here _ _ _ _ _ _ _ e5 (with5 a) (none_is _ _ c.in_default-6.is c.in_ok-members.ensures.none)

pub returns-in_default-7-clause-none : goal.returns-in_default-7-clause-none
returns-in_default-7-clause-none c T a =
    let b0 = some_is c.in_ok-jobs.field-0 (c.in-Some.jobs, c.in-Some.rest) _ c.in-Some.is c.in_ok-jobs.ensures.found in
    let e1 = after0 a _ _ b0 in
    let b1 = some_is c.in_ok-triggers.field-0 (c.in-Some-2.triggers, c.in-Some-2.rest) _ c.in-Some-2.is c.in_ok-triggers.ensures.found in
    let e2 = after1 a _ _ _ e1 b1 in
    let b2 = some_is c.in_ok-calendars.field-0 (c.in-Some-3.calendars, c.in-Some-3.rest) _ c.in-Some-3.is c.in_ok-calendars.ensures.found in
    let e3 = after2 a _ _ _ e2 b2 in
    let b3 = some_is c.in_ok-zones.field-0 (c.in-Some-4.zones, c.in-Some-4.rest) _ c.in-Some-4.is c.in_ok-zones.ensures.found in
    let e4 = after3 a _ _ _ e3 b3 in
    let b4 = some_is c.in_ok-paused_groups.field-0 (c.in-Some-5.paused_groups, c.in-Some-5.rest) _ c.in-Some-5.is c.in_ok-paused_groups.ensures.found in
    let e5 = after4 a _ _ _ e4 b4 in
    let b5 = some_is c.in_ok-members.field-0 (c.in-Some-6.members, c.in-Some-6.rest) _ c.in-Some-6.is c.in_ok-members.ensures.found in
    let e6 = after5 a _ _ _ e5 b5 in
    not_here _ _ _ _ _ _ _ e6 (with6 a) (none_is _ _ c.in_default-7.is c.in_ok-fired.ensures.none)

pub returns-in_default-8-clause-none : goal.returns-in_default-8-clause-none
returns-in_default-8-clause-none c T a =
    let b0 = some_is c.in_ok-jobs.field-0 (c.in-Some.jobs, c.in-Some.rest) _ c.in-Some.is c.in_ok-jobs.ensures.found in
    let e1 = after0 a _ _ b0 in
    let b1 = some_is c.in_ok-triggers.field-0 (c.in-Some-2.triggers, c.in-Some-2.rest) _ c.in-Some-2.is c.in_ok-triggers.ensures.found in
    let e2 = after1 a _ _ _ e1 b1 in
    let b2 = some_is c.in_ok-calendars.field-0 (c.in-Some-3.calendars, c.in-Some-3.rest) _ c.in-Some-3.is c.in_ok-calendars.ensures.found in
    let e3 = after2 a _ _ _ e2 b2 in
    let b3 = some_is c.in_ok-zones.field-0 (c.in-Some-4.zones, c.in-Some-4.rest) _ c.in-Some-4.is c.in_ok-zones.ensures.found in
    let e4 = after3 a _ _ _ e3 b3 in
    let b4 = some_is c.in_ok-paused_groups.field-0 (c.in-Some-5.paused_groups, c.in-Some-5.rest) _ c.in-Some-5.is c.in_ok-paused_groups.ensures.found in
    let e5 = after4 a _ _ _ e4 b4 in
    let b5 = some_is c.in_ok-members.field-0 (c.in-Some-6.members, c.in-Some-6.rest) _ c.in-Some-6.is c.in_ok-members.ensures.found in
    let e6 = after5 a _ _ _ e5 b5 in
    let b6 = some_is c.in_ok-fired.field-0 (c.in-Some-7.fired, c.in-Some-7.rest) _ c.in-Some-7.is c.in_ok-fired.ensures.found in
    let e7 = after6 a _ _ _ e6 b6 in
    not_here _ _ _ _ _ _ _ e7 (with7 a) (none_is _ _ c.in_default-8.is c.in_ok-paused_job_groups.ensures.none)

pub returns-then-not-is_empty-clause-none : goal.returns-then-not-is_empty-clause-none
returns-then-not-is_empty-clause-none c T a =
    let b0 = some_is c.in_ok-jobs.field-0 (c.in-Some.jobs, c.in-Some.rest) _ c.in-Some.is c.in_ok-jobs.ensures.found in
    let e1 = after0 a _ _ b0 in
    let b1 = some_is c.in_ok-triggers.field-0 (c.in-Some-2.triggers, c.in-Some-2.rest) _ c.in-Some-2.is c.in_ok-triggers.ensures.found in
    let e2 = after1 a _ _ _ e1 b1 in
    let b2 = some_is c.in_ok-calendars.field-0 (c.in-Some-3.calendars, c.in-Some-3.rest) _ c.in-Some-3.is c.in_ok-calendars.ensures.found in
    let e3 = after2 a _ _ _ e2 b2 in
    let b3 = some_is c.in_ok-zones.field-0 (c.in-Some-4.zones, c.in-Some-4.rest) _ c.in-Some-4.is c.in_ok-zones.ensures.found in
    let e4 = after3 a _ _ _ e3 b3 in
    let b4 = some_is c.in_ok-paused_groups.field-0 (c.in-Some-5.paused_groups, c.in-Some-5.rest) _ c.in-Some-5.is c.in_ok-paused_groups.ensures.found in
    let e5 = after4 a _ _ _ e4 b4 in
    let b5 = some_is c.in_ok-members.field-0 (c.in-Some-6.members, c.in-Some-6.rest) _ c.in-Some-6.is c.in_ok-members.ensures.found in
    let e6 = after5 a _ _ _ e5 b5 in
    let b6 = some_is c.in_ok-fired.field-0 (c.in-Some-7.fired, c.in-Some-7.rest) _ c.in-Some-7.is c.in_ok-fired.ensures.found in
    let e7 = after6 a _ _ _ e6 b6 in
    let b7 = some_is c.in_ok-paused_job_groups.field-0 (c.in-Some-8.paused_job_groups, c.in-Some-8.rest) _ c.in-Some-8.is c.in_ok-paused_job_groups.ensures.found in
    let e8 = after7 a _ _ _ e7 b7 in
    let none : length c.in-Some-8.rest.now ≡ 0 = sym (ap (λ (l : List RowBytes). length l) e8) in
    absurd (grind (arith, common_steps))
