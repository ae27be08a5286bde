use Rattle.std.proofs.Common.{◌≡◌, w64, to_z, of_z, arith}
use Rattle.std.proofs.lemmas.Grind.{common_steps}
use Rattle.std.proofs.lemmas.Int.{to_z-of_z}
use Rattle.qz_trigger_store.proofs.Kept.{history_valid}
use Rattle.qz_top.proofs.MigratingLaws.{upgrades_by, upgrade_rose, disk_stays}
use Rattle.qz_top.proofs.migrating.upgrade.Goals as goal

pub returns-clause-done : goal.returns-clause-done
returns-clause-done g c =
    let store = c.args.store.now in
    let submit = c.submit-answer.ensures in
    let reading : to_z w64 (of_z w64 c.now.result) ≡ c.now.result = grind (arith, common_steps, to_z-of_z) in
    let one = rw (c.upgrade_entry.ensures, reading) at submit.one in
    (c.now.result, c.now.ensures, upgrades_by store c.submit-answer.new.self _ _ _ _ _ (history_valid store) c.requires one submit.unchanged c.say.ensures.said)

pub returns-clause-unless_changed : goal.returns-clause-unless_changed
returns-clause-unless_changed g c same =
    let submit = c.submit-answer.ensures in
    disk_stays c.args.store.now c.submit-answer.new.self _ _ c.requires submit.one submit.unchanged same

pub returns-clause-disk : goal.returns-clause-disk
returns-clause-disk g c is =
    let store = c.args.store.now in
    let submit = c.submit-answer.ensures in
    let one = rw c.upgrade_entry.ensures at submit.one in
    upgrade_rose _ _ _ _ _ _ (upgrades_by store c.submit-answer.new.self _ _ _ _ _ (history_valid store) c.requires one submit.unchanged c.say.ensures.said) is
