use Rattle.std.proofs.Common.{◌≡◌, ℤ, w64, to_z, of_z, ap, subst, arith}
use Rattle.std.proofs.lemmas.Int.{to_z-of_z}
use Rattle.std.proofs.lemmas.Grind.{common_steps}
use Rattle.qz_civil.specs.declared.limits.TheConstants.{LAST}
use Rattle.qz_tables.specs.Contents.{TablesData}
use Rattle.qz_schedule.proofs.Upgrades.{upgrade_done}
use Rattle.qz_schedule.proofs.upgrading.upgrade.Goals as goal

pub returns : goal.returns
returns c =
    let read : to_z w64 (of_z w64 c.args.moment) ≡ c.args.moment = grind (arith, common_steps, to_z-of_z) in
    let horizon : c.set_horizon.new.self.tables ≡ record c.change_years.new.self.tables { horizon = LAST } = ap (λ (d : TablesData). d.tables) c.set_horizon.ensures in
    let moment : c.set_last_moment.new.self.tables ≡ record c.set_horizon.new.self.tables { last_moment = c.args.moment } =
    subst (λ (m : ℤ). c.set_last_moment.new.self.tables ≡ record c.set_horizon.new.self.tables { last_moment = m }) read (ap (λ (d : TablesData). d.tables) c.set_last_moment.ensures) in
    upgrade_done c.all_years.result c.all_years.ensures.old c.all_years.ensures.new c.args.tables.now.tables c.change_years.new.self.tables c.set_horizon.new.self.tables c.set_last_moment.new.self.tables
    c.args.moment c.requires c.change_years.ensures.tables horizon moment
