use Rattle.std.proofs.Common.{◌≡◌, ℤ, w64, to_z, of_z, ap, subst, arith}
use Rattle.std.proofs.lemmas.Int.{to_z-of_z}
use Rattle.std.proofs.lemmas.Grind.{common_steps}
use Rattle.qz_tables.specs.Contents.{TablesData}
use Rattle.qz_schedule.proofs.Steps.{job_deleted}
use Rattle.qz_schedule.proofs.jobs.delete_job.Goals as goal

pub returns : goal.returns
returns c =
    let read : to_z w64 (of_z w64 c.args.moment) ≡ c.args.moment = grind (arith, common_steps, to_z-of_z) in
    let moment : c.set_last_moment.new.self.tables ≡ record c.remove_job-removed.new.self.tables { last_moment = c.args.moment } =
    subst (λ (m : ℤ). c.set_last_moment.new.self.tables ≡ record c.remove_job-removed.new.self.tables { last_moment = m }) read (ap (λ (d : TablesData). d.tables) c.set_last_moment.ensures) in
    job_deleted c.args.tables.now.tables c.remove_acquired_of_job.new.self.tables c.remove_job_triggers-triggers.new.self.tables c.remove_job-removed.new.self.tables c.set_last_moment.new.self.tables
    c.args.moment c.args.key.now c.remove_job_triggers-triggers.result c.requires c.remove_acquired_of_job.ensures.tables c.remove_job_triggers-triggers.ensures.tables c.remove_job-removed.ensures.tables
    moment c.remove_job_triggers-triggers.ensures.count
