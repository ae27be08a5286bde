use Rattle.std.proofs.Common.{◌≡◌, refl, w64, to_z, of_z, arith}
use Rattle.std.proofs.lemmas.Grind.{common_steps}
use Rattle.std.proofs.lemmas.Int.{ints, to_z-of_z}
use Rattle.qz_top.proofs.AskedLaws.{words_at, done_at, uses_at, caused_at, run_words, own_words, own_disk, script_words, times_words, times_disk, init_words, init_read, init_disk}
use Rattle.qz_top.proofs.FollowingLaws.{follow_words}
use Rattle.qz_top.proofs.GeneratingLaws.{gen_words}
use Rattle.qz_top.proofs.LoadLaws.{load_words, list_words}
use Rattle.qz_top.proofs.MigratingLaws.{migrate_words}
use Rattle.qz_top.proofs.commands.do_as_asked.Goals as goal

pub tell_times-requires-clause-low : goal.tell_times-requires-clause-low
tell_times-requires-clause-low g c =
    let valid = rw c.in-Times.is at c.requires in
    omega (arith, ints, valid.0)

pub tell_times-requires-clause-high : goal.tell_times-requires-clause-high
tell_times-requires-clause-high g c =
    let valid = rw c.in-Times.is at c.requires in
    let same : to_z w64 (of_z w64 c.in-Times.after) ≡ c.in-Times.after = grind (arith, common_steps, to_z-of_z) in
    rw same valid.1

pub run_on_disk-requires : goal.run_on_disk-requires
run_on_disk-requires g c =
    let valid = rw c.in-Run.is at c.requires in
    let same_from : to_z w64 (of_z w64 c.in-Run.from) ≡ c.in-Run.from = grind (arith, common_steps, to_z-of_z) in
    let same_until : to_z w64 (of_z w64 c.in-Run.until) ≡ c.in-Run.until = grind (arith, common_steps, to_z-of_z) in
    rw (same_from, same_until) (record {
      some = valid.0;
      few = valid.1;
      from = record { low = valid.2; high = omega (arith, ints, valid.3, valid.4) };
      until = record { low = omega (arith, ints, valid.2, valid.3); high = valid.4 };
    })

pub gen_on_disk-requires-clause-some : goal.gen_on_disk-requires-clause-some
gen_on_disk-requires-clause-some g c = let valid = rw c.in-Gen.is at c.requires in valid.2

pub gen_on_disk-requires-clause-few : goal.gen_on_disk-requires-clause-few
gen_on_disk-requires-clause-few g c = let valid = rw c.in-Gen.is at c.requires in valid.3

pub returns-in-Own-clause-done : goal.returns-in-Own-clause-done
returns-in-Own-clause-done g c =
    let own = c.own_script.ensures in
    done_at _ _ _ _ _ _ _ _ _ (words_at _ _ c.in-Own.is)
    (record { ran = own.done; disks = record { triggers_stay = own.disks.0; states_stay = own.disks.1 } })

pub returns-in-Init-clause-done : goal.returns-in-Init-clause-done
returns-in-Init-clause-done g c =
    let made = c.make_stores.ensures in
    done_at _ _ _ _ _ _ _ _ _ (words_at _ _ c.in-Init.is)
    (record { made = made.made; keeps = made.keeps; says = made.written; no_trail = made.trail; not_read = refl; not_asked = refl })

pub returns-in-Script-clause-done : goal.returns-in-Script-clause-done
returns-in-Script-clause-done g c =
    done_at _ _ _ _ _ _ _ _ _ (words_at _ _ c.in-Script.is)
    c.script_on_disk.ensures.done

pub returns-in-Times-clause-done : goal.returns-in-Times-clause-done
returns-in-Times-clause-done g c =
    let same : to_z w64 (of_z w64 c.in-Times.after) ≡ c.in-Times.after = grind (arith, common_steps, to_z-of_z) in
    let told = c.tell_times.ensures in
    done_at _ _ _ _ _ _ _ _ _ (words_at _ _ c.in-Times.is)
    (record { told = rw same at told.done; no_trail = told.trail; not_asked = refl; disks = record { triggers_stay = told.disks.0; states_stay = told.disks.1 } })

pub returns-in-Own-clause-cause : goal.returns-in-Own-clause-cause
returns-in-Own-clause-cause g c =
    let own = c.own_script.ensures in
    caused_at _ _ _ _ _ (words_at _ _ c.in-Own.is) (λ fault is. absurd (own_words _ _ _ _ fault own.done is)) own.read own.write
    (λ is. absurd (own_disk _ _ _ _ own.done is))

pub returns-in-Init-clause-cause : goal.returns-in-Init-clause-cause
returns-in-Init-clause-cause g c =
    let made = c.make_stores.ensures in
    caused_at _ _ _ _ _ (words_at _ _ c.in-Init.is) (λ fault is. absurd (init_words g.D.Disk _ _ _ _ _ made.made fault is))
    (λ is. absurd (init_read g.D.Disk _ _ _ _ _ made.made is)) made.write (init_disk g.D.Disk _ _ _ _ _ made.made)

pub returns-in-Script-clause-cause : goal.returns-in-Script-clause-cause
returns-in-Script-clause-cause g c =
    let script = c.script_on_disk.ensures in
    caused_at _ _ _ _ _ (words_at _ _ c.in-Script.is) (λ fault is. absurd (script_words _ _ _ _ _ fault script.done is)) script.read script.write script.disk

pub returns-in-Times-clause-cause : goal.returns-in-Times-clause-cause
returns-in-Times-clause-cause g c =
    let told = c.tell_times.ensures in
    caused_at _ _ _ _ _ (words_at _ _ c.in-Times.is) (λ fault is. absurd (times_words _ fault told.called is)) told.read told.write
    (λ is. absurd (times_disk _ told.called is))

pub returns-in-Load-clause-done : goal.returns-in-Load-clause-done
returns-in-Load-clause-done g c =
    done_at _ _ _ _ _ _ _ _ _ (words_at _ _ c.in-Load.is)
    c.load_on_disk.ensures.done

pub returns-in-Load-clause-cause : goal.returns-in-Load-clause-cause
returns-in-Load-clause-cause g c =
    let load = c.load_on_disk.ensures in
    caused_at _ _ _ _ _ (words_at _ _ c.in-Load.is) (λ fault is. absurd (load_words _ _ _ _ _ fault load.done is)) load.read load.write load.disk

pub returns-in-List-clause-done : goal.returns-in-List-clause-done
returns-in-List-clause-done g c =
    done_at _ _ _ _ _ _ _ _ _ (words_at _ _ c.in-List.is)
    (record { ran = c.list_on_disk.ensures.done; not_read = refl; not_asked = refl })

pub returns-in-List-clause-cause : goal.returns-in-List-clause-cause
returns-in-List-clause-cause g c =
    let list = c.list_on_disk.ensures in
    caused_at _ _ _ _ _ (words_at _ _ c.in-List.is) (λ fault is. absurd (list_words _ _ _ _ _ fault list.done is)) (λ is. absurd (list.read is)) list.write list.disk

pub returns-in-Migrate-clause-done : goal.returns-in-Migrate-clause-done
returns-in-Migrate-clause-done g c =
    done_at _ _ _ _ _ _ _ _ _ (words_at _ _ c.in-Migrate.is)
    (record { ran = c.migrate.ensures.done; not_read = refl })

pub returns-in-Migrate-clause-cause : goal.returns-in-Migrate-clause-cause
returns-in-Migrate-clause-cause g c =
    let ran = c.migrate.ensures in
    caused_at _ _ _ _ _ (words_at _ _ c.in-Migrate.is) (λ fault is. absurd (migrate_words _ _ _ _ _ _ _ fault ran.done is))
    (λ is. absurd (ran.read is)) ran.write ran.disk

pub returns-in-Follow-clause-done : goal.returns-in-Follow-clause-done
returns-in-Follow-clause-done g c =
    done_at _ _ _ _ _ _ _ _ _ (words_at _ _ c.in-Follow.is)
    (record { ran = c.follow.ensures.done; not_asked = refl })

pub returns-in-Follow-clause-cause : goal.returns-in-Follow-clause-cause
returns-in-Follow-clause-cause g c =
    let ran = c.follow.ensures in
    caused_at _ _ _ _ _ (words_at _ _ c.in-Follow.is) (λ fault is. absurd (follow_words _ _ _ _ _ _ fault ran.done is))
    ran.read ran.write ran.disk

pub returns-in-Follow-clause-jobs : goal.returns-in-Follow-clause-jobs
returns-in-Follow-clause-jobs g c = uses_at _ _ _ _ (words_at _ _ c.in-Follow.is) refl

pub returns-in-Follow-clause-handed : goal.returns-in-Follow-clause-handed
returns-in-Follow-clause-handed g c = c.follow.ensures.handed

pub returns-in-Compact-clause-done : goal.returns-in-Compact-clause-done
returns-in-Compact-clause-done g c =
    done_at _ _ _ _ _ _ _ _ _ (words_at _ _ c.in-Compact.is)
    (record { ran = c.follow-in-Compact.ensures.done; not_asked = refl })

pub returns-in-Compact-clause-cause : goal.returns-in-Compact-clause-cause
returns-in-Compact-clause-cause g c =
    let ran = c.follow-in-Compact.ensures in
    caused_at _ _ _ _ _ (words_at _ _ c.in-Compact.is) (λ fault is. absurd (follow_words _ _ _ _ _ _ fault ran.done is))
    ran.read ran.write ran.disk

pub returns-in-Compact-clause-jobs : goal.returns-in-Compact-clause-jobs
returns-in-Compact-clause-jobs g c = uses_at _ _ _ _ (words_at _ _ c.in-Compact.is) refl

pub returns-in-Compact-clause-handed : goal.returns-in-Compact-clause-handed
returns-in-Compact-clause-handed g c = c.follow-in-Compact.ensures.handed

pub returns-in-Migrate-clause-jobs : goal.returns-in-Migrate-clause-jobs
returns-in-Migrate-clause-jobs g c = uses_at _ _ _ _ (words_at _ _ c.in-Migrate.is) refl

pub returns-in-Migrate-clause-handed : goal.returns-in-Migrate-clause-handed
returns-in-Migrate-clause-handed g c = c.migrate.ensures.handed

pub returns-in-Run-clause-done : goal.returns-in-Run-clause-done
returns-in-Run-clause-done g c =
    let same_from : to_z w64 (of_z w64 c.in-Run.from) ≡ c.in-Run.from = grind (arith, common_steps, to_z-of_z) in
    let same_until : to_z w64 (of_z w64 c.in-Run.until) ≡ c.in-Run.until = grind (arith, common_steps, to_z-of_z) in
    done_at _ _ _ _ _ _ _ _ _ (words_at _ _ c.in-Run.is)
    (record { ran = rw (same_from, same_until) at c.run_on_disk.ensures.done; not_read = refl; not_asked = refl })

pub returns-in-Gen-clause-done : goal.returns-in-Gen-clause-done
returns-in-Gen-clause-done g c =
    done_at _ _ _ _ _ _ _ _ _ (words_at _ _ c.in-Gen.is)
    (record { ran = c.gen_on_disk.ensures.done; not_read = refl; not_asked = refl })

pub returns-in-Run-clause-cause : goal.returns-in-Run-clause-cause
returns-in-Run-clause-cause g c =
    let run = c.run_on_disk.ensures in
    caused_at _ _ _ _ _ (words_at _ _ c.in-Run.is) (λ fault is. absurd (run_words _ _ _ _ _ _ _ _ fault run.done is)) (λ is. absurd (run.read is)) run.write run.disk

pub returns-in-Gen-clause-cause : goal.returns-in-Gen-clause-cause
returns-in-Gen-clause-cause g c =
    let gen = c.gen_on_disk.ensures in
    caused_at _ _ _ _ _ (words_at _ _ c.in-Gen.is) (λ fault is. absurd (gen_words _ _ _ _ _ _ _ _ fault gen.done is)) (λ is. absurd (gen.read is)) gen.write gen.disk

pub returns-in-Own-clause-jobs : goal.returns-in-Own-clause-jobs
returns-in-Own-clause-jobs g c = uses_at _ _ _ _ (words_at _ _ c.in-Own.is) refl

pub returns-in-Init-clause-jobs : goal.returns-in-Init-clause-jobs
returns-in-Init-clause-jobs g c = uses_at _ _ _ _ (words_at _ _ c.in-Init.is) refl

pub returns-in-Script-clause-jobs : goal.returns-in-Script-clause-jobs
returns-in-Script-clause-jobs g c = uses_at _ _ _ _ (words_at _ _ c.in-Script.is) refl

pub returns-in-Times-clause-jobs : goal.returns-in-Times-clause-jobs
returns-in-Times-clause-jobs g c = uses_at _ _ _ _ (words_at _ _ c.in-Times.is) refl

pub returns-in-Load-clause-jobs : goal.returns-in-Load-clause-jobs
returns-in-Load-clause-jobs g c = uses_at _ _ _ _ (words_at _ _ c.in-Load.is) refl

pub returns-in-List-clause-jobs : goal.returns-in-List-clause-jobs
returns-in-List-clause-jobs g c = uses_at _ _ _ _ (words_at _ _ c.in-List.is) refl

pub returns-in-Gen-clause-jobs : goal.returns-in-Gen-clause-jobs
returns-in-Gen-clause-jobs g c = uses_at _ _ _ _ (words_at _ _ c.in-Gen.is) tt

pub returns-in-Run-clause-jobs : goal.returns-in-Run-clause-jobs
returns-in-Run-clause-jobs g c = uses_at _ _ _ _ (words_at _ _ c.in-Run.is) tt

pub returns-in-Own-clause-handed : goal.returns-in-Own-clause-handed
returns-in-Own-clause-handed g c = c.own_script.ensures.handed

pub returns-in-Init-clause-handed : goal.returns-in-Init-clause-handed
returns-in-Init-clause-handed g c = c.make_stores.ensures.handed

pub returns-in-Script-clause-handed : goal.returns-in-Script-clause-handed
returns-in-Script-clause-handed g c = c.script_on_disk.ensures.handed

pub returns-in-Times-clause-handed : goal.returns-in-Times-clause-handed
returns-in-Times-clause-handed g c = c.tell_times.ensures.handed

pub returns-in-Load-clause-handed : goal.returns-in-Load-clause-handed
returns-in-Load-clause-handed g c = c.load_on_disk.ensures.handed

pub returns-in-List-clause-handed : goal.returns-in-List-clause-handed
returns-in-List-clause-handed g c = c.list_on_disk.ensures.handed

pub returns-in-Run-clause-handed : goal.returns-in-Run-clause-handed
returns-in-Run-clause-handed g c = c.run_on_disk.ensures.handed

pub returns-in-Gen-clause-handed : goal.returns-in-Gen-clause-handed
returns-in-Gen-clause-handed g c = c.gen_on_disk.ensures.handed
