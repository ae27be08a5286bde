-- The headline of each call, from what it did.
use Rattle.std.proofs.Common.{◌≡◌, ◌⊎◌, inl, inr, ⊎_elim, ℕ, ℤ, List, Option, refl, sym, ap, ◌∙◌, subst}
use Rattle.std.proofs.Math.Logic.{∥∥₁_map}
use Rattle.std.specs.Prelude.{Result, Ok, Err}
use Rattle.qz_disk.specs.declared.disk.Disk.{Ghosts}
use Rattle.qz_disk.specs.Disk.{IsLawful, LeavesOnly}
use Rattle.qz_disk.proofs.Moments.{started}
use Rattle.qz_io.specs.Outside.{Outside}
use Rattle.qz_journal.specs.declared.errors.MountError.{MountError}
use Rattle.qz_journal.specs.declared.errors.MountError.TheVariants as mount
use Rattle.qz_node.specs.Jobs.{JobMeaning}
use Rattle.qz_trigger_store.specs.Bytes.{Whole, IsWhole}
use Rattle.qz_types.specs.declared.stores.Store.{Store}
use Rattle.qz_types.specs.declared.stores.Store.TheVariants as store
use Rattle.qz_checkin.specs.Bytes.{Whole as WholeRows}
use Rattle.qz_cluster.specs.Mounting.{DisksAfter}
use Rattle.qz_run.specs.declared.commands.Plan.{Plan}
use Rattle.qz_words.specs.declared.wishes.WordFault.{WordFault}
use Rattle.qz_words.specs.declared.wishes.Wish.{Wish}
use Rattle.qz_words.specs.declared.wishes.Wish.TheVariants as wish
use Rattle.qz_top.specs.Asked.{DisksUntouched, RanOwn, RanScript, RanLoad, RanList, DidAsAsked}
use Rattle.qz_top.specs.Calls.{OwnDone, FoundOld, NotOpened, refusal_of, trail_of}
use Rattle.qz_top.specs.Found.{HoldWhole}
use Rattle.qz_top.specs.Generating.{GeneratedOnDisk, Generates}
use Rattle.qz_top.specs.Headline.{Headline, HeadlineInMemory}
use Rattle.qz_top.specs.HeadlineByWords.{LinesAsk, DocumentAsks, HeadlineOfWork, HeadlineOfUpgrade, OnlyLooked, OpenedNone, HeadlineOf}
use Rattle.qz_top.specs.Migrating.{MigratedOnDisk, RanMigrate}
use Rattle.qz_top.specs.NodeRuns.{RanNodesOnDisk, RanNodes}
use Rattle.qz_top.specs.declared.ended.Ended.{Ended}
use Rattle.qz_top.specs.declared.gen_on_disk.Workload.{Workload}
use Rattle.qz_top.specs.declared.statuses.Status.{Status}
use Rattle.qz_top.specs.declared.statuses.Status.TheVariants as status
use Rattle.qz_standby.specs.declared.forms.Form.TheVariants as form
use Rattle.qz_top.proofs.FollowingLaws.{follow_headline}
use Rattle.qz_top.proofs.HeadlineLaws.{script_headline, memory_headline, load_headline}
use Rattle.qz_top.proofs.StandingLaws.{may_longer, kept_weaker, way_kept}

module _ {D : Type 0} {g : Ghosts D} (lawful : g.honest → (d : D) → IsLawful (g.state d)) (triggers states : D) (e : Ended D g) where
  -- a disk that wasn't touched
  untouched : (d d' : D) → d' ≡ d → g.honest → LeavesOnly (g.state d) (g.state d') (g.state d).IsImage
  untouched d d' same honest = subst (λ (x : D). LeavesOnly (g.state d) (g.state x) (g.state d).IsImage) (sym same) (started (g.state d) _ (lawful honest d) (λ b is. is))

  untouched_both : DisksUntouched triggers states e → OnlyLooked triggers states e
  untouched_both disks = record { triggers_stay = untouched triggers e.triggers disks.triggers_stay; states_stay = untouched states e.states disks.states_stay }

  -- A store wasn't opened.

  looked_at : (store : Store) (error : MountError) → g.honest → DisksAfter g store error triggers states e.triggers e.states
      → LeavesOnly (g.state triggers) (g.state e.triggers) (g.state triggers).IsImage × LeavesOnly (g.state states) (g.state e.states) (g.state states).IsImage
  looked_at store.Triggers error honest after = (after.0.any_moment, untouched states e.states after.1 honest)
  looked_at store.States error honest after = (after.0.any_moment, after.1.any_moment)

  why_none : (store : Store) (error : MountError) → e.status ≡ refusal_of store error → (error ≡ mount.Fault) ⊎ (error ≡ mount.NoMemory) → (e.status ≡ status.DiskFault) ⊎ (e.status ≡ status.NoMemory)
  why_none store error is (inl fault) = inl (is ∙ ap (refusal_of store) fault)
  why_none store error is (inr none) = inr (is ∙ ap (refusal_of store) none)

  pub opened_none : (old new : Outside) → NotOpened triggers states e old new → OpenedNone triggers states e
  opened_none old new none = record {
    looked = record { triggers_stay = λ honest. (looked_at none.store none.error honest (none.reads honest)).0; states_stay = λ honest. (looked_at none.store none.error honest (none.reads honest)).1 };
    why = λ w v held. why_none none.store none.error none.status_is (none.why w v held);
  }

  pub found_old : (old new : Outside) → FoundOld triggers states e old new → OnlyLooked triggers states e × (e.status ≡ status.OldStore)
  found_old old new found = (record { triggers_stay = λ honest. (found.reads honest).0.any_moment; states_stay = λ honest. (found.reads honest).1.any_moment }, found.status_is)

  -- Each call.

  own_words : (old new : Outside) → OwnDone e.status (trail_of e.trail) old new → HeadlineInMemory (LinesAsk e.status old new) (trail_of e.trail) ⊎ (e.status ≡ status.NoMemory)
  own_words old new (inl ran) = inl (memory_headline e.status (trail_of e.trail) old new ran)
  own_words old new (inr none) = inr none.0

  script_words : (old new : Outside) → RanScript triggers states e old new → Headline (LinesAsk e.status old new) triggers states e ⊎ OpenedNone triggers states e
  script_words old new (inl ran) = inl (script_headline triggers states e old new ran)
  script_words old new (inr none) = inr (opened_none old new none)

  load_words : (old new : Outside) → RanLoad triggers states e old new → Headline (DocumentAsks e.status old new) triggers states e ⊎ OpenedNone triggers states e
  load_words old new (inl ran) = inl (load_headline triggers states e old new ran)
  load_words old new (inr none) = inr (opened_none old new none)

  list_words : (old new : Outside) → RanList triggers states e old new → OnlyLooked triggers states e
  list_words old new (inl ran) = record { triggers_stay = λ honest. (ran.reads honest).0.any_moment; states_stay = λ honest. (ran.reads honest).1.any_moment }
  list_words old new (inr none) = (opened_none old new none).looked

  run_headline : (p : Plan) (jobs jobs' : List JobMeaning) (old new : Outside) → RanNodesOnDisk p jobs jobs' triggers states e old new → HeadlineOfWork g triggers states e.triggers e.states
  run_headline p jobs jobs' old new ran = record {
    opened = ran.opened;
    were_opened = record { are_opened = ran.are_opened; nothing_held = ran.nothing_held; found = ran.found; no_earlier = ran.no_earlier };
    end = ran.end;
    end_in_order = record { sound = ran.sound; recovered = ran.recovered };
    one_at_a_time = ran.one_at_a_time;
    outlasts = record {
      faults = ran.faults;
      at_end = ran.images;
      any_moment = λ w v held. ∥∥₁_map ran.any_moment (λ kept. way_kept triggers states e.triggers e.states ran.opened ran.end w v (kept w v held));
    };
    on_the_way = ran.any_moment;
  }

  run_words : (p : Plan) (jobs jobs' : List JobMeaning) (old new : Outside) → RanNodes p jobs jobs' triggers states e old new
      → HeadlineOfWork g triggers states e.triggers e.states ⊎ OpenedNone triggers states e ⊎ (OnlyLooked triggers states e × (e.status ≡ status.OldStore))
  run_words p jobs jobs' old new (inl (inl ran)) = inl (run_headline p jobs jobs' old new ran)
  run_words p jobs jobs' old new (inl (inr found)) = inr (inr (found_old old new found.0))
  run_words p jobs jobs' old new (inr none) = inr (inl (opened_none old new none.0))

  gen_headline : (x : Workload) (jobs jobs' : List JobMeaning) (old new : Outside) → GeneratedOnDisk x jobs jobs' triggers states e old new → HeadlineOfWork g triggers states e.triggers e.states
  gen_headline x jobs jobs' old new ran = record {
    opened = ran.opened;
    were_opened = record { are_opened = ran.are_opened; nothing_held = ran.nothing_held; found = ran.found; no_earlier = ran.no_earlier };
    end = ran.end;
    end_in_order = record { sound = ran.sound; recovered = ran.recovered };
    one_at_a_time = ran.one_at_a_time;
    outlasts = record {
      faults = ran.faults;
      at_end = ran.images;
      any_moment = λ w v held. ∥∥₁_map ran.any_moment (λ kept. way_kept triggers states e.triggers e.states ran.opened ran.end w v (kept w v held));
    };
    on_the_way = ran.any_moment;
  }

  gen_words : (x : Workload) (jobs jobs' : List JobMeaning) (old new : Outside) → Generates x jobs jobs' triggers states e old new → HeadlineOfWork g triggers states e.triggers e.states ⊎ OpenedNone triggers states e
  gen_words x jobs jobs' old new (inl ran) = inl (gen_headline x jobs jobs' old new ran)
  gen_words x jobs jobs' old new (inr none) = inr (opened_none old new none.0)

  migrate_headline : (read read' : Option (List ℤ)) (old new : Outside) → MigratedOnDisk triggers states e read read' old new → HeadlineOfUpgrade triggers states e
  migrate_headline read read' old new ran = record {
    opened = ran.opened;
    is_opened = ran.is_opened;
    found = ran.found;
    end = ran.end;
    sound = ran.sound;
    recovered = ran.recovered;
    faults = ran.faults;
    at_end = ran.images;
    any_moment = λ honest w held.
        let kept = ran.any_moment honest w held in
        kept_weaker triggers e.triggers _ _ (record { opened = kept.0; reads = kept.1; leaves = kept.2 })
        (λ b either. ⊎_elim (may_longer w ran.opened.history ran.opened.undecided b) (may_longer w ran.end.history ran.end.undecided b) either);
    states_stay = ran.states_stay;
  }

  migrate_words : (read read' : Option (List ℤ)) (old new : Outside) → RanMigrate triggers states e read read' old new → HeadlineOfUpgrade triggers states e ⊎ OnlyLooked triggers states e
  migrate_words read read' old new (inl ran) = inl (migrate_headline read read' old new ran)
  migrate_words read read' old new (inr none) = inr (record { triggers_stay = λ honest. (none.reads honest).any_moment; states_stay = untouched states e.states none.states_stay })

  pub headline_of : (w : Result Wish WordFault) (jobs jobs' : List JobMeaning) (old new : Outside) → DidAsAsked w jobs jobs' triggers states e old new → HeadlineOf w triggers states e old new
  headline_of (Err fault) jobs jobs' old new did = untouched_both did.disks
  headline_of (Ok wish.Own) jobs jobs' old new did = (untouched_both did.disks, own_words old new did.ran)
  headline_of (Ok wish.Init) jobs jobs' old new did = did.keeps
  headline_of (Ok wish.Script) jobs jobs' old new did = script_words old new did
  headline_of (Ok wish.Load) jobs jobs' old new did = load_words old new did
  headline_of (Ok wish.List) jobs jobs' old new did = list_words _ _ did.ran
  headline_of (Ok wish.Migrate) jobs jobs' old new did = migrate_words _ _ _ _ did.ran
  headline_of (Ok wish.Follow) jobs jobs' old new did = follow_headline lawful form.Entries triggers states e _ _ did.ran
  headline_of (Ok wish.Compact) jobs jobs' old new did = follow_headline lawful form.Snapshot triggers states e _ _ did.ran
  headline_of (Ok (wish.Times after count)) jobs jobs' old new did = untouched_both did.disks
  headline_of (Ok (wish.Run nodes from until budget)) jobs jobs' old new did = run_words _ jobs jobs' _ _ did.ran
  headline_of (Ok (wish.Gen seed jobs_wanted days)) jobs jobs' old new did = gen_words _ jobs jobs' _ _ did.ran
