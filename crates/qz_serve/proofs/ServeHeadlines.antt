-- The headline of a call on the system's clock, from what it did.
use Rattle.std.proofs.Common.{◌≡◌, ◌⊎◌, inl, inr, ℤ, List}
use Rattle.std.proofs.Math.Logic.{∥∥₁_map}
use Rattle.std.specs.Prelude.{Result, Ok, Err}
use Rattle.qz_disk.specs.declared.disk.Disk.{Ghosts}
use Rattle.qz_disk.specs.Disk.{IsLawful}
use Rattle.qz_io.specs.Outside.{Outside}
use Rattle.qz_node.specs.Jobs.{JobMeaning}
use Rattle.qz_words.specs.declared.serves.Serving.{Serving}
use Rattle.qz_words.specs.declared.wishes.WordFault.{WordFault}
use Rattle.qz_top.specs.HeadlineByWords.{OnlyLooked, OpenedNone}
use Rattle.qz_top.specs.OpenStores.{HasNoStores}
use Rattle.qz_top.specs.declared.ended.Ended.{Ended}
use Rattle.qz_top.specs.declared.statuses.Status.TheVariants as status
use Rattle.qz_top.proofs.StandingLaws.{way_kept}
use Rattle.qz_top.proofs.WordHeadlines.{opened_none, found_old}
use Rattle.qz_serve.specs.Headlines.{HeadlineOfNodes, HadNoStores, HeadlineOfServe}
use Rattle.qz_serve.specs.Serves.{DidAsAsked, FoundNoStores, ServedOnDisk}
use Rattle.qz_serve.specs.declared.served.Served.{Served}

module _ {D : Type 0} (g : Ghosts D) (lawful : g.honest → (d : D) → IsLawful (g.state d)) (shows : ℤ → Type 0) (jobs jobs' : List (List JobMeaning)) (triggers states : D) (s : Served D) (old new : Outside) where
  nodes_headline : (p : Serving) → ServedOnDisk g shows p jobs jobs' triggers states s old new → HeadlineOfNodes g triggers states s
  nodes_headline p ran = record {
    triggers_end = ran.triggers_end;
    states_end = ran.states_end;
    disks = ran.disks;
    work = record {
      opened = ran.opened;
      were_opened = record { are_opened = ran.are_opened; nothing_held = ran.nothing_held; found = ran.found; no_earlier = ran.no_earlier };
      end = ran.end;
      end_in_order = ran.in_order;
      one_at_a_time = ran.one_at_a_time;
      outlasts = record {
        faults = ran.faults;
        at_end = ran.images;
        any_moment = λ w v held. ∥∥₁_map ran.any_moment (λ kept. way_kept triggers states ran.triggers_end ran.states_end ran.opened ran.end w v (kept w v held));
      };
      on_the_way = ran.any_moment;
    };
  }

  why_none : (e : Ended D g) → HasNoStores triggers states e old new → OpenedNone triggers states e ⊎ (OnlyLooked triggers states e × (e.status ≡ status.OldStore))
  why_none e (inl none) = inl (opened_none lawful triggers states e old new none)
  why_none e (inr found) = inr (found_old lawful triggers states e old new found)

  no_stores : FoundNoStores g jobs jobs' triggers states s old new → HadNoStores g triggers states s
  no_stores found = record { ended = found.ended; ends = found.ends; why = why_none found.ended found.none }

  pub headline_of : (w : Result Serving WordFault) → DidAsAsked g shows w jobs jobs' triggers states s old new → HeadlineOfServe g w triggers states s old new
  headline_of (Ok p) (inl ran) = inl (nodes_headline p ran)
  headline_of (Ok p) (inr (inl found)) = inr (inl (no_stores found))
  headline_of (Ok p) (inr (inr gave_up)) = inr (inr gave_up)
  headline_of (Err fault) bad = bad.disks
