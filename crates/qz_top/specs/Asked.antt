-- What a call did, by what its words ask for.
use Rattle.std.specs.Prelude.{⊤, ◌≡◌, ◌⊎◌, ℕ, ℤ, List, [], Result, Ok, Err}
use Rattle.qz_disk.specs.declared.disk.Disk.{Ghosts}
use Rattle.qz_io.specs.Outside.{Outside, no_clock, only_output}
use Rattle.qz_node.specs.Jobs.{JobMeaning}
use Rattle.qz_run.specs.declared.commands.Plan.{Plan}
use Rattle.qz_words.specs.declared.wishes.WordFault.{WordFault}
use Rattle.qz_words.specs.declared.wishes.Wish.{Wish}
use Rattle.qz_words.specs.declared.wishes.Wish.TheVariants as wish
use Rattle.qz_top.specs.Calls.{OwnDone, RanOnDisk, LoadedOnDisk, ListedOnDisk, NotOpened, trail_of}
use Rattle.qz_standby.specs.declared.forms.Form.{Form}
use Rattle.qz_standby.specs.declared.forms.Form.TheVariants as form
use Rattle.qz_top.specs.Following.{RanFollow}
use Rattle.qz_top.specs.Generating.{Generates}
use Rattle.qz_top.specs.Making.{IsInit, KeepsStores, SaysMade}
use Rattle.qz_top.specs.Migrating.{RanMigrate}
use Rattle.qz_top.specs.NodeRuns.{RanNodes}
use Rattle.qz_top.specs.Times.{TimesDone}
use Rattle.qz_top.specs.declared.statuses.Status.TheVariants as status
use Rattle.qz_top.specs.declared.ended.Ended.{Ended}
use Rattle.qz_top.specs.declared.gen_on_disk.Workload.{Workload}

-- the disks came back as they were
pub record DisksUntouched {D : Type 0} {g : Ghosts D} (triggers states : D) (e : Ended D g) : Type 0 where
  pub triggers_stay : e.triggers ≡ triggers
  pub states_stay : e.states ≡ states

-- The words were refused, and nothing was read, written or asked.
pub record RefusedWords {D : Type 0} {g : Ghosts D} (fault : WordFault) (triggers states : D) (e : Ended D g)
    (old new : Outside) : Type 0 where
  pub refused : e.status ≡ status.BadWords fault
  pub no_trail : trail_of e.trail ≡ []
  pub untouched : new ≡ old
  pub disks : DisksUntouched triggers states e

-- A script ran in memory.
pub record RanOwn {D : Type 0} {g : Ghosts D} (triggers states : D) (e : Ended D g) (old new : Outside) : Type 0 where
  pub ran : OwnDone e.status (trail_of e.trail) old new
  pub disks : DisksUntouched triggers states e

-- The stores were made, or it is told why not.
pub record RanInit {D : Type 0} {g : Ghosts D} (triggers states : D) (e : Ended D g) (old new : Outside) : Type 0 where
  pub made : IsInit g e.status triggers e.triggers states e.states
  pub keeps : KeepsStores g triggers e.triggers states e.states
  pub says : SaysMade e.status (only_output old) (only_output new)
  pub no_trail : trail_of e.trail ≡ []
  pub not_read : new.left ≡ old.left
  pub not_asked : new.readings ≡ old.readings

-- A script ran on both stores, or one of them wasn't opened.
abbrev pub RanScript : {D : Type 0} {g : Ghosts D} → D → D → Ended D g → Outside → Outside → Type 0
RanScript triggers states e old new = RanOnDisk triggers states e old new ⊎ NotOpened triggers states e old new

-- The commands of a document were done on both stores, or one of them wasn't opened.
abbrev pub RanLoad : {D : Type 0} {g : Ghosts D} → D → D → Ended D g → Outside → Outside → Type 0
RanLoad triggers states e old new = LoadedOnDisk triggers states e old new ⊎ NotOpened triggers states e old new

-- What both stores hold was written, or one of them wasn't opened.
abbrev pub RanList : {D : Type 0} {g : Ghosts D} → D → D → Ended D g → Outside → Outside → Type 0
RanList triggers states e old new = ListedOnDisk triggers states e old new ⊎ NotOpened triggers states e old new

-- A list was written; the input wasn't read and the clock not asked.
pub record Listed {D : Type 0} {g : Ghosts D} (triggers states : D) (e : Ended D g) (old new : Outside) : Type 0 where
  pub ran : RanList triggers states e (only_output old) (only_output new)
  pub not_read : new.left ≡ old.left
  pub not_asked : new.readings ≡ old.readings

-- The trigger store was upgraded or needed no upgrade, or it wasn't opened; the input wasn't read.
pub record Migrated {D : Type 0} {g : Ghosts D} (triggers states : D) (e : Ended D g) (old new : Outside) : Type 0 where
  pub ran : RanMigrate triggers states e old.readings new.readings (only_output old) (only_output new)
  pub not_read : new.left ≡ old.left

-- Both stores were made of the input's bytes, that of triggers in this form, or it is told why not; the clock wasn't asked.
pub record Followed {D : Type 0} {g : Ghosts D} (form : Form) (triggers states : D) (e : Ended D g) (old new : Outside) : Type 0 where
  pub ran : RanFollow form triggers states e (no_clock old) (no_clock new)
  pub not_asked : new.readings ≡ old.readings

-- Fire times were told: at most so many of each trigger, after this moment.
pub record ToldTimes {D : Type 0} {g : Ghosts D} (after : ℤ) (count : ℕ) (triggers states : D) (e : Ended D g)
    (old new : Outside) : Type 0 where
  pub told : TimesDone e.status (record { after = after; count = count }) (no_clock old) (no_clock new)
  pub no_trail : trail_of e.trail ≡ []
  pub not_asked : new.readings ≡ old.readings
  pub disks : DisksUntouched triggers states e

-- The nodes of a plan worked on both stores with these jobs, or the trigger store was old, or one of the stores wasn't opened;
-- the input wasn't read and the clock not asked.
pub record RanPlan {D : Type 0} {g : Ghosts D} (p : Plan) (jobs jobs' : List JobMeaning) (triggers states : D) (e : Ended D g)
    (old new : Outside) : Type 0 where
  pub ran : RanNodes p jobs jobs' triggers states e (only_output old) (only_output new)
  pub not_read : new.left ≡ old.left
  pub not_asked : new.readings ≡ old.readings

-- Jobs and triggers that a number gives were added to both stores, and nodes worked on them with these jobs, or one of the stores
-- wasn't opened; the input wasn't read and the clock not asked.
pub record RanWorkload {D : Type 0} {g : Ghosts D} (w : Workload) (jobs jobs' : List JobMeaning) (triggers states : D) (e : Ended D g)
    (old new : Outside) : Type 0 where
  pub ran : Generates w jobs jobs' triggers states e (only_output old) (only_output new)
  pub not_read : new.left ≡ old.left
  pub not_asked : new.readings ≡ old.readings

-- which calls use the jobs that are handed in; the others leave them as they are
abbrev pub UsesJobs : Result Wish WordFault → List JobMeaning → List JobMeaning → Type 0
UsesJobs (Ok (wish.Run nodes from until budget)) jobs jobs' = ⊤
UsesJobs (Ok (wish.Gen seed jobs_wanted days)) jobs jobs' = ⊤
UsesJobs w jobs jobs' = jobs' ≡ jobs

-- what a call did, by what its words ask for, with the jobs before and after it; words that no call has are refused
abbrev pub DidAsAsked : {D : Type 0} {g : Ghosts D} → Result Wish WordFault → List JobMeaning → List JobMeaning → D → D → Ended D g
    → Outside → Outside → Type 0
DidAsAsked (Err fault) jobs jobs' triggers states e old new = RefusedWords fault triggers states e old new
DidAsAsked (Ok wish.Own) jobs jobs' triggers states e old new = RanOwn triggers states e old new
DidAsAsked (Ok wish.Init) jobs jobs' triggers states e old new = RanInit triggers states e old new
DidAsAsked (Ok wish.Script) jobs jobs' triggers states e old new = RanScript triggers states e old new
DidAsAsked (Ok wish.Load) jobs jobs' triggers states e old new = RanLoad triggers states e old new
DidAsAsked (Ok wish.List) jobs jobs' triggers states e old new = Listed triggers states e old new
DidAsAsked (Ok wish.Migrate) jobs jobs' triggers states e old new = Migrated triggers states e old new
DidAsAsked (Ok wish.Follow) jobs jobs' triggers states e old new = Followed form.Entries triggers states e old new
DidAsAsked (Ok wish.Compact) jobs jobs' triggers states e old new = Followed form.Snapshot triggers states e old new
DidAsAsked (Ok (wish.Times after count)) jobs jobs' triggers states e old new = ToldTimes after count triggers states e old new
DidAsAsked (Ok (wish.Run nodes from until budget)) jobs jobs' triggers states e old new =
    RanPlan (record { nodes = nodes; from = from; until = until; budget = budget }) jobs jobs' triggers states e old new
DidAsAsked (Ok (wish.Gen seed jobs_wanted days)) jobs jobs' triggers states e old new =
    RanWorkload (record { seed = seed; jobs = jobs_wanted; days = days }) jobs jobs' triggers states e old new
