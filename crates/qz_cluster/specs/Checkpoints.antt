-- What a checkpoint makes of the trigger store.
use Rattle.qz_stores.specs.Checkpoints.{Marks, Breaks, Declines}
use Rattle.qz_stores.specs.Stores.{Stops}
use Rattle.qz_trigger_store.specs.Entries.{TriggerState}
use Rattle.qz_cluster.specs.declared.checkpoints.Checked.{Checked}
use Rattle.qz_cluster.specs.declared.checkpoints.Checked.TheVariants.{Done, NoRoom, Fault, Closed}

abbrev pub IsChecked : Checked → TriggerState → TriggerState → Type 0
IsChecked Done s t = Marks s t
IsChecked NoRoom s t = Declines s t
IsChecked Fault s t = Breaks s t
IsChecked Closed s t = Stops s t
