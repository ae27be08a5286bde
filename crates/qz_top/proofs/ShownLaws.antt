-- Trails that grow.
use Rattle.std.proofs.Common.{◌≡◌, ◌∙◌, ◌++◌, ◌∷◌, [], List, ap}
use Rattle.std.specs.Prelude.{map}
use Rattle.std.proofs.lemmas.List.{map-append}
use Rattle.std.specs.declared.snapshot.Snapshot.{Snapshot}
use Rattle.qz_disk.specs.declared.disk.Disk.{Ghosts}
use Rattle.qz_cluster.specs.declared.clusters.Cluster.{Cluster}
use Rattle.qz_cluster.specs.View.{view as cluster_view}

-- one state more was shown
pub shown-push : {D : Type 0} {g : Ghosts D} (xs ys : List (Snapshot (Cluster D g))) (s : Snapshot (Cluster D g)) → ys ≡ xs ++ s ∷ []
    → map (λ x. cluster_view x.value) ys ≡ map (λ x. cluster_view x.value) xs ++ cluster_view s.value ∷ []
shown-push xs ys s is = ap (map (λ x. cluster_view x.value)) is ∙ map-append (λ x. cluster_view x.value) xs (s ∷ [])
