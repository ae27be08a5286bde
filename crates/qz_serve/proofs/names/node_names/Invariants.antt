use Rattle.std.proofs.Common.{◌≡◌, IsTrue}
use Rattle.std.specs.List.{All}
use Rattle.qz_types.specs.Rows.{is_node}
use Rattle.qz_serve.specs.Ours.{node_names}
use Rattle.qz_serve.proofs.names.node_names.Given as goal

abbrev pub invariant-loop-node : goal.invariant-loop-node
invariant-loop-node l = record {
  names_are : l.names.items ≡ node_names l.node;
  valid : All (λ name. IsTrue (is_node name)) l.names.items;
}
