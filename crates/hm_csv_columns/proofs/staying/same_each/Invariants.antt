use Rattle.std.proofs.Common.{◌≡◌, drop, map}
use Rattle.hm_tree.specs.Names.{Name}
use Rattle.hm_tree.specs.Nodes.{Tree}
use Rattle.hm_csv_columns.specs.Fields.{same_names}
use Rattle.hm_csv_columns.proofs.staying.same_each.Given as goal

abbrev pub invariant-loop-place : goal.invariant-loop-place
invariant-loop-place l =
    same_names (drop l.place l.names) (drop l.place (map (λ (e : Name × Tree). e.0) l.edges)) ≡ same_names l.names (map (λ (e : Name × Tree). e.0) l.edges)
