-- Where a name stands among the names that a node lists.
use Rattle.std.proofs.Common.{◌≡◌, ℕ, false, length, MatchOption, Option, Some, None, slice_get, sym, ap, ◌∙◌, arith}
use Rattle.std.specs.List.{list_any}
use Rattle.std.specs.Ordering.{eq_by_cmp}
use Rattle.std.proofs.lemmas.Option.{slice_get_within}
use Rattle.hm_tree.specs.Names.{Name, name_cmp}
use Rattle.hm_schema.specs.declared.node.NodeId.{NodeId}
use Rattle.hm_schema.specs.Values.{NodeValue, is_listed}
use Rattle.hm_types_table.specs.declared.kind.NodeKind.{NodeKind}
use Rattle.hm_types_table.specs.declared.vertex.Vertex.{Vertex}
use Rattle.hm_types_table.specs.Tables.{seat}
use Rattle.hm_types_table.proofs.Places.{there}
use Rattle.hm_types_table.proofs.BesideNames.{zip_at, listed_beside}

module _ (k : NodeKind) (v : Vertex) (count : length v.next.items ≡ length k.names.items) (n : NodeValue) (is : seat k v ≡ n) (name : Name) where
  pub place_listed : (o : Option ℕ) → MatchOption o (list_any (eq_by_cmp name_cmp name) k.names.items ≡ false) (λ i. slice_get k.names.items i ≡ Some name)
      → MatchOption o (is_listed n name ≡ false) (λ p. (j : NodeId) × (slice_get n.children p ≡ Some (name, j)))
  place_listed None h = sym (ap (λ (n : NodeValue). is_listed n name) is) ∙ listed_beside k.names.items v.next.items name count ∙ h
  place_listed (Some p) h =
      let edge = there v.next.items p (omega (arith, slice_get_within k.names.items p name h, count)) in
      (edge.0, sym (ap (λ (n : NodeValue). slice_get n.children p) is) ∙ zip_at k.names.items v.next.items p name edge.0 h edge.1)
