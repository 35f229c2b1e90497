-- A node over the nodes that it stands over, and the last node of a table.
use Rattle.std.proofs.Common.{◌≡◌, List, [], ◌∷◌, ◌++◌, length, slice_get, Option, Some, refl, sym, ap, subst, ◌∙◌}
use Rattle.std.specs.List.{zip}
use Rattle.std.proofs.lemmas.Slice.Zip.{firsts-zip}
use Rattle.hm_tree.specs.declared.class.Class.{Class}
use Rattle.hm_schema.specs.declared.node.NodeId.{NodeId}
use Rattle.hm_schema.specs.Values.{NodeValue}
use Rattle.hm_types_table.specs.declared.kind.NodeKind.{NodeKind}
use Rattle.hm_types_table.specs.declared.vertex.Vertex.{Vertex}
use Rattle.hm_types_table.specs.Tables.{Nodes, seat, replaced}

pub itself : (k : NodeKind) (v : Vertex) (js : List NodeId) (o : Option (Class × NodeId)) → length v.next.items ≡ length k.names.items → v.next.items ≡ js → v.other ≡ o
    → (n : NodeValue) → n ≡ seat k v → n ≡ replaced n js o
itself k v js o count next other n is =
    let names = firsts-zip k.names.items v.next.items count in
    let same : seat k v ≡ replaced (seat k v) js o =
    λ t. record { shapes = k.shapes.items; children = zip (sym names t) (next t); other = other t; twins = k.twins.items } in
    subst (λ (n : NodeValue). n ≡ replaced n js o) (sym is) same

last : (nodes : Nodes) (n : NodeValue) → slice_get (nodes ++ n ∷ []) (length nodes) ≡ Some n
last [] n = refl
last (m ∷ nodes) n = last nodes n

pub added_at : (old new : Nodes) (n : NodeValue) (j : NodeId) → new ≡ old ++ n ∷ [] → j.place ≡ length old → slice_get new j.place ≡ Some n
added_at old new n j is place = ap (slice_get new) place ∙ ap (λ (nodes : Nodes). slice_get nodes (length old)) is ∙ last old n
