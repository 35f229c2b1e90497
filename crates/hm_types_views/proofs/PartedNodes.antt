-- What is told of a kind, and what the rules of a fork ask of the form of a node of it.
use Rattle.std.proofs.Common.{◌≡◌, ◌⊎◌, ◌<◌, Bool, IsTrue, List, [], ◌∷◌, length, slice_get, Some, All, sym, ap, subst, ◌∙◌, arith, inl, inr}
use Rattle.std.proofs.lemmas.Option.{same_Some}
use Rattle.std.specs.List.{list_any, filter}
use Rattle.std.specs.Ordering.{eq_by_cmp}
use Rattle.std.specs.FinSet.{contains}
use Rattle.std.proofs.lemmas.List.Elements.{All-nil, All-cons, All-head, All-tail, All-filter}
use Rattle.hm_tree.specs.Names.{Name, name_cmp}
use Rattle.hm_schema.specs.declared.node.NodeId.{NodeId}
use Rattle.hm_schema.specs.declared.node.Shape.{Shape}
use Rattle.hm_schema.specs.Values.{Names, NodeOver, NodeValue, is_listed}
use Rattle.hm_schema.specs.WellFormed.{IsWellFormedNode}
use Rattle.hm_schema.specs.Shapes.{IsShut}
use Rattle.hm_types_nodes.specs.Parting.{Parts, listed, shut, IsParted, shape_in, shape_out, has_twin, part_node}
use Rattle.hm_types_nodes.specs.Branching.{shapes_with, shapes_without, node_with, node_without}
use Rattle.hm_types_nodes.proofs.Parting.{part_nodes_well}
use Rattle.hm_types_nodes.proofs.Branching.{with_well, without_well}
use Rattle.hm_types_forms.specs.Forms.{Form, form, formed}
use Rattle.hm_types_rules.specs.Typing.{IsForked, IsBranched}
use Rattle.hm_types_rules.specs.Sources.{ForkSource, BranchSource}
use Rattle.hm_types_table.specs.declared.kind.NodeKind.{NodeKind}
use Rattle.hm_types_table.specs.declared.vertex.Vertex.{Vertex}
use Rattle.hm_types_views.specs.Conditions.{Separates, CanPart, CanBranch}
use Rattle.hm_types_table.specs.Tables.{Nodes, AreFormed, opened, seat}
use Rattle.hm_types_table.proofs.Grown.{formed_at}
use Rattle.hm_types_table.proofs.BesideNames.{listed_beside}
use Rattle.hm_types_table.proofs.Forms.{node_is, not_node, is_listed_over}
use Rattle.hm_types_views.proofs.TwoAdded.{shaped_well}

-- no shape lets an unlisted name in, or all names that pass are listed
module _ {I : Type 0} (n : NodeOver I) (p : Name → Bool) where
  abbrev pub AllListed : Type 0
  AllListed = (k : Name) → IsTrue (p k) → IsTrue (is_listed n k)

  pub parts_split : (shapes : List Shape) → All (λ a. Parts n a p) shapes → All IsShut shapes ⊎ AllListed
  parts_split [] all = inl (All-nil IsShut)
  parts_split (a ∷ shapes) all = go (All-head (λ a. Parts n a p) a shapes all) (parts_split shapes (All-tail (λ a. Parts n a p) a shapes all))
    where
      go : Parts n a p → All IsShut shapes ⊎ AllListed → All IsShut (a ∷ shapes) ⊎ AllListed
      go (listed f) r = inr f
      go (shut s) (inl all) = inl (All-cons IsShut a shapes s all)
      go (shut s) (inr f) = inr f

  pub parts_each : (shapes : List Shape) → All IsShut shapes ⊎ AllListed → All (λ a. Parts n a p) shapes
  parts_each shapes (inl all) = λ i d lt. shut (all i d lt)
  parts_each shapes (inr f) = λ i d lt. listed f

module _ (nodes : Nodes) (h : AreFormed nodes) (i : NodeId) (k : NodeKind) (v : Vertex) (e : slice_get nodes i.place ≡ Some (seat k v))
    (count : length v.next.items ≡ length k.names.items) where
  abbrev n : NodeValue
  n = seat k v

  well : IsWellFormedNode (length nodes) n
  well = formed_at nodes i n h e

  in_names : (m : Name) → is_listed (opened nodes n) m ≡ list_any (eq_by_cmp name_cmp m) k.names.items
  in_names m = is_listed_over (λ s. form nodes) n m ∙ listed_beside k.names.items v.next.items m count

  -- ---- forks

  module _ (names : Names) where
    pub separates_parts : Separates names k → All (λ a. Parts (opened nodes n) a (contains names)) k.shapes.items
    separates_parts s = parts_each (opened nodes n) (contains names) k.shapes.items
        (elim s [ inl all ↦ inl all | inr f ↦ inr (λ m t. in_names m ∙ f m t) ])

    -- the same of the node itself
    pub parts_raw : Separates names k → All (λ a. Parts n a (contains names)) k.shapes.items
    parts_raw s = parts_each n (contains names) k.shapes.items
        (elim s [ inl all ↦ inl all | inr f ↦ inr (λ m t. listed_beside k.names.items v.next.items m count ∙ f m t) ])

    pub parts_separate : All (λ a. Parts (opened nodes n) a (contains names)) k.shapes.items → Separates names k
    parts_separate all = elim (parts_split (opened nodes n) (contains names) k.shapes.items all) [
      | inl shuts ↦ inl shuts
      | inr f ↦ inr (λ m t. sym (in_names m) ∙ f m t)
    ]

    pub cannot_part : (CanPart names k → ⊥) → (w : NodeOver Form) (a : Shape) → IsForked names (form nodes i) w a → ⊥
    cannot_part fails w a f = not_node nodes i n e h (λ w. IsParted (contains names) w a) (λ p. fails (record {
      one = ap length p.one;
      separate = parts_separate (subst (All (λ a. Parts (opened nodes n) a (contains names))) (sym p.one)
          (All-cons (λ a. Parts (opened nodes n) a (contains names)) a [] p.parts (All-nil (λ a. Parts (opened nodes n) a (contains names)))));
      together = p.twins;
    })) w f.node f.parted

    module _ (c : CanPart names k) (a : Shape) (one : k.shapes.items ≡ a ∷ []) where
      pub is_parted : IsParted (contains names) (opened nodes n) a
      is_parted = record {
        one = one;
        parts = All-head (λ a. Parts (opened nodes n) a (contains names)) a []
            (subst (All (λ a. Parts (opened nodes n) a (contains names))) one (separates_parts c.separate));
        twins = c.together;
      }

      pub fork_source : (new : Nodes) (p q : NodeId) → form new p ≡ formed (opened nodes (part_node n (shape_in (contains names) a)))
          → form new q ≡ formed (opened nodes (part_node n (shape_out (contains names) a))) → ForkSource names (form nodes i) (form new p) (form new q)
      fork_source new p q f g = record {
        node = opened nodes n;
        shape = a;
        forked = record { node = node_is nodes i n e h; parted = is_parted };
        first = f;
        second = g;
      }

      twins_well : (s : Shape) → All (λ t. IsTrue (is_listed n t.0) × IsTrue (is_listed n t.1)) (filter (has_twin s) n.twins)
      twins_well s = All-filter (has_twin s) (λ t. IsTrue (is_listed n t.0) × IsTrue (is_listed n t.1)) n.twins well.twins

      pub inside_well : IsWellFormedNode (length nodes) (part_node n (shape_in (contains names) a))
      inside_well = shaped_well (length nodes) n (shape_in (contains names) a ∷ []) (filter (has_twin (shape_in (contains names) a)) n.twins) well
          (part_nodes_well (contains names) n a one well.shapes).0 (omega arith) (twins_well (shape_in (contains names) a))

      pub outside_well : IsWellFormedNode (length nodes) (part_node n (shape_out (contains names) a))
      outside_well = shaped_well (length nodes) n (shape_out (contains names) a ∷ []) (filter (has_twin (shape_out (contains names) a)) n.twins) well
          (part_nodes_well (contains names) n a one well.shapes).1 (omega arith) (twins_well (shape_out (contains names) a))

  -- ---- conditionals

  module _ (m : Name) where
    pub cannot_branch : (CanBranch m k → ⊥) → (w : NodeOver Form) → IsBranched m (form nodes i) w → ⊥
    cannot_branch fails w b = fails (record {
      plain = plain;
      listed = sym (in_names m) ∙ subst (λ (w : NodeOver Form). IsTrue (is_listed w m)) is b.listed;
      with_it = subst (λ (w : NodeOver Form). 0 < length (shapes_with m w.shapes)) is b.with_it;
      without_it = subst (λ (w : NodeOver Form). 0 < length (shapes_without m w.shapes)) is b.without_it;
    })
      where
        is : w ≡ opened nodes n
        is = same_Some w (opened nodes n) (sym b.node ∙ node_is nodes i n e h)

        plain : k.twins.items ≡ []
        plain = subst (λ (w : NodeOver Form). w.twins ≡ []) is b.plain

    module _ (c : CanBranch m k) where
      is_in : IsTrue (is_listed n m)
      is_in = listed_beside k.names.items v.next.items m count ∙ c.listed

      pub with_it_well : IsWellFormedNode (length nodes) (node_with m n)
      with_it_well = shaped_well (length nodes) n (shapes_with m n.shapes) [] well (with_well n m is_in well.shapes) c.with_it
          (All-nil (λ (t : Name × Name). IsTrue (is_listed n t.0) × IsTrue (is_listed n t.1)))

      pub without_it_well : IsWellFormedNode (length nodes) (node_without m n)
      without_it_well = shaped_well (length nodes) n (shapes_without m n.shapes) [] well (without_well n m is_in well.shapes) c.without_it
          (All-nil (λ (t : Name × Name). IsTrue (is_listed n t.0) × IsTrue (is_listed n t.1)))

      pub branch_source : (new : Nodes) (p q : NodeId) → form new p ≡ formed (opened nodes (node_with m n))
          → form new q ≡ formed (opened nodes (node_without m n)) → BranchSource m (form nodes i) (form new p) (form new q)
      branch_source new p q f g = record {
        node = opened nodes n;
        branched = record {
          node = node_is nodes i n e h;
          listed = in_names m ∙ c.listed;
          plain = c.plain;
          with_it = c.with_it;
          without_it = c.without_it;
        };
        first = f;
        second = g;
      }
