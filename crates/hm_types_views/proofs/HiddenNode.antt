-- The node without the name of a copy, and where hiding the copy goes.
use Rattle.std.proofs.Common.{◌≡◌, ℕ, IsTrue, [], ◌∷◌, ◌++◌, length, map, slice_get, Option, Some, None, refl, sym, ap, subst, ◌∙◌}
use Rattle.std.proofs.lemmas.Option.{same_Some, none-some}
use Rattle.std.proofs.lemmas.List.Elements.{All-nil}
use Rattle.std.specs.Option.{option_map}
use Rattle.std.specs.FinMap.{find}
use Rattle.hm_tree.specs.Names.{Name, name_cmp}
use Rattle.hm_schema.specs.declared.node.NodeId.{NodeId}
use Rattle.hm_schema.specs.Values.{NodeValue, is_listed}
use Rattle.hm_schema.specs.WellFormed.{IsWellFormedNode}
use Rattle.hm_terms.specs.Lenses.{merge}
use Rattle.hm_types_nodes.specs.Merging.{unrequired}
use Rattle.hm_types_nodes.specs.Copying.{CanHide, hidden_node}
use Rattle.hm_types_nodes.proofs.Hiding.{hidden_well, hidden_some}
use Rattle.hm_types_forms.specs.Forms.{Form, form}
use Rattle.hm_types_forms.specs.SameForms.{IsSame}
use Rattle.hm_types_rules.specs.Typing.{Types, Goes, goes_merge}
use Rattle.hm_types_rules.specs.Faults.{Faults, fault_merge, at}
use Rattle.hm_types_table.specs.declared.kind.NodeKind.{NodeKind}
use Rattle.hm_types_table.specs.declared.vertex.Vertex.{Vertex}
use Rattle.hm_types_views.specs.Hiding.{LeadToSame, CanHideKind}
use Rattle.hm_types_table.specs.Tables.{Nodes, AreFormed, opened, seat}
use Rattle.hm_types_table.proofs.Grown.{formed_at}
use Rattle.hm_types_table.proofs.Forms.{find_over, node_is, not_node, form_added}
use Rattle.hm_types_views.proofs.TwoAdded.{shaped_well}

-- what two names lead to in a node, and in the node over the forms of what it leads to
module _ (nodes : Nodes) where
  pub mapped_same : (x y : Option NodeId) → LeadToSame nodes x y → (u v : Form) → option_map (form nodes) x ≡ Some u → option_map (form nodes) y ≡ Some v
      → IsSame u v
  mapped_same None y h u v e f = absurd (none-some u e)
  mapped_same (Some i) None h u v e f = absurd (none-some v f)
  mapped_same (Some i) (Some j) h u v e f = subst (λ u. IsSame u v) (same_Some (form nodes i) u e)
      (subst (IsSame (form nodes i)) (same_Some (form nodes j) v f) (h i j refl refl))

  pub led_opened : (n : NodeValue) (x y : Name) → LeadToSame nodes (find name_cmp x n.children) (find name_cmp y n.children)
      → (u v : Form) → find name_cmp x (opened nodes n).children ≡ Some u → find name_cmp y (opened nodes n).children ≡ Some v → IsSame u v
  led_opened n x y h u v e f = mapped_same (find name_cmp x n.children) (find name_cmp y n.children) h u v
      (sym (find_over (λ s. form nodes) x n.children) ∙ e) (sym (find_over (λ s. form nodes) y n.children) ∙ f)

  pub opened_led : (n m : NodeValue) (x y : Name)
      → ((u v : Form) → find name_cmp x (opened nodes n).children ≡ Some u → find name_cmp y (opened nodes m).children ≡ Some v → IsSame u v)
      → LeadToSame nodes (find name_cmp x n.children) (find name_cmp y m.children)
  opened_led n m x y h i j e f = h (form nodes i) (form nodes j) (find_over (λ s. form nodes) x n.children ∙ ap (option_map (form nodes)) e)
      (find_over (λ s. form nodes) y m.children ∙ ap (option_map (form nodes)) f)

module _ (nodes : Nodes) (h : AreFormed nodes) (i : NodeId) (k : NodeKind) (v : Vertex) (e : slice_get nodes i.place ≡ Some (seat k v)) (m o : Name) where
  abbrev n : NodeValue
  n = seat k v

  pub cannot_hide : (CanHideKind m o k → LeadToSame nodes (find name_cmp m n.children) (find name_cmp o n.children) → ⊥)
      → (T : Types) (c : ℕ) → Faults T (merge m o) c (form nodes i) (at c 11)
  cannot_hide fails T c = fault_merge (not_node nodes i n e h (CanHide IsSame m o) (λ can.
      fails (record { apart = can.apart; first = can.first; second = can.second; twins = can.twins }) (opened_led nodes n n m o can.alike)))

  module _ (c : CanHideKind m o k) (led : LeadToSame nodes (find name_cmp m n.children) (find name_cmp o n.children)) where
    w : IsWellFormedNode (length nodes) n
    w = formed_at nodes i n h e

    raw : CanHide (λ i j. IsSame (form nodes i) (form nodes j)) m o n
    raw = record { apart = c.apart; first = c.first; second = c.second; alike = λ i j f g. led i j f g; twins = c.twins }

    can : CanHide IsSame m o (opened nodes n)
    can = record { apart = c.apart; first = c.first; second = c.second; alike = led_opened nodes n m o led; twins = c.twins }

    pub hidden_seat : IsWellFormedNode (length nodes) (hidden_node o n)
    hidden_seat = shaped_well (length nodes) n (map (unrequired o) n.shapes) [] w
        (hidden_well (λ i j. IsSame (form nodes i) (form nodes j)) m o n raw w.shapes w.some_shape)
        (hidden_some (λ i j. IsSame (form nodes i) (form nodes j)) m o n raw w.shapes w.some_shape)
        (All-nil (λ (t : Name × Name). IsTrue (is_listed n t.0) × IsTrue (is_listed n t.1)))

    pub hide_goes : (new : Nodes) → new ≡ nodes ++ hidden_node o n ∷ [] → (j : NodeId) → j.place ≡ length nodes
        → (T : Types) → Goes T (merge m o) (form nodes i) (form new j)
    hide_goes new is j place T = goes_merge (node_is nodes i n e h) can (form_added nodes new h (hidden_node o n) hidden_seat is j place)
