-- The node at which a child stands under a second name too, and where copying goes.
use Rattle.std.proofs.Common.{◌≡◌, ℕ, ◌<◌, Bool, true, false, cond, T, IsTrue, is_some, List, [], ◌∷◌, ◌++◌, length, map, slice_get, Option, Some, None, All, refl, sym, ap, ◌∙◌, arith, inl, inr}
use Rattle.std.proofs.lemmas.Bool.{true≢false, or_right, false_from_ne_true}
use Rattle.std.proofs.lemmas.List.{length-map}
use Rattle.std.proofs.lemmas.List.Elements.{All-map}
use Rattle.std.specs.Option.{option_map, MatchOption}
use Rattle.std.specs.List.{zip}
use Rattle.std.specs.Ordering.{eq_by_cmp}
use Rattle.std.specs.FinMap.{find}
use Rattle.std.specs.FinSet.{contains}
use Rattle.hm_tree.specs.Names.{Name, name_cmp}
use Rattle.hm_tree.proofs.NameSets.{tied_self}
use Rattle.hm_schema.specs.declared.node.NodeId.{NodeId}
use Rattle.hm_schema.specs.declared.node.Shape.{Shape}
use Rattle.hm_schema.specs.Values.{NodeValue, is_listed}
use Rattle.hm_schema.specs.WellFormed.{IsWellFormedNode, IsWellFormedShape}
use Rattle.hm_schema.specs.Tidied.{has_name}
use Rattle.hm_terms.specs.Lenses.{copy}
use Rattle.hm_types_nodes.specs.Copying.{CanCopy, IsCopied, with_required}
use Rattle.hm_schema.proofs.Drawn.{all_some}
use Rattle.hm_schema.proofs.Elements.{all_one}
use Rattle.hm_schema.proofs.Shapes.{required_has}
use Rattle.hm_types_nodes.proofs.Refitted.{well_but, but_with_required}
use Rattle.hm_schema.specs.Shapes.{Requires}
use Rattle.hm_types_forms.specs.Forms.{form, named}
use Rattle.hm_types_rules.specs.Typing.{Types, Goes, goes_copy}
use Rattle.hm_types_rules.specs.Faults.{Faults, fault_copy, at}
use Rattle.hm_types_views.specs.Conditions.{MayCopy}
use Rattle.hm_types_views.specs.Overlays.{HasEdge}
use Rattle.hm_types_table.specs.Tables.{Nodes, AreFormed, opened}
use Rattle.hm_types_table.proofs.Grown.{formed_at}
use Rattle.hm_types_forms.proofs.TidiedSteps.{next_in_range}
use Rattle.hm_types_table.proofs.Keys.{zip_sorted, all_found}
use Rattle.hm_types_table.proofs.Forms.{find_over, sorted_over, is_listed_over, node_is, not_node, form_added}

-- ---- the conditions

module _ (n : NodeValue) (m o : Name) where
  pub may_can : (b : Bool) → b ≡ is_listed n o → n.twins ≡ [] → All (MayCopy m o b) n.shapes → CanCopy m o n
  may_can b is plain all = record {
    required = λ i d lt. (all i d lt).required;
    absent = λ i d lt. (all i d lt).absent;
    lists = λ i d lt. elim (all i d lt).lists [ inl s ↦ inl s | inr t ↦ inr (sym is ∙ t) ];
    plain = plain;
  }

  pub can_may : (b : Bool) → b ≡ is_listed n o → CanCopy m o n → All (MayCopy m o b) n.shapes
  can_may b is c = λ i d lt. record {
    required = c.required i d lt;
    absent = c.absent i d lt;
    lists = elim (c.lists i d lt) [ inl s ↦ inl s | inr t ↦ inr (is ∙ t) ];
  }

module _ (nodes : Nodes) (h : AreFormed nodes) (i : NodeId) (n : NodeValue) (e : slice_get nodes i.place ≡ Some n) (m o : Name) where
  opened_can : CanCopy m o n → CanCopy m o (opened nodes n)
  opened_can c = record {
    required = c.required;
    absent = c.absent;
    lists = λ i d lt. elim (c.lists i d lt) [ inl s ↦ inl s | inr t ↦ inr (is_listed_over (λ s. form nodes) n o ∙ t) ];
    plain = c.plain;
  }

  can_opened : CanCopy m o (opened nodes n) → CanCopy m o n
  can_opened c = record {
    required = c.required;
    absent = c.absent;
    lists = λ i d lt. elim (c.lists i d lt) [ inl s ↦ inl s | inr t ↦ inr (sym (is_listed_over (λ s. form nodes) n o) ∙ t) ];
    plain = c.plain;
  }

  pub copy_faults : (CanCopy m o n → ⊥) → (T : Types) (k : ℕ) → Faults T (copy m o) k (form nodes i) (at k 10)
  copy_faults fails T k = fault_copy (not_node nodes i n e h (CanCopy m o) (λ c. fails (can_opened c)))

  -- the name that is copied is listed
  pub source_listed : CanCopy m o n → find name_cmp m n.children ≡ None → ⊥
  source_listed c none =
      let w = formed_at nodes i n h e in
      let one = all_some (λ a. Requires m a × IsWellFormedShape n a) n.shapes w.some_shape (λ i d lt. (c.required i d lt, w.shapes i d lt)) in
      true≢false (sym (one.1.1.listed m (required_has one.0 m one.1.0)) ∙ ap is_some none)

  pub source_found : (x : Option NodeId) → x ≡ find name_cmp m n.children → CanCopy m o n
      → MatchOption x (¬ (CanCopy m o n)) (λ j. CanCopy m o n × (find name_cmp m n.children ≡ Some j))
  source_found None f c = λ d. source_listed c (sym f)
  source_found (Some j) f c = (c, sym f)

  -- ---- the node

  module _ (c : CanCopy m o n) (below : NodeId) (found : find name_cmp m n.children ≡ Some below) (ks : List Name) (js : List NodeId)
      (edge : HasEdge o below n.children ks js) where
    abbrev pub copied_node : NodeValue
    copied_node = record { shapes = map (with_required o) n.shapes; children = zip ks js; other = n.other; twins = (m, o) ∷ [] }

    w : IsWellFormedNode (length nodes) n
    w = formed_at nodes i n h e

    second_there : IsTrue (is_listed copied_node o)
    second_there = ap is_some (edge.leads o ∙ ap (λ b. cond b (Some below) (find name_cmp o n.children)) (tied_self o))

    still_there : (k : Name) → IsTrue (is_listed n k) → IsTrue (is_listed copied_node k)
    still_there k l = ap is_some (edge.leads k) ∙ go (eq_by_cmp name_cmp k o)
      where
        go : (b : Bool) → is_some (cond b (Some below) (find name_cmp k n.children)) ≡ true
        go true = refl
        go false = l

    in_range : (k : Name) (x : NodeId) → find name_cmp k (zip ks js) ≡ Some x → x.place < length nodes
    in_range k x f = go (eq_by_cmp name_cmp k o) (sym (edge.leads k) ∙ f)
      where
        go : (b : Bool) → cond b (Some below) (find name_cmp k n.children) ≡ Some x → x.place < length nodes
        go true g = next_in_range (length nodes) n (named m) x w (found ∙ g)
        go false g = next_in_range (length nodes) n (named k) x w g

    shape_well : (a : Shape) → has_name a o ≡ false → IsWellFormedShape n a → IsWellFormedShape copied_node (with_required o a)
    shape_well a off = well_but o n copied_node a (with_required o a) (but_with_required o a) (λ k d l. still_there k l) (λ none. none)
        (λ r. second_there) (λ r. false_from_ne_true (contains a.optional o) (λ t. true≢false (sym (or_right (contains a.required o) (contains a.optional o) t) ∙ off)))

    first_there : IsTrue (is_listed n m)
    first_there = ap is_some found

    pub copied_well : IsWellFormedNode (length nodes) copied_node
    copied_well = record {
      ascending = zip_sorted ks js edge.rises edge.count;
      children = all_found (λ j. j.place < length nodes) (zip ks js) (zip_sorted ks js edge.rises edge.count) in_range;
      other = w.other;
      shapes = All-map (IsWellFormedShape copied_node) (with_required o) n.shapes (λ i d lt. shape_well _ (c.absent i d lt) (w.shapes i d lt));
      some_shape = let size = length-map n.shapes (with_required o) in omega (arith, w.some_shape, size);
      twins = all_one (λ (t : Name × Name). IsTrue (is_listed copied_node t.0) × IsTrue (is_listed copied_node t.1)) (m, o)
          (still_there m first_there, second_there);
    }

    is_copied : IsCopied m o (opened nodes n) (opened nodes copied_node)
    is_copied = record {
      shapes = refl;
      ascending = sorted_over (λ s. form nodes) (zip ks js) (zip_sorted ks js edge.rises edge.count);
      children = λ k. find_over (λ s. form nodes) k (zip ks js) ∙ ap (option_map (form nodes)) (edge.leads k)
          ∙ go (eq_by_cmp name_cmp k o) (find name_cmp k n.children)
          ∙ sym (λ t. cond (eq_by_cmp name_cmp k o) (first t) (find_over (λ s. form nodes) k n.children t));
      other = refl;
      twins = refl;
    }
      where
        first : find name_cmp m (opened nodes n).children ≡ Some (form nodes below)
        first = find_over (λ s. form nodes) m n.children ∙ ap (option_map (form nodes)) found

        go : (b : Bool) (x : Option NodeId) → option_map (form nodes) (cond b (Some below) x) ≡ cond b (Some (form nodes below)) (option_map (form nodes) x)
        go true x = refl
        go false x = refl

    pub copy_goes : (new : Nodes) → new ≡ nodes ++ copied_node ∷ [] → (j : NodeId) → j.place ≡ length nodes
        → (T : Types) → Goes T (copy m o) (form nodes i) (form new j)
    copy_goes new is j at T = goes_copy (node_is nodes i n e h) (opened_can c) is_copied (form_added nodes new h copied_node copied_well is j at)
