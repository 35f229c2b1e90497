-- Where hoisting the child of one name goes, and plunging under one name.
use Rattle.std.proofs.Common.{◌≡◌, ◌⊎◌, ℕ, ◌<◌, ◌||◌, true, false, T, IsTrue, is_some, List, [], ◌∷◌, ◌++◌, length, slice_get, Some, None, All, IfSome, Option, refl, sym, ap, subst, ◌∙◌, arith, inl, inr}
use Rattle.std.specs.List.{zip}
use Rattle.std.proofs.lemmas.Bool.{true≢false, or_cases}
use Rattle.std.proofs.lemmas.List.Elements.{All-nil}
use Rattle.std.specs.Option.{option_map, MatchOption}
use Rattle.std.specs.FinMap.{find}
use Rattle.std.specs.FinMap.Entries.{is_some-find}
use Rattle.std.specs.FinSet.{contains, from_list, contains-from_list}
use Rattle.hm_tree.specs.Names.{Name, name_cmp}
use Rattle.hm_tree.proofs.Sorted.{name_total}
use Rattle.hm_tree.proofs.NameSets.{tied_self}
use Rattle.hm_schema.specs.declared.node.NodeId.{NodeId}
use Rattle.hm_schema.specs.declared.node.Shape.{Shape}
use Rattle.hm_schema.specs.Values.{NodeValue, is_listed}
use Rattle.hm_schema.specs.WellFormed.{IsWellFormedNode, IsWellFormedShape}
use Rattle.hm_terms.specs.Lenses.{hoist, plunge}
use Rattle.hm_schema.proofs.Drawn.{all_some}
use Rattle.hm_schema.proofs.Elements.{all_one}
use Rattle.hm_schema.proofs.Shapes.{required_has}
use Rattle.hm_types_forms.specs.Forms.{form, formed, named}
use Rattle.hm_types_rules.specs.Typing.{Types, Goes, goes_hoist, goes_plunge, IsAlone}
use Rattle.hm_schema_lists.specs.Plain.{exact_shape}
use Rattle.hm_types_rules.specs.Faults.{Faults, fault_hoist, at}
use Rattle.hm_types_table.specs.declared.kind.NodeKind.{NodeKind}
use Rattle.hm_types_table.specs.Tables.{Nodes, AreFormed, opened, seated}
use Rattle.hm_types_table.proofs.Grown.{formed_at}
use Rattle.hm_types_forms.proofs.TidiedSteps.{next_in_range}
use Rattle.hm_types_table.proofs.Forms.{find_over, node_is, not_node, form_added}

module _ (nodes : Nodes) (h : AreFormed nodes) (i : NodeId) (n : NodeValue) (e : slice_get nodes i.place ≡ Some n) (m : Name) where
  pub hoist_goes : n.twins ≡ [] → All (λ a. a ≡ exact_shape (from_list (m ∷ []))) n.shapes → (j : NodeId) → find name_cmp m n.children ≡ Some j
      → (T : Types) → Goes T (hoist m) (form nodes i) (form nodes j)
  hoist_goes plain alone j found T = goes_hoist (node_is nodes i n e h) (record { shapes = alone; plain = plain })
      (find_over (λ s. form nodes) m n.children ∙ ap (option_map (form nodes)) found)

  pub hoist_faults : (IsAlone m (opened nodes n) → ⊥) → (T : Types) (k : ℕ) → Faults T (hoist m) k (form nodes i) (at k 4)
  hoist_faults fails T k = fault_hoist (not_node nodes i n e h (IsAlone m) fails)

  -- a name that is required alone is listed
  pub alone_listed : IsAlone m (opened nodes n) → find name_cmp m n.children ≡ None → ⊥
  alone_listed a none =
      let w = formed_at nodes i n h e in
      let one = all_some (λ a. (a ≡ exact_shape (from_list (m ∷ []))) × IsWellFormedShape n a) n.shapes w.some_shape (λ i d lt. (a.shapes i d lt, w.shapes i d lt)) in
      let there : IsTrue (contains one.0.required m) = ap (λ (a : Shape). contains a.required m) one.1.0 ∙ contains-from_list name_total (m ∷ []) m
      ∙ ap (λ b. b || false) (tied_self m) in
      true≢false (sym (one.1.1.listed m (required_has one.0 m there)) ∙ ap is_some none)

  -- what a look at the name gives
  pub hoist_found : (x : Option NodeId) → x ≡ find name_cmp m n.children → n.twins ≡ [] → All (λ a. a ≡ exact_shape (from_list (m ∷ []))) n.shapes
      → MatchOption x ((T : Types) (k : ℕ) → Faults T (hoist m) k (form nodes i) (at k 4)) (λ j. (T : Types) → Goes T (hoist m) (form nodes i) (form nodes j))
  hoist_found None f plain alone = hoist_faults (λ a. alone_listed a (sym f))
  hoist_found (Some j) f plain alone = hoist_goes plain alone j (sym f)

  pub child_in_range : (x : Option NodeId) → x ≡ find name_cmp m n.children → IfSome x (λ j. j.place < length nodes)
  child_in_range None f = tt
  child_in_range (Some j) f = next_in_range (length nodes) n (named m) j (formed_at nodes i n h e) (sym f)

-- a node with one name, which is required, over a node
abbrev pub plunged_node : Name → NodeId → NodeValue
plunged_node m i = record { shapes = exact_shape (from_list (m ∷ [])) ∷ []; children = (m, i) ∷ []; other = None; twins = [] }

plunged_well : (count : ℕ) (k : Name) (i : NodeId) → i.place < count → IsWellFormedNode count (plunged_node k i)
plunged_well count k i lt = record {
  ascending = tt;
  children = all_one (λ (c : Name × NodeId). c.1.place < count) (k, i) lt;
  other = tt;
  shapes = all_one (IsWellFormedShape (plunged_node k i)) (exact_shape (from_list (k ∷ []))) (record {
    listed = λ m t. is_some-find name_cmp m ((k, i) ∷ []) ∙ sym (contains-from_list name_total (k ∷ []) m)
        ∙ one m (or_cases (contains (from_list {R = name_cmp} (k ∷ [])) m) (contains (from_list {R = name_cmp} []) m) t);
    apart = λ m t. contains-from_list name_total [] m;
    ordered = omega arith;
    none = λ e. (refl, refl);
  });
  some_shape = omega arith;
  twins = All-nil (λ (t : Name × Name). IsTrue (is_listed (plunged_node k i) t.0) × IsTrue (is_listed (plunged_node k i) t.1));
}
  where
    one : (m : Name) → IsTrue (contains (from_list {R = name_cmp} (k ∷ [])) m) ⊎ IsTrue (contains (from_list {R = name_cmp} []) m)
        → contains (from_list {R = name_cmp} (k ∷ [])) m ≡ true
    one m (inl e) = e
    one m (inr e) = absurd (true≢false (sym e ∙ contains-from_list name_total [] m))

module _ (nodes : Nodes) (i : NodeId) (lt : i.place < length nodes) (m : Name) (k : NodeKind) (js : List NodeId)
    (shapes : k.shapes.items ≡ exact_shape (from_list (m ∷ [])) ∷ []) (names : k.names.items ≡ m ∷ []) (twins : k.twins.items ≡ []) (next : js ≡ i ∷ []) where
  pub plunged_is : seated k js None ≡ plunged_node m i
  plunged_is = λ d. record { shapes = shapes d; children = zip (names d) (next d); other = None; twins = twins d }

  pub plunged_seated : IsWellFormedNode (length nodes) (seated k js None)
  plunged_seated = subst (IsWellFormedNode (length nodes)) (sym plunged_is) (plunged_well (length nodes) m i lt)

  pub plunge_goes : (new : Nodes) → AreFormed nodes → new ≡ nodes ++ seated k js None ∷ [] → (j : NodeId) → j.place ≡ length nodes
      → (T : Types) → Goes T (plunge m) (form nodes i) (form new j)
  plunge_goes new h is j at T = goes_plunge (form_added nodes new h (seated k js None) plunged_seated is j at ∙ ap (λ n. formed (opened nodes n)) plunged_is)
