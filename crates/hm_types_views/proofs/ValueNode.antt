-- The node of values of another class, and where a text lens goes.
use Rattle.std.proofs.Common.{◌≡◌, ℕ, ◌<◌, false, IsTrue, is_some, List, [], ◌∷◌, ◌++◌, length, map, slice_get, Option, Some, None, IfSome, All, refl, sym, ap, subst, ◌∙◌, arith}
use Rattle.std.specs.List.{zip}
use Rattle.std.proofs.lemmas.Slice.Zip.{firsts-zip}
use Rattle.std.specs.Option.{option_map, MatchOption}
use Rattle.std.specs.FinMap.{find}
use Rattle.std.proofs.lemmas.Bool.{true≢false}
use Rattle.std.proofs.lemmas.List.Elements.{All-nil, All-weaker}
use Rattle.std.proofs.lemmas.Option.{same_Some, none-some}
use Rattle.hm_tree.specs.declared.class.Class.{Class}
use Rattle.hm_tree.specs.Names.{Name, name_cmp}
use Rattle.hm_schema.specs.declared.node.NodeId.{NodeId}
use Rattle.hm_schema.specs.Values.{NodeOver, NodeValue, is_listed}
use Rattle.hm_schema.specs.WellFormed.{IsWellFormedNode, IsWellFormedShape}
use Rattle.hm_terms.specs.Lenses.{text}
use Rattle.hm_schema_lists.specs.Values.{IsValueNode, IsEmptyNode, with_class}
use Rattle.hm_types_forms.specs.Forms.{Form, form, formed, node_of}
use Rattle.hm_types_rules.specs.Typing.{Types, Goes, goes_text, AreValues}
use Rattle.hm_types_rules.specs.Faults.{Faults, fault_text, at}
use Rattle.hm_types_table.specs.declared.kind.NodeKind.{NodeKind}
use Rattle.hm_types_table.specs.Tables.{Nodes, AreFormed, keys, opened, seated}
use Rattle.hm_types_table.proofs.Grown.{formed_at}
use Rattle.hm_types_table.proofs.Forms.{node_is, form_added}

no_children : {X Y : Type 0} (f : X → Y) (xs : List X) → map f xs ≡ [] → xs ≡ []
no_children f [] e = refl
no_children f (x ∷ xs) e = let none : ⊥ = cc in absurd none

-- where a kind lists no names there are none
pub none_listed : (k : NodeKind) (js : List NodeId) → length js ≡ length k.names.items → zip k.names.items js ≡ [] → length k.names.items ≡ 0
none_listed k js count e = ap length (sym (firsts-zip k.names.items js count)) ∙ ap (λ (es : List (Name × NodeId)). length (keys es)) e

pub other_inside : (count : ℕ) (n : NodeValue) (c : Class) (A : Type 0) (x : Option NodeId) → IsWellFormedNode count n
    → MatchOption x A (λ i. n.other ≡ Some (c, i)) → IfSome x (λ i. i.place < count)
other_inside count n c A None w m = tt
other_inside count n c A (Some i) w m = subst (λ o. IfSome o (λ (o : Class × NodeId). o.1.place < count)) m w.other

module _ (nodes : Nodes) (h : AreFormed nodes) (id : NodeId) (n : NodeValue) (e : slice_get nodes id.place ≡ Some n) (c : Class) where
  abbrev led : Class × NodeId → Class × Form
  led o = (o.0, form nodes o.1)

  well : IsWellFormedNode (length nodes) n
  well = formed_at nodes id n h e

  -- a node of values and the node over the forms of what it leads to
  opened_values : (i : NodeId) → IsValueNode c i n → IsValueNode c (form nodes i) (opened nodes n)
  opened_values i v = record {
    shapes = v.shapes;
    unlisted = ap (map (λ (k : Name × NodeId). (k.0, form nodes k.1))) v.unlisted;
    other = ap (option_map led) v.other;
  }

  record IsOpened (x : Form) : Type 0 where
    node : NodeId
    values : IsValueNode c node n
    is : form nodes node ≡ x

  values_opened : (x : Form) → IsValueNode c x (opened nodes n) → IsOpened x
  values_opened x v = go n.other refl v.other
    where
      go : (o : Option (Class × NodeId)) → n.other ≡ o → option_map led o ≡ Some (c, x) → IsOpened x
      go None f g = absurd (none-some (c, x) g)
      go (Some (d, i)) f g =
          let same : (d, form nodes i) ≡ (c, x) = same_Some (d, form nodes i) (c, x) g in
          record {
            node = i;
            values = record {
              shapes = v.shapes;
              unlisted = no_children (λ (k : Name × NodeId). (k.0, form nodes k.1)) n.children v.unlisted;
              other = f ∙ (λ j. Some ((same j).0, i));
            };
            is = ap (λ (p : Class × Form). p.1) same;
          }

  -- a form of values begins at this node
  is_node : (w : NodeOver Form) → AreValues c (form nodes id) w → w ≡ opened nodes n
  is_node w a = same_Some w (opened nodes n) (sym a.node ∙ node_is nodes id n e h)

  pub not_values : ((i : NodeId) → ¬ (IsValueNode c i n)) → (w : NodeOver Form) → ¬ (AreValues c (form nodes id) w)
  not_values fails w a = let x = values_opened a.value (subst (IsValueNode c a.value) (is_node w a) a.values) in fails x.node x.values

  module _ (i : NodeId) (v : IsValueNode c i n) (b : NodeValue) (f : slice_get nodes i.place ≡ Some b) where
    pub not_empty : ¬ (IsEmptyNode b) → (w : NodeOver Form) → ¬ (AreValues c (form nodes id) w)
    not_empty fails w a =
        let x = values_opened a.value (subst (IsValueNode c a.value) (is_node w a) a.values) in
        let one : x.node ≡ i = ap (λ (p : Class × NodeId). p.1) (same_Some (c, x.node) (c, i) (sym x.values.other ∙ v.other)) in
        let below : a.below ≡ opened nodes b =
        same_Some a.below (opened nodes b) (sym a.is_below ∙ ap node_of (sym x.is ∙ ap (form nodes) one) ∙ node_is nodes i b f h) in
        fails (subst (λ (b : NodeOver Form). IsEmptyNode b) below a.empty)

    pub are_values : IsEmptyNode b → AreValues c (form nodes id) (opened nodes n)
    are_values empty = record {
      node = node_is nodes id n e h;
      value = form nodes i;
      values = opened_values i v;
      below = opened nodes b;
      is_below = node_is nodes i b f h;
      empty = empty;
    }

  pub text_faults : ((w : NodeOver Form) → ¬ (AreValues c (form nodes id) w)) → (d : Class) (T : Types) (x : Name) (k : ℕ) → T.texts x ≡ Some (c, d)
      → Faults T (text x) k (form nodes id) (at k 14)
  text_faults fails d T x k is = fault_text (λ one two w f a.
      fails w (subst (λ c. AreValues c (form nodes id) w) (ap (λ (p : Class × Class). p.0) (same_Some (one, two) (c, d) (sym f ∙ is))) a))

  -- ---- the node of another class

  module _ (i : NodeId) (lt : i.place < length nodes) (v : IsValueNode c i n) (d : Class) where
    abbrev valued_node : NodeValue
    valued_node = record { shapes = n.shapes; children = []; other = Some (d, i); twins = [] }

    unlisted : (k : Name) → is_listed n k ≡ false
    unlisted k = ap (λ cs. is_some (find name_cmp k cs)) v.unlisted

    no_twins : (ts : List (Name × Name)) → All (λ t. IsTrue (is_listed n t.0) × IsTrue (is_listed n t.1)) ts → ts ≡ []
    no_twins [] all = refl
    no_twins (t ∷ ts) all = absurd (true≢false (sym (all 0 t (omega arith)).0 ∙ unlisted t.0))

    valued_well : IsWellFormedNode (length nodes) valued_node
    valued_well = record {
      ascending = tt;
      children = All-nil (λ (k : Name × NodeId). k.1.place < length nodes);
      other = lt;
      shapes = All-weaker (IsWellFormedShape n) (IsWellFormedShape valued_node) (λ a w. record {
        listed = λ k t. absurd (true≢false (sym (w.listed k t) ∙ unlisted k));
        apart = w.apart;
        ordered = w.ordered;
        none = λ g. absurd (none-some (d, i) (sym g));
      }) n.shapes well.shapes;
      some_shape = well.some_shape;
      twins = All-nil (λ (t : Name × Name). IsTrue (is_listed valued_node t.0) × IsTrue (is_listed valued_node t.1));
    }

    module _ (k : NodeKind) (js : List NodeId) (shapes : k.shapes.items ≡ n.shapes) (names : k.names.items ≡ []) (twins : k.twins.items ≡ []) where
      pub valued_is : seated k js (Some (d, i)) ≡ valued_node
      valued_is = λ j. record { shapes = shapes j; children = zip (names j) js; other = Some (d, i); twins = twins j }

      pub valued_seated : IsWellFormedNode (length nodes) (seated k js (Some (d, i)))
      valued_seated = subst (IsWellFormedNode (length nodes)) (sym valued_is) valued_well

      opened_is : opened nodes valued_node ≡ with_class d (opened nodes n)
      opened_is =
          let children = ap (map (λ (k : Name × NodeId). (k.0, form nodes k.1))) v.unlisted in
          let other = ap (λ o. option_map (λ (o : Class × Form). with_other o) (option_map led o)) v.other in
          let plain = no_twins n.twins well.twins in
          λ j. record { shapes = n.shapes; children = sym children j; other = sym other j; twins = sym plain j }
        where
          with_other : Class × Form → Class × Form
          with_other o = (d, o.1)

      pub text_goes : AreValues c (form nodes id) (opened nodes n) → (new : Nodes) → new ≡ nodes ++ seated k js (Some (d, i)) ∷ [] → (j : NodeId)
          → j.place ≡ length nodes → (T : Types) (x : Name) → T.texts x ≡ Some (c, d) → Goes T (text x) (form nodes id) (form new j)
      text_goes a new is j place T x f = goes_text f a
          (form_added nodes new h (seated k js (Some (d, i))) valued_seated is j place ∙ ap (λ n. formed (opened nodes n)) valued_is ∙ ap formed opened_is)
