-- The node of the names that two nodes have between them, and the view of a fork.
use Rattle.std.proofs.Common.{◌≡◌, ◌<◌, ◌≤◌, Bool, true, false, cond, not, ◌&&◌, IsTrue, IfSome, List, [], ◌∷◌, ◌++◌, length, map, get_or, slice_get, Option, Some, None, All, refl, sym, ap, subst, ◌∙◌, arith, inl, inr, append_assoc}
use Rattle.std.proofs.lemmas.List.{append-nil}
use Rattle.std.proofs.lemmas.Bool.{not-true, or_left, or_right}
use Rattle.std.proofs.lemmas.Option.{same_Some}
use Rattle.std.proofs.lemmas.List.Elements.{All-append, All-weaker}
use Rattle.std.specs.Option.{option_or, option_map}
use Rattle.std.specs.List.{zip}
use Rattle.std.specs.List.Sorted.{IsStrictlySortedBy}
use Rattle.std.specs.FinMap.{find}
use Rattle.std.specs.FinSet.{contains}
use Rattle.hm_tree.specs.Names.{Name, name_cmp}
use Rattle.hm_schema.specs.declared.node.NodeId.{NodeId}
use Rattle.hm_schema.specs.declared.node.Shape.{Shape}
use Rattle.hm_schema.specs.Values.{Names, NodeOver, NodeValue, is_listed}
use Rattle.hm_schema.specs.WellFormed.{IsWellFormedNode}
use Rattle.hm_schema.specs.Tidied.{has_name}
use Rattle.hm_schema.specs.Shapes.{IsShut, RequiresTwin, RequiresTwins}
use Rattle.hm_types_nodes.specs.Joining.{joined_shape, joined_shapes, CanJoin, IsJoined}
use Rattle.hm_schema.proofs.Drawn.{all_some}
use Rattle.hm_schema.proofs.Shapes.{required_has}
use Rattle.hm_types_nodes.proofs.JoinedNodes.{join_well, join_some, join_listed, join_child}
use Rattle.hm_types_forms.specs.Forms.{Form, form, named}
use Rattle.hm_types_rules.specs.Typing.{AreJoinable}
use Rattle.hm_types_rules.specs.Sources.{ForkView}
use Rattle.hm_types_table.specs.declared.kind.NodeKind.{NodeKind}
use Rattle.hm_types_table.specs.declared.vertex.Vertex.{Vertex}
use Rattle.hm_types_views.specs.Conditions.{CanJoinKinds, AddsNothing}
use Rattle.hm_types_views.specs.Overlays.{overlay}
use Rattle.hm_types_table.specs.Tables.{Nodes, AreFormed, opened, seat}
use Rattle.hm_types_table.proofs.Grown.{formed_at}
use Rattle.hm_types_forms.proofs.TidiedSteps.{next_in_range}
use Rattle.hm_types_table.proofs.Keys.{zip_sorted, all_found}
use Rattle.hm_types_table.proofs.Forms.{find_over, sorted_over, node_is, form_added}
use Rattle.hm_types_views.proofs.PartedNodes.{separates_parts, parts_separate, parts_raw}

-- a shape for each pair with one first shape more
pub joined_push : (xs : List Shape) (a : Shape) (bs : List Shape) → joined_shapes (xs ++ a ∷ []) bs ≡ joined_shapes xs bs ++ map (joined_shape a) bs
joined_push [] a bs = append-nil (map (joined_shape a) bs)
joined_push (x ∷ xs) a bs = ap (λ l. map (joined_shape x) bs ++ l) (joined_push xs a bs)
    ∙ sym (append_assoc (map (joined_shape x) bs) (joined_shapes xs bs) (map (joined_shape a) bs))

module _ (nodes : Nodes) (h : AreFormed nodes) (one two : NodeId) (k l : NodeKind) (v u : Vertex) (names : Names)
    (e : slice_get nodes one.place ≡ Some (seat k v)) (f : slice_get nodes two.place ≡ Some (seat l u))
    (count : length u.next.items ≡ length l.names.items) where
  abbrev n : NodeValue
  n = seat k v

  abbrev m : NodeValue
  m = seat l u

  pub cannot_join : (CanJoinKinds names k l → ⊥) → (x y : NodeOver Form) → AreJoinable names (form nodes one) (form nodes two) x y → ⊥
  cannot_join fails x y j = fails (record {
    shut = c.shut;
    inside = c.inside;
    outside = λ i d lt k t. not-true (contains names k) (c.outside i d lt k t);
    separate = parts_separate nodes h two l u f count names c.parts;
    few = c.few;
  })
    where
      first : x ≡ opened nodes n
      first = same_Some x (opened nodes n) (sym j.node_one ∙ node_is nodes one n e h)

      second : y ≡ opened nodes m
      second = same_Some y (opened nodes m) (sym j.node_two ∙ node_is nodes two m f h)

      c : CanJoin (contains names) (opened nodes n) (opened nodes m)
      c = subst (λ x. CanJoin (contains names) x (opened nodes m)) first (subst (CanJoin (contains names) x) second j.can)

  module _ (c : CanJoinKinds names k l) where
    can_raw : CanJoin (contains names) n m
    can_raw = record {
      shut = c.shut;
      inside = c.inside;
      outside = λ i d lt k t. ap not (c.outside i d lt k t);
      parts = parts_raw nodes h two l u f count names c.separate;
      few = c.few;
    }

    can_opened : CanJoin (contains names) (opened nodes n) (opened nodes m)
    can_opened = record {
      shut = c.shut;
      inside = c.inside;
      outside = λ i d lt k t. ap not (c.outside i d lt k t);
      parts = separates_parts nodes h two l u f count names c.separate;
      few = c.few;
    }

    module _ (ks : List Name) (js : List NodeId) (rises : IsStrictlySortedBy name_cmp ks) (size : length js ≡ length ks)
        (leads : (q : Name) → find name_cmp q (zip ks js) ≡ overlay names n.children m.children q) where
      abbrev pub joined_node : NodeValue
      joined_node = record { shapes = joined_shapes n.shapes m.shapes; children = zip ks js; other = m.other; twins = n.twins ++ m.twins }

      raw : IsJoined (contains names) n m joined_node
      raw = record { shapes = refl; ascending = zip_sorted ks js rises size; children = leads; other = refl; twins = refl }

      over_both : (b : Bool) (x y : Option NodeId) → option_map (form nodes) (option_or (cond b x None) y)
          ≡ option_or (cond b (option_map (form nodes) x) None) (option_map (form nodes) y)
      over_both true None y = refl
      over_both true (Some x) y = refl
      over_both false x y = refl

      is_joined : IsJoined (contains names) (opened nodes n) (opened nodes m) (opened nodes joined_node)
      is_joined = record {
        shapes = refl;
        ascending = sorted_over (λ s. form nodes) (zip ks js) (zip_sorted ks js rises size);
        children = λ q. find_over (λ s. form nodes) q (zip ks js) ∙ ap (option_map (form nodes)) (leads q)
            ∙ over_both (contains names q) (find name_cmp q n.children) (find name_cmp q m.children)
            ∙ sym (λ t. option_or (cond (contains names q) (find_over (λ s. form nodes) q n.children t) None) (find_over (λ s. form nodes) q m.children t));
        other = refl;
        twins = refl;
      }

      module _ (own : RequiresTwins n) where
        first_well : IsWellFormedNode (length nodes) n
        first_well = formed_at nodes one n h e

        second_well : IsWellFormedNode (length nodes) m
        second_well = formed_at nodes two m h f

        in_range : (q : Name) (x : NodeId) → find name_cmp q (zip ks js) ≡ Some x → x.place < length nodes
        in_range q x g = elim (join_child (contains names) n m joined_node can_raw raw q x g) [
          | inl a ↦ next_in_range (length nodes) n (named q) x first_well a
          | inr b ↦ next_in_range (length nodes) m (named q) x second_well b
        ]

        from_first : (q : Name) → IsTrue (contains names q) → IsTrue (is_listed n q) → IsTrue (is_listed joined_node q)
        from_first q t g = join_listed (contains names) n m joined_node can_raw raw q
            ∙ or_left (contains names q && is_listed n q) (is_listed m q) (ap (λ b. b && is_listed n q) t ∙ g)

        from_second : (q : Name) → IsTrue (is_listed m q) → IsTrue (is_listed joined_node q)
        from_second q g = join_listed (contains names) n m joined_node can_raw raw q ∙ or_right (contains names q && is_listed n q) (is_listed m q) g

        abbrev Both : NodeValue → Name × Name → Type 0
        Both x t = IsTrue (is_listed x t.0) × IsTrue (is_listed x t.1)

        -- a twin of the first node is required in some shape of it, so that its names are in the set
        first_twins : All (Both joined_node) n.twins
        first_twins i d lt =
            let some = all_some (λ a. RequiresTwin a (get_or n.twins i d) × ((q : Name) → IsTrue (has_name a q) → contains names q ≡ true)) n.shapes
            first_well.some_shape (λ j a less. (own j a less i d lt, c.inside j a less)) in
            let both = first_well.twins i d lt in
            let twin : Name × Name = get_or n.twins i d in (
              from_first twin.0 (some.1.1 twin.0 (required_has some.0 twin.0 some.1.0.one)) both.0,
              from_first twin.1 (some.1.1 twin.1 (required_has some.0 twin.1 some.1.0.two)) both.1,
            )

        pub joined_well : IsWellFormedNode (length nodes) joined_node
        joined_well = record {
          ascending = zip_sorted ks js rises size;
          children = all_found (λ j. j.place < length nodes) (zip ks js) (zip_sorted ks js rises size) in_range;
          other = second_well.other;
          shapes = join_well (contains names) n m joined_node can_raw raw first_well.shapes second_well.shapes;
          some_shape = join_some (contains names) n m joined_node can_raw raw first_well.some_shape second_well.some_shape;
          twins = All-append (Both joined_node) n.twins m.twins first_twins
              (All-weaker (Both m) (Both joined_node) (λ t g. (from_second t.0 g.0, from_second t.1 g.1)) m.twins second_well.twins);
        }

        pub fork_view : (new : Nodes) → new ≡ nodes ++ joined_node ∷ [] → (j : NodeId) → j.place ≡ length nodes
            → ForkView names (form nodes one) (form nodes two) (form new j)
        fork_view new is j at = record {
          one = opened nodes n;
          two = opened nodes m;
          joinable = record { node_one = node_is nodes one n e h; node_two = node_is nodes two m f h; can = can_opened };
          node = opened nodes joined_node;
          joined = is_joined;
          is = form_added nodes new h joined_node joined_well is j at;
        }

-- a shape that lets no unlisted name in counts none
pub adds_nothing : (nodes : Nodes) (h : AreFormed nodes) (i : NodeId) (k : NodeKind) (v : Vertex) → slice_get nodes i.place ≡ Some (seat k v)
    → All IsShut k.shapes.items → All AddsNothing k.shapes.items
adds_nothing nodes h i k v e shuts j d lt =
    let well = (formed_at nodes i (seat k v) h e).shapes j d lt in
    let le : (get_or k.shapes.items j d).least ≤ 0 =
    subst (λ m. IfSome m (λ most. (get_or k.shapes.items j d).least ≤ most)) (shuts j d lt) well.ordered in
    record { least = omega arith; most = shuts j d lt }
