-- The node of the shapes of two nodes, merged on a name, and the view of a conditional that is told apart by it.
use Rattle.std.proofs.Common.{◌≡◌, ◌⊎◌, ◌<◌, ◌≤◌, Bool, true, false, cond, IsTrue, IfSome, is_some, List, [], ◌∷◌, ◌++◌, length, slice_get, Option, Some, None, All, refl, sym, ap, subst, ◌∙◌, inl, inr}
use mathlib.Core.Bool.{true≢false}
use Rattle.std.specs.List.{zip, list_any}
use Rattle.std.specs.List.Sorted.{IsStrictlySortedBy}
use Rattle.std.specs.Option.{option_or, option_map}
use Rattle.std.specs.Ordering.{eq_by_cmp}
use Rattle.std.specs.FinMap.{find}
use Rattle.std.specs.FinSet.{contains, from_list, contains-from_list}
use Rattle.std.proofs.lemmas.Bool.{false_from_ne_true}
use Rattle.std.proofs.lemmas.Option.{same_Some, none-some}
use Rattle.std.proofs.lemmas.List.Elements.{All-nil, All-cons, All-head, All-tail}
use Rattle.std.proofs.lemmas.List.Folds.{Any-from_list_any}
use Rattle.std.proofs.lemmas.Map.Keys.{any_passes_from_place}
use Rattle.hm_tree.specs.declared.class.Class.{Class}
use Rattle.hm_tree.specs.Names.{Name, name_cmp}
use Rattle.hm_tree.specs.Nodes.{Tree}
use Rattle.hm_tree.proofs.Sorted.{name_total}
use Rattle.hm_tree.proofs.NameSets.{tied_one, tied_self}
use Rattle.hm_schema.specs.declared.node.NodeId.{NodeId}
use Rattle.hm_schema.specs.declared.node.Shape.{Shape}
use Rattle.hm_schema.specs.Values.{NodeOver, NodeValue, is_listed}
use Rattle.hm_schema.specs.WellFormed.{IsWellFormedNode}
use Rattle.hm_schema.specs.Shapes.{IsShut}
use Rattle.hm_schema.specs.Standing.{Alike}
use Rattle.hm_types_nodes.specs.Merging.{CanMerge, IsMerged, merged_shapes}
use Rattle.hm_schema.proofs.Elements.{any_some}
use Rattle.hm_types_nodes.proofs.MergedNodes.{merged_well, merged_some}
use Rattle.hm_types_forms.specs.Forms.{Form, form, named}
use Rattle.hm_types_forms.specs.SameForms.{IsSame}
use Rattle.hm_types_rules.specs.Typing.{AreMergeable}
use Rattle.hm_types_rules.specs.Sources.{MergeView}
use Rattle.hm_types_table.specs.declared.kind.NodeKind.{NodeKind}
use Rattle.hm_types_table.specs.declared.vertex.Vertex.{Vertex}
use Rattle.hm_types_views.specs.Conditions.{IsIn}
use Rattle.hm_types_views.specs.Hiding.{StandForSame, LeadToSame}
use Rattle.hm_types_views.specs.Merging.{CanMergeKinds, OthersAgree, NodesAgree}
use Rattle.hm_types_views.specs.Overlays.{overlay}
use Rattle.hm_types_table.specs.Tables.{Nodes, AreFormed, opened, seat}
use Rattle.hm_types_table.proofs.BesideNames.{listed_beside}
use Rattle.hm_types_table.proofs.Grown.{formed_at}
use Rattle.hm_types_forms.proofs.TidiedSteps.{next_in_range}
use Rattle.hm_types_table.proofs.Keys.{zip_sorted, all_found}
use Rattle.hm_types_table.proofs.Forms.{find_over, sorted_over, is_listed_over, node_is, form_added}
use Rattle.hm_types_views.proofs.HiddenNode.{opened_led, mapped_same}

-- ---- names

-- what holds of each of some names holds of each that is among them
pub all_in_names : (ks : List Name) (P : Name → Type 0) → All P ks → (k : Name) → IsIn ks k → P k
all_in_names ks P all k t = any_some (λ m. IsTrue (eq_by_cmp name_cmp k m)) P (λ m p t. subst P (sym (tied_one k m t)) p) ks all
    (Any-from_list_any (eq_by_cmp name_cmp k) ks t)

-- a name at a place is among them
pub name_at : (ks : List Name) (i : _) (k : Name) → slice_get ks i ≡ Some k → IsIn ks k
name_at ks i k at = any_passes_from_place (eq_by_cmp name_cmp k) ks i k at (tied_self k)

-- what each name of a kind leads to says it of all names
pub all_lead : (nodes : Nodes) (n m : NodeValue) (k : NodeKind) (v : Vertex) → n ≡ seat k v → length v.next.items ≡ length k.names.items
    → All (λ q. LeadToSame nodes (find name_cmp q n.children) (find name_cmp q m.children)) k.names.items
    → (q : Name) → LeadToSame nodes (find name_cmp q n.children) (find name_cmp q m.children)
all_lead nodes n m k v is count all q i j e f = all_in_names k.names.items
    (λ q. LeadToSame nodes (find name_cmp q n.children) (find name_cmp q m.children)) all q
    (sym (listed_beside k.names.items v.next.items q count) ∙ ap is_some (ap (λ (n : NodeValue). find name_cmp q n.children) (sym is) ∙ e)) i j e f

-- where all names of a list are in a set, that list comes first
pub overlay_all : {X : Type 0} (ks : List Name) (xs : List X) (es : List (Name × X)) → length xs ≡ length ks → (k : Name)
    → overlay (from_list ks) (zip ks xs) es k ≡ option_or (find name_cmp k (zip ks xs)) (find name_cmp k es)
overlay_all {X} ks xs es count k = ap (λ x. option_or x (find name_cmp k es))
    (go (contains (from_list {R = name_cmp} ks) k) (find name_cmp k (zip ks xs)) (listed_beside ks xs k count ∙ sym (contains-from_list name_total ks k)))
  where
    go : (b : Bool) (x : Option X) → is_some x ≡ b → cond b x None ≡ x
    go true x h = refl
    go false None h = refl
    go false (Some x) h = absurd (true≢false h)

-- ---- conditions on a kind and on the form of a node of it

-- each shape lets no unlisted name in, or a fact holds
lists_split : (P : Type 0) (shapes : List Shape) → All (λ b. IsShut b ⊎ P) shapes → All IsShut shapes ⊎ P
lists_split P [] all = inl (All-nil IsShut)
lists_split P (a ∷ shapes) all = go (All-head (λ b. IsShut b ⊎ P) a shapes all) (lists_split P shapes (All-tail (λ b. IsShut b ⊎ P) a shapes all))
  where
    go : IsShut a ⊎ P → All IsShut shapes ⊎ P → All IsShut (a ∷ shapes) ⊎ P
    go (inr p) r = inr p
    go (inl s) (inl all) = inl (All-cons IsShut a shapes s all)
    go (inl s) (inr p) = inr p

lists_each : (P : Type 0) (shapes : List Shape) → All IsShut shapes ⊎ P → All (λ b. IsShut b ⊎ P) shapes
lists_each P shapes (inl all) = λ i d lt. inl (all i d lt)
lists_each P shapes (inr p) = λ i d lt. inr p

both_ways : (a b : Bool) → (IsTrue a → IsTrue b) → (IsTrue b → IsTrue a) → a ≡ b
both_ways true b f g = sym (f refl)
both_ways false b f g = sym (false_from_ne_true b (λ t. true≢false (sym (g t))))

module _ (nodes : Nodes) where
  abbrev led : Class × NodeId → Class × Form
  led o = (o.0, form nodes o.1)

  -- what all other names lead to in two nodes, and in these nodes over forms
  others_led : (o p : Option (Class × NodeId)) → OthersAgree nodes o p → (x y : Class × Form) → option_map led o ≡ Some x → option_map led p ≡ Some y
      → (x.0 ≡ y.0) × IsSame x.1 y.1
  others_led None p h x y e f = absurd (none-some x e)
  others_led (Some o) None h x y e f = absurd (none-some y f)
  others_led (Some o) (Some p) h x y e f = subst (λ (x : Class × Form). (x.0 ≡ y.0) × IsSame x.1 y.1) (same_Some (led o) x e)
      (subst (λ (y : Class × Form). (o.0 ≡ y.0) × IsSame (form nodes o.1) y.1) (same_Some (led p) y f) (h o p refl refl))

  led_others : (o p : Option (Class × NodeId)) → ((x y : Class × Form) → option_map led o ≡ Some x → option_map led p ≡ Some y
      → (x.0 ≡ y.0) × IsSame x.1 y.1) → OthersAgree nodes o p
  led_others o p h x y e f = h (led x) (led y) (ap (option_map led) e) (ap (option_map led) f)

module _ (nodes : Nodes) (h : AreFormed nodes) (one two : NodeId) (k l : NodeKind) (v u : Vertex) (o : Name)
    (e : slice_get nodes one.place ≡ Some (seat k v)) (f : slice_get nodes two.place ≡ Some (seat l u))
    (one_count : length v.next.items ≡ length k.names.items) (two_count : length u.next.items ≡ length l.names.items) where
  abbrev n : NodeValue
  n = seat k v

  abbrev m : NodeValue
  m = seat l u

  in_one : (q : Name) → is_listed n q ≡ list_any (eq_by_cmp name_cmp q) k.names.items
  in_one q = listed_beside k.names.items v.next.items q one_count

  in_two : (q : Name) → is_listed m q ≡ list_any (eq_by_cmp name_cmp q) l.names.items
  in_two q = listed_beside l.names.items u.next.items q two_count

  over_one : (q : Name) → is_listed (opened nodes n) q ≡ list_any (eq_by_cmp name_cmp q) k.names.items
  over_one q = is_listed_over (λ s. form nodes) n q ∙ in_one q

  over_two : (q : Name) → is_listed (opened nodes m) q ≡ list_any (eq_by_cmp name_cmp q) l.names.items
  over_two q = is_listed_over (λ s. form nodes) m q ∙ in_two q

  pub cannot_merge : (CanMergeKinds o k l → NodesAgree nodes n m → length (merged_shapes o k.shapes.items l.shapes.items) ≤ 256 → ⊥)
      → (x y : NodeOver Form) → AreMergeable o (form nodes one) (form nodes two) x y → ⊥
  cannot_merge fails x y j = fails (record {
    apart = record { required = c.required; absent = c.absent };
    lists = lists_split (IsIn l.names.items o) l.shapes.items (λ i d lt. elim (c.lists i d lt) [ inl s ↦ inl s | inr t ↦ inr (sym (over_two o) ∙ t) ]);
    listed = elim c.agree.listed [
      | inl s ↦ inl (record { first = s.0; second = s.1 })
      | inr g ↦ inr (record {
        into = λ q t. sym (over_two q) ∙ sym (g q) ∙ over_one q ∙ t;
        from = λ q t. sym (over_one q) ∙ g q ∙ over_two q ∙ t;
      })
    ];
    plain_one = c.plain_one;
    plain_two = c.plain_two;
  }) (record {
    names = λ q. opened_led nodes n m q q (λ u v a b. c.agree.children q u v a b);
    others = led_others nodes n.other m.other c.agree.others;
  }) c.few
    where
      first : x ≡ opened nodes n
      first = same_Some x (opened nodes n) (sym j.node_one ∙ node_is nodes one n e h)

      second : y ≡ opened nodes m
      second = same_Some y (opened nodes m) (sym j.node_two ∙ node_is nodes two m f h)

      c : CanMerge IsSame o (opened nodes n) (opened nodes m)
      c = subst (λ x. CanMerge IsSame o x (opened nodes m)) first (subst (CanMerge IsSame o x) second j.can)

  module _ (c : CanMergeKinds o k l) (agree : NodesAgree nodes n m) (few : length (merged_shapes o k.shapes.items l.shapes.items) ≤ 256) where
    same_listing : (a b : Name → Bool) → ((q : Name) → a q ≡ list_any (eq_by_cmp name_cmp q) k.names.items)
        → ((q : Name) → b q ≡ list_any (eq_by_cmp name_cmp q) l.names.items)
        → (All IsShut k.shapes.items × All IsShut l.shapes.items) ⊎ ((q : Name) → a q ≡ b q)
    same_listing a b x y = elim c.listed [
      | inl s ↦ inl (s.first, s.second)
      | inr g ↦ inr (λ q. both_ways (a q) (b q) (λ t. y q ∙ g.into q (sym (x q) ∙ t)) (λ t. x q ∙ g.from q (sym (y q) ∙ t)))
    ]

    raw : CanMerge (StandForSame nodes) o n m
    raw = record {
      required = c.apart.required;
      absent = c.apart.absent;
      lists = lists_each (IsTrue (is_listed m o)) l.shapes.items (elim c.lists [ inl s ↦ inl s | inr t ↦ inr (in_two o ∙ t) ]);
      agree = record { children = agree.names; others = agree.others; listed = same_listing (is_listed n) (is_listed m) in_one in_two };
      plain_one = c.plain_one;
      plain_two = c.plain_two;
      few = few;
    }

    can : CanMerge IsSame o (opened nodes n) (opened nodes m)
    can = record {
      required = c.apart.required;
      absent = c.apart.absent;
      lists = lists_each (IsTrue (is_listed (opened nodes m) o)) l.shapes.items (elim c.lists [ inl s ↦ inl s | inr t ↦ inr (over_two o ∙ t) ]);
      agree = record {
        children = λ q x y a b. mapped_same nodes (find name_cmp q n.children) (find name_cmp q m.children) (agree.names q) x y
            (sym (find_over (λ s. form nodes) q n.children) ∙ a) (sym (find_over (λ s. form nodes) q m.children) ∙ b);
        others = others_led nodes n.other m.other agree.others;
        listed = same_listing (is_listed (opened nodes n)) (is_listed (opened nodes m)) over_one over_two;
      };
      plain_one = c.plain_one;
      plain_two = c.plain_two;
      few = few;
    }

    module _ (ks : List Name) (js : List NodeId) (rises : IsStrictlySortedBy name_cmp ks) (size : length js ≡ length ks)
        (leads : (q : Name) → find name_cmp q (zip ks js) ≡ option_or (find name_cmp q n.children) (find name_cmp q m.children)) where
      abbrev pub merged_node : NodeValue
      merged_node = record { shapes = merged_shapes o n.shapes m.shapes; children = zip ks js; other = option_or n.other m.other; twins = [] }

      raw_merged : IsMerged o n m merged_node
      raw_merged = record { shapes = refl; ascending = zip_sorted ks js rises size; children = leads; other = refl; plain = refl }

      over_either : (x y : Option NodeId) → option_map (form nodes) (option_or x y) ≡ option_or (option_map (form nodes) x) (option_map (form nodes) y)
      over_either None y = refl
      over_either (Some x) y = refl

      led_either : (x y : Option (Class × NodeId)) → option_map (led nodes) (option_or x y) ≡ option_or (option_map (led nodes) x) (option_map (led nodes) y)
      led_either None y = refl
      led_either (Some x) y = refl

      is_merged : IsMerged o (opened nodes n) (opened nodes m) (opened nodes merged_node)
      is_merged = record {
        shapes = refl;
        ascending = sorted_over (λ s. form nodes) (zip ks js) (zip_sorted ks js rises size);
        children = λ q. find_over (λ s. form nodes) q (zip ks js) ∙ ap (option_map (form nodes)) (leads q)
            ∙ over_either (find name_cmp q n.children) (find name_cmp q m.children)
            ∙ sym (λ t. option_or (find_over (λ s. form nodes) q n.children t) (find_over (λ s. form nodes) q m.children t));
        other = led_either n.other m.other;
        plain = refl;
      }

      first_well : IsWellFormedNode (length nodes) n
      first_well = formed_at nodes one n h e

      second_well : IsWellFormedNode (length nodes) m
      second_well = formed_at nodes two m h f

      in_range : (q : Name) (x : NodeId) → find name_cmp q (zip ks js) ≡ Some x → x.place < length nodes
      in_range q x g = go (find name_cmp q n.children) refl (sym (leads q) ∙ g)
        where
          go : (y : Option NodeId) → find name_cmp q n.children ≡ y → option_or y (find name_cmp q m.children) ≡ Some x → x.place < length nodes
          go None a b = next_in_range (length nodes) m (named q) x second_well b
          go (Some y) a b = next_in_range (length nodes) n (named q) x first_well (a ∙ b)

      other_well : (x y : Option (Class × NodeId)) → IfSome x (λ p. p.1.place < length nodes) → IfSome y (λ p. p.1.place < length nodes)
          → IfSome (option_or x y) (λ p. p.1.place < length nodes)
      other_well None y a b = b
      other_well (Some x) y a b = a

      -- any set of trees does
      abbrev Any_tree : NodeId → Tree → Type 0
      Any_tree i t = Unit {0}

      alike : (i j : NodeId) → StandForSame nodes i j → Alike (Any_tree i) (Any_tree j)
      alike i j s = record { into = λ t g. g; from = λ t g. g }

      pub merged_seat : IsWellFormedNode (length nodes) merged_node
      merged_seat = record {
        ascending = zip_sorted ks js rises size;
        children = all_found (λ j. j.place < length nodes) (zip ks js) (zip_sorted ks js rises size) in_range;
        other = other_well n.other m.other first_well.other second_well.other;
        shapes = merged_well Any_tree (StandForSame nodes) alike o n m merged_node raw raw_merged first_well.shapes second_well.shapes first_well.some_shape;
        some_shape = merged_some Any_tree (StandForSame nodes) alike o n m merged_node raw raw_merged first_well.shapes second_well.shapes
            first_well.some_shape;
        twins = All-nil (λ (t : Name × Name). IsTrue (is_listed merged_node t.0) × IsTrue (is_listed merged_node t.1));
      }

      pub merge_view : (new : Nodes) → new ≡ nodes ++ merged_node ∷ [] → (j : NodeId) → j.place ≡ length nodes
          → MergeView o (form nodes one) (form nodes two) (form new j)
      merge_view new is j at = record {
        one = opened nodes n;
        two = opened nodes m;
        mergeable = record { node_one = node_is nodes one n e h; node_two = node_is nodes two m f h; can = can };
        node = opened nodes merged_node;
        merged = is_merged;
        is = form_added nodes new h merged_node merged_seat is j at;
      }
