-- What is told of the nodes of lists.
use Rattle.std.proofs.Common.{◌≡◌, ◌↔◌, ◌<◌, ◌||◌, Bool, true, false, IsTrue, is_some, List, [], ◌∷◌, length, get_or, slice_get, Option, Some, None, All, Any, refl, sym, ap, subst, ◌∙◌, arith, inl, inr}
use mathlib.Core.Bool.{true≢false}
use Rattle.std.specs.Option.{option_map, MatchOption}
use Rattle.std.specs.List.Sorted.{IsStrictlySortedBy}
use Rattle.std.specs.Ordering.{eq_by_cmp}
use Rattle.std.specs.FinMap.{find}
use Rattle.std.specs.FinSet.{FinSet, from_list, contains, contains-from_list}
use Rattle.std.proofs.lemmas.Bool.{or_right}
use Rattle.std.proofs.lemmas.Option.{same_Some, none-some}
use Rattle.hm_tree.specs.Names.{Name, name_cmp}
use Rattle.hm_tree.proofs.Sorted.{name_total}
use Rattle.hm_tree.proofs.NameSets.{tied_self}
use Rattle.hm_tree.proofs.Ascending.{ascending_is}
use Rattle.hm_schema.specs.declared.node.NodeId.{NodeId}
use Rattle.hm_schema.specs.declared.node.Shape.{Shape}
use Rattle.hm_schema.specs.Values.{NodeOver, NodeValue, child_of}
use Rattle.hm_schema.specs.WellFormed.{IsWellFormedShape}
use Rattle.hm_tree_parts.specs.Lists.{head, tail}
use Rattle.hm_schema_lists.specs.ListNodes.{item_names, empty_shape, item_shape}
use Rattle.hm_schema.proofs.Elements.{any_some}
use Rattle.hm_schema.proofs.Shapes.{required_has}
use Rattle.hm_types_forms.specs.Forms.{Form, form}
use Rattle.hm_types_forms.specs.SameForms.{IsSame}
use Rattle.hm_types_rules.specs.Typing.{IsList, IsItems, BeginsWith}
use Rattle.hm_types_rules.proofs.ListForms.{found_child}
use Rattle.hm_types_rules.proofs.Determined.{list_one}
use Rattle.hm_types_table.specs.declared.kind.NodeKind.{NodeKind}
use Rattle.hm_types_table.specs.declared.vertex.Vertex.{Vertex}
use Rattle.hm_types_views.specs.Lists.{IsPart, IsListKind, IsItemKind}
use Rattle.hm_types_table.specs.Tables.{Nodes, AreFormed, opened, seat}
use Rattle.hm_types_table.proofs.Grown.{formed_at}
use Rattle.hm_types_table.proofs.Forms.{find_over, node_is}

-- what is told where nothing is answered
pub at_none : {X : Type 0} (x : Option X) (P : Type 0) (Q : X → Type 0) → x ≡ None → P → MatchOption x P Q
at_none None P Q e p = p
at_none (Some x) P Q e p = absurd (none-some x (sym e))

-- ---- the names of an item and the rest of a list

parts_rise : IsStrictlySortedBy name_cmp (head ∷ tail ∷ [])
unfolding IsStrictlySortedBy name_cmp
parts_rise = ((refl, tt), (tt, tt))

pub part_names : (names : List Name) (s : FinSet name_cmp) → IsStrictlySortedBy name_cmp names → from_list {R = name_cmp} names ≡ s → s ≡ item_names
    → names ≡ head ∷ tail ∷ []
part_names names s rise is same = sym (ascending_is names s rise is) ∙ ascending_is (head ∷ tail ∷ []) s parts_rise (sym same)

pub read_two : (xs : List Name) (x y : Name) → length xs ≡ 2 → x ≡ get_or xs 0 x → y ≡ get_or xs 1 y → xs ≡ x ∷ y ∷ []
read_two [] x y e f g = absurd (omega arith)
read_two (a ∷ []) x y e f g = absurd (omega arith)
read_two (a ∷ b ∷ []) x y e f g = λ i. sym f i ∷ sym g i ∷ []
read_two (a ∷ b ∷ c ∷ xs) x y e f g = absurd (omega arith)

pub has_head : contains item_names head ≡ true
has_head = contains-from_list name_total (head ∷ tail ∷ []) head ∙ ap (λ b. b || (eq_by_cmp name_cmp head tail || false)) (tied_self head)

pub has_tail : contains item_names tail ≡ true
has_tail = contains-from_list name_total (head ∷ tail ∷ []) tail
    ∙ or_right (eq_by_cmp name_cmp tail head) (eq_by_cmp name_cmp tail tail || false) (ap (λ b. b || false) (tied_self tail))

-- ---- the shape that comes first

pub begins : (shapes : List Shape) (a : Shape) (b : Bool) → 0 < length shapes → a ≡ get_or shapes 0 a → IsPart a → (IsTrue b ↔ (a ≡ empty_shape))
    → BeginsWith shapes b
begins [] a b lt e p h = absurd (omega arith)
begins (x ∷ xs) a true lt e p h = (xs, ap (λ a. a ∷ xs) (sym e ∙ h.0 refl))
begins (x ∷ xs) a false lt e (inl f) h = absurd (true≢false (sym (h.1 f)))
begins (x ∷ xs) a false lt e (inr f) h = (xs, ap (λ a. a ∷ xs) (sym e ∙ f))

-- ---- a node of a table

module _ (nodes : Nodes) (h : AreFormed nodes) (i : NodeId) (k : NodeKind) (v : Vertex) (e : slice_get nodes i.place ≡ Some (seat k v)) where
  abbrev n : NodeValue
  n = seat k v

  abbrev HasItem : Type 0
  HasItem = Any (λ a. a ≡ item_shape) n.shapes

  pub shapes_some : 0 < length k.shapes.items
  shapes_some = (formed_at nodes i n h e).some_shape

  -- a name of an item is listed
  pub part_listed : HasItem → (m : Name) → contains item_names m ≡ true → find name_cmp m n.children ≡ None → ⊥
  part_listed any m t none = true≢false (sym (any_some (λ a. a ≡ item_shape) (IsWellFormedShape n)
      (λ a w is. w.listed m (required_has a m (ap (λ (a : Shape). contains a.required m) is ∙ t))) n.shapes (formed_at nodes i n h e).shapes any)
      ∙ ap is_some none)

  -- what a listed name leads to in the node of the form
  led : (m : Name) (j : NodeId) → find name_cmp m n.children ≡ Some j → find name_cmp m (opened nodes n).children ≡ Some (form nodes j)
  led m j f = find_over (λ s. form nodes) m n.children ∙ ap (option_map (form nodes)) f

  led_child : (m : Name) (j : NodeId) → find name_cmp m n.children ≡ Some j → child_of (opened nodes n) m ≡ Some (form nodes j)
  led_child m j f = found_child (opened nodes n) m (form nodes j) (led m j f)

  module _ (x : Form) (b : Bool) (l : IsList (form nodes i) x b) where
    list_node : l.node ≡ opened nodes n
    list_node = same_Some l.node (opened nodes n) (sym l.is_node ∙ node_is nodes i n e h)

    pub list_kind : IsListKind k
    list_kind = record {
      plain = subst (λ (w : NodeOver Form). w.twins ≡ []) list_node l.list.plain;
      shapes = subst (λ (w : NodeOver Form). All IsPart w.shapes) list_node l.list.shapes;
      empty = subst (λ (w : NodeOver Form). Any (λ a. a ≡ empty_shape) w.shapes) list_node l.list.empty;
    }

    pub list_item : HasItem
    list_item = subst (λ (w : NodeOver Form). Any (λ a. a ≡ item_shape) w.shapes) list_node l.list.item

    pub list_rest : (r : NodeId) → find name_cmp tail n.children ≡ Some r → IsSame (form nodes r) (form nodes i)
    list_rest r f = subst (λ u. IsSame u (form nodes i))
        (same_Some l.list.rest (form nodes r) (sym l.list.rest_is ∙ ap (λ (w : NodeOver Form). child_of w tail) list_node ∙ led_child tail r f)) l.list.itself

  pub is_list : IsListKind k → HasItem → (f r : NodeId) → find name_cmp head n.children ≡ Some f → find name_cmp tail n.children ≡ Some r
      → IsSame (form nodes r) (form nodes i) → (b : Bool) → BeginsWith k.shapes.items b → IsList (form nodes i) (form nodes f) b
  is_list c any f r first rest same b order = record {
    node = opened nodes n;
    is_node = node_is nodes i n e h;
    list = record {
      plain = c.plain;
      shapes = c.shapes;
      empty = c.empty;
      item = any;
      first = form nodes f;
      first_is = led_child head f first;
      rest = form nodes r;
      rest_is = led_child tail r rest;
      itself = same;
    };
    first_is = refl;
    order = order;
  }

  module _ (x : Form) (b : Bool) (l : IsItems (form nodes i) x b) where
    items_node : l.node ≡ opened nodes n
    items_node = same_Some l.node (opened nodes n) (sym l.is_node ∙ node_is nodes i n e h)

    pub items_kind : IsItemKind k
    items_kind = record {
      plain = subst (λ (w : NodeOver Form). w.twins ≡ []) items_node l.plain;
      shapes = subst (λ (w : NodeOver Form). All (λ a. a ≡ item_shape) w.shapes) items_node l.shapes;
    }

    pub items_list : (r : NodeId) → find name_cmp tail n.children ≡ Some r → IsList (form nodes r) l.item b
    items_list r f = subst (λ u. IsList u l.item b)
        (same_Some l.rest (form nodes r) (sym l.rest_is ∙ ap (λ (w : NodeOver Form). find name_cmp tail w.children) items_node ∙ led tail r f)) l.list

    pub items_same : (f r j : NodeId) → find name_cmp head n.children ≡ Some f → find name_cmp tail n.children ≡ Some r → (c : Bool)
        → IsList (form nodes r) (form nodes j) c → IsSame (form nodes j) (form nodes f)
    items_same f r j first rest c m = subst (λ u. IsSame u (form nodes f)) (list_one (form nodes r) l.item (form nodes j) b c (items_list r rest) m).0
        (subst (IsSame l.item)
        (same_Some x (form nodes f) (sym l.first_is ∙ ap (λ (w : NodeOver Form). find name_cmp head w.children) items_node ∙ led head f first)) l.same_items)

  pub kind_item : IsItemKind k → HasItem
  kind_item c = go k.shapes.items shapes_some c.shapes
    where
      go : (xs : List Shape) → 0 < length xs → All (λ a. a ≡ item_shape) xs → Any (λ a. a ≡ item_shape) xs
      go [] lt all = absurd (omega arith)
      go (x ∷ xs) lt all = (0, x, omega arith, refl, all 0 x (omega arith))

  pub is_items : IsItemKind k → (f r j : NodeId) → find name_cmp head n.children ≡ Some f → find name_cmp tail n.children ≡ Some r → (b : Bool)
      → IsList (form nodes r) (form nodes j) b → IsSame (form nodes j) (form nodes f) → IsItems (form nodes i) (form nodes f) b
  is_items c f r j first rest b list same = record {
    node = opened nodes n;
    is_node = node_is nodes i n e h;
    plain = c.plain;
    some = shapes_some;
    shapes = c.shapes;
    first_is = led head f first;
    rest = form nodes r;
    rest_is = led tail r rest;
    item = form nodes j;
    list = list;
    same_items = same;
  }
