-- The forms of lists are sound, and their members are the lists of the members of the form of their items.
use Rattle.std.proofs.Common.{◌≡◌, ◌⊎◌, ◌<◌, ◌||◌, Bool, true, false, cond, T, IsTrue, is_some, List, [], ◌∷◌, length, Some, None, All, Any, refl, sym, ap, subst, ◌∙◌, arith, inl, inr}
use mathlib.Core.Bool.{true≢false}
use Rattle.std.specs.Option.{option_map, option_or}
use Rattle.std.specs.Ordering.{eq_by_cmp}
use Rattle.std.specs.FinMap.{find, is_sorted}
use Rattle.std.specs.FinSet.{contains, contains-from_list}
use Rattle.std.proofs.lemmas.Option.{same_Some, none-some}
use Rattle.std.proofs.lemmas.Cmp.{tied_itself}
use Rattle.std.proofs.lemmas.List.Elements.{All-head, All-cons}
use Rattle.hm_tree.specs.Names.{Name, name_cmp}
use Rattle.hm_tree.proofs.Sorted.{name_total}
use Rattle.hm_schema.specs.declared.node.Shape.{Shape}
use Rattle.hm_schema.specs.Values.{Names, NodeOver, is_listed, child_of}
use Rattle.hm_schema.specs.WellFormed.{IsWellFormedShape}
use Rattle.hm_tree_parts.specs.Lists.{head, tail, ListOf}
use Rattle.hm_tree_parts.specs.Lists.{SomeItems}
use Rattle.hm_schema.specs.Shapes.{shaped}
use Rattle.hm_schema_lists.specs.Plain.{HasExactly, exact_shape}
use Rattle.hm_schema_lists.specs.ListNodes.{IsListNode, IsItemNode, no_names, item_names, empty_shape, item_shape}
use Rattle.hm_schema.specs.Standing.{Alike, Stands}
use Rattle.hm_schema.proofs.Elements.{all_one}
use Rattle.hm_schema_lists.proofs.ListNodes.{list_set, some_items_set}
use Rattle.hm_schema_lists.proofs.Plain.{exact_of, shape_exact}
use Rattle.hm_schema.proofs.Reshaped.{plain_requires}
use Rattle.hm_schema.proofs.StandingTrees.{alike_then}
use Rattle.hm_types_forms.specs.Forms.{Form, Label, Way, named, others, over, under, node_of}
use Rattle.hm_types_forms.specs.Members.{Member}
use Rattle.hm_types_rules.specs.Typing.{IsList, IsItems, list_shapes, list_label, list_form, items_form}
use Rattle.hm_types_forms.specs.SameForms.{IsSame}
use Rattle.hm_types_forms.specs.Sound.{IsSoundNode, IsSound}
use Rattle.hm_types_forms.proofs.Nodes.{child_next, step_to}
use Rattle.hm_types_forms.proofs.MemberNodes.{members_alike}
use Rattle.hm_types_forms.proofs.SameMembers.{AreSoundSame, sound_same}
use Rattle.hm_types_forms.proofs.SoundForms.{node_sound, leads_sound}
use Rattle.hm_tree_parts.proofs.OneList.{tail_head}

-- ---- a source that is a list

module _ (u : Form) (n : NodeOver Form) (is : node_of u ≡ Some n) (h : IsSound u) where
  child_sound : (k : Name) (v : Form) → child_of n k ≡ Some v → IsSound v
  child_sound k v e = leads_sound u n is h (step_to n k) v (sym (child_next n k) ∙ e)

  -- a list node whose rest is the same as the form that begins at it, and sound
  sound_list : IsListNode IsSame u n → IsListNode AreSoundSame u n
  sound_list l = record {
    plain = l.plain;
    shapes = l.shapes;
    empty = l.empty;
    item = l.item;
    first = l.first;
    first_is = l.first_is;
    rest = l.rest;
    rest_is = l.rest_is;
    itself = record { same = l.itself; first = child_sound tail l.rest l.rest_is; second = h };
  }

module _ (u x : Form) (b : Bool) (l : IsList u x b) (h : IsSound u) where
  pub list_members : Alike (Member u) (ListOf (Member x))
  unfolding sound_list
  list_members = subst (λ x. Alike (Member u) (ListOf (Member x))) l.first_is
      (alike_then here (list_set Member AreSoundSame sound_same u l.node (sound_list u l.node l.is_node h l.list) (node_sound u l.node l.is_node h).well here))
    where
      here : Alike (Member u) (Stands Member l.node)
      here = members_alike u l.node l.is_node

  pub list_first_sound : IsSound x
  list_first_sound = subst IsSound l.first_is (child_sound u l.node l.is_node h head l.list.first l.list.first_is)

-- what is found as a listed name is what the name leads to
pub found_child : {I : Type 0} (n : NodeOver I) (k : Name) (i : I) → find name_cmp k n.children ≡ Some i → child_of n k ≡ Some i
found_child n k i e = ap (λ x. option_or x (option_map (λ o. o.1) n.other)) e

module _ (u x : Form) (b : Bool) (l : IsItems u x b) (h : IsSound u) where
  rest_sound : IsSound l.rest
  rest_sound = leads_sound u l.node l.is_node h (named tail) l.rest l.rest_is

  pub items_first_sound : IsSound x
  items_first_sound = leads_sound u l.node l.is_node h (named head) x l.first_is

  item_sound : IsSound l.item
  item_sound = list_first_sound l.rest l.item b l.list rest_sound

  item_node : IsItemNode AreSoundSame l.node l.list.node
  unfolding sound_list
  item_node =
      let s = node_sound u l.node l.is_node h in
      record {
        names = record { well = s.well; some = s.some; exact = all_exact l.node.shapes l.shapes; plain = l.plain };
        first = x;
        first_is = found_child l.node head x l.first_is;
        rest = l.rest;
        rest_is = found_child l.node tail l.rest l.rest_is;
        others = sound_list l.rest l.list.node l.list.is_node rest_sound l.list.list;
        alike = record {
          same = subst (λ y. IsSame y x) (sym l.list.first_is) l.same_items;
          first = subst IsSound (sym l.list.first_is) item_sound;
          second = items_first_sound;
        };
      }
    where
      all_exact : (xs : List Shape) → All (λ a. a ≡ item_shape) xs → All (HasExactly item_names) xs
      all_exact xs all = λ i d lt. subst (HasExactly item_names) (sym (all i d lt)) (shape_exact item_names)

  pub items_members : Alike (Member u) (SomeItems (Member x))
  unfolding item_node sound_list
  items_members = alike_then (members_alike u l.node l.is_node)
      (some_items_set Member AreSoundSame sound_same l.node l.list.node item_node (node_sound l.rest l.list.node l.list.is_node rest_sound).well
      (members_alike l.rest l.list.node l.list.is_node))

-- ---- the view

-- a node that lists the names of an exact shape
pub shape_well : {I : Type 0} (n : NodeOver I) (names : Names) → ((k : Name) → IsTrue (contains names k) → IsTrue (is_listed n k)) → IsWellFormedShape n
    (exact_shape names)
shape_well n names lists =
    let o = exact_of (shaped n (exact_shape names ∷ []) []) names refl refl lists in
    let w = All-head (IsWellFormedShape (shaped n (exact_shape names ∷ []) [])) (exact_shape names) [] o.well in
    record { listed = w.listed; apart = w.apart; ordered = w.ordered; none = w.none }

itself : (k : Name) → eq_by_cmp name_cmp k k ≡ true
itself k = rw (tied_itself name_total k) refl

module _ {I : Type 0} (first rest : I) where
  abbrev pub item_children : List (Name × I)
  item_children = (head, first) ∷ (tail, rest) ∷ []

  lists_item : (k : Name) → IsTrue (contains item_names k) → IsTrue (is_some (find name_cmp k item_children))
  lists_item k h = go (eq_by_cmp name_cmp k head) (eq_by_cmp name_cmp k tail) (sym (contains-from_list name_total (head ∷ tail ∷ []) k) ∙ h)
    where
      go : (a b : Bool) → IsTrue (a || (b || false)) → IsTrue (is_some (cond a (Some first) (cond b (Some rest) None)))
      go true b h = refl
      go false true h = refl
      go false false h = absurd (true≢false (sym h))

  finds_first : find name_cmp head item_children ≡ Some first
  finds_first = ap (λ b. cond b (Some first) (cond (eq_by_cmp name_cmp head tail) (Some rest) None)) (itself head)

  finds_rest : find name_cmp tail item_children ≡ Some rest
  finds_rest = ap (λ b. cond b (Some first) (cond (eq_by_cmp name_cmp tail tail) (Some rest) None)) tail_head
      ∙ ap (λ b. cond b (Some rest) None) (itself tail)

lists_none : {I : Type 0} (n : NodeOver I) (k : Name) → IsTrue (contains no_names k) → IsTrue (is_listed n k)
lists_none n k h = absurd (true≢false (sym h ∙ contains-from_list name_total [] k))

pub item_well : {I : Type 0} (n : NodeOver I) (first rest : I) → n.children ≡ item_children first rest → IsWellFormedShape n item_shape
item_well n first rest e = shape_well n item_names (λ k h. subst (λ cs. IsTrue (is_some (find name_cmp k cs))) (sym e) (lists_item first rest k h))

empty_well : {I : Type 0} (n : NodeOver I) → IsWellFormedShape n empty_shape
empty_well n = shape_well n no_names (lists_none n)

pub both_well : {I : Type 0} (n : NodeOver I) (first rest : I) → n.children ≡ item_children first rest → (b : Bool) → All (IsWellFormedShape n) (list_shapes b)
both_well n first rest e true = All-cons (IsWellFormedShape n) empty_shape (item_shape ∷ []) (empty_well n)
    (all_one (IsWellFormedShape n) item_shape (item_well n first rest e))
both_well n first rest e false = All-cons (IsWellFormedShape n) item_shape (empty_shape ∷ []) (item_well n first rest e)
    (all_one (IsWellFormedShape n) empty_shape (empty_well n))

pub rises : {I : Type 0} (first rest : I) → T (is_sorted name_cmp (item_children first rest))
unfolding name_cmp
rises first rest = tt

label_sound : (shapes : List Shape) → 0 < length shapes → All (IsWellFormedShape (list_label shapes)) shapes → IsSoundNode (list_label shapes)
label_sound shapes some well = record { ascending = rises (tt {0}) (tt {0}); some = some; well = well; own = plain_requires (list_label shapes) refl }

pub some_shapes : (b : Bool) → 0 < length (list_shapes b)
some_shapes true = omega arith
some_shapes false = omega arith

module _ (b : Bool) (y : Form) (h : IsSound y) where
  list_found : (w : Way) (l : Label) → list_form b y w ≡ Some l → IsSoundNode l
  list_found [] l e = subst IsSoundNode (same_Some (list_label (list_shapes b)) l e)
      (label_sound (list_shapes b) (some_shapes b) (both_well (list_label (list_shapes b)) tt tt refl b))
  list_found (named k ∷ w) l e = go (eq_by_cmp name_cmp k head) (eq_by_cmp name_cmp k tail) e (list_found w l)
    where
      go : (p q : Bool) → cond p (y w) (cond q (list_form b y w) None) ≡ Some l → (list_form b y w ≡ Some l → IsSoundNode l) → IsSoundNode l
      go true q e rest = h.on_each w l e
      go false true e rest = rest e
      go false false e rest = absurd (none-some l e)
  list_found (others ∷ w) l e = absurd (none-some l e)

  pub list_sound : IsSound (list_form b y)
  list_sound = record { on_each = list_found }

  items_found : (w : Way) (l : Label) → items_form b y w ≡ Some l → IsSoundNode l
  items_found [] l e = subst IsSoundNode (same_Some (list_label (item_shape ∷ [])) l e)
      (label_sound (item_shape ∷ []) (omega arith) (all_one (IsWellFormedShape (list_label (item_shape ∷ []))) item_shape
      (item_well (list_label (item_shape ∷ [])) tt tt refl)))
  items_found (named k ∷ w) l e = go (eq_by_cmp name_cmp k head) (eq_by_cmp name_cmp k tail) e
    where
      go : (p q : Bool) → cond p (y w) (cond q (list_form b y w) None) ≡ Some l → IsSoundNode l
      go true q e = h.on_each w l e
      go false true e = list_found w l e
      go false false e = absurd (none-some l e)
  items_found (others ∷ w) l e = absurd (none-some l e)

  pub items_sound : IsSound (items_form b y)
  items_sound = record { on_each = items_found }

module _ (b : Bool) (y : Form) where
  list_node : NodeOver Form
  list_node = over (λ s i. under s (list_form b y)) (list_label (list_shapes b))

  under_head : under (named head) (list_form b y) ≡ y
  under_head = λ i w. cond (itself head i) (y w) (cond (eq_by_cmp name_cmp head tail) (list_form b y w) None)

  under_tail : under (named tail) (list_form b y) ≡ list_form b y
  under_tail = λ i w. cond (tail_head i) (y w) (cond (itself tail i) (list_form b y w) None)

  all_both : (b : Bool) → All (λ a. (a ≡ empty_shape) ⊎ (a ≡ item_shape)) (list_shapes b)
  all_both true = All-cons (λ a. (a ≡ empty_shape) ⊎ (a ≡ item_shape)) empty_shape (item_shape ∷ []) (inl refl)
      (all_one (λ a. (a ≡ empty_shape) ⊎ (a ≡ item_shape)) item_shape (inr refl))
  all_both false = All-cons (λ a. (a ≡ empty_shape) ⊎ (a ≡ item_shape)) item_shape (empty_shape ∷ []) (inr refl)
      (all_one (λ a. (a ≡ empty_shape) ⊎ (a ≡ item_shape)) empty_shape (inl refl))

  any_empty : (b : Bool) → Any (λ a. a ≡ empty_shape) (list_shapes b)
  any_empty true = (0, empty_shape, omega arith, refl, refl)
  any_empty false = (1, empty_shape, omega arith, refl, refl)

  any_item : (b : Bool) → Any (λ a. a ≡ item_shape) (list_shapes b)
  any_item true = (1, item_shape, omega arith, refl, refl)
  any_item false = (0, item_shape, omega arith, refl, refl)

  is_list_node : IsListNode (λ i j. i ≡ j) (list_form b y) list_node
  unfolding list_node
  is_list_node = record {
    plain = refl;
    shapes = all_both b;
    empty = any_empty b;
    item = any_item b;
    first = y;
    first_is = found_child list_node head y (finds_first (under (named head) (list_form b y)) (under (named tail) (list_form b y)) ∙ ap Some under_head);
    rest = list_form b y;
    rest_is = found_child list_node tail (list_form b y) (finds_rest (under (named head) (list_form b y)) (under (named tail) (list_form b y))
        ∙ ap Some under_tail);
    itself = refl;
  }

  same_alike : (i j : Form) → i ≡ j → Alike (Member i) (Member j)
  same_alike i j e = record { into = λ t h. subst (λ i. Member i t) e h; from = λ t h. subst (λ i. Member i t) (sym e) h }

  pub list_form_members : Alike (Member (list_form b y)) (ListOf (Member y))
  unfolding list_node is_list_node
  list_form_members =
      let here = members_alike (list_form b y) list_node refl in
      alike_then here (list_set Member (λ i j. i ≡ j) same_alike (list_form b y) list_node is_list_node
      (both_well list_node (under (named head) (list_form b y)) (under (named tail) (list_form b y)) refl b) here)

  items_node : NodeOver Form
  items_node = over (λ s i. under s (items_form b y)) (list_label (item_shape ∷ []))

  items_head : under (named head) (items_form b y) ≡ y
  items_head = λ i w. cond (itself head i) (y w) (cond (eq_by_cmp name_cmp head tail) (list_form b y w) None)

  items_tail : under (named tail) (items_form b y) ≡ list_form b y
  items_tail = λ i w. cond (tail_head i) (y w) (cond (itself tail i) (list_form b y w) None)

  is_items_node : IsItemNode (λ i j. i ≡ j) items_node list_node
  unfolding items_node is_list_node
  is_items_node = record {
    names = exact_of items_node item_names refl refl (lists_item (under (named head) (items_form b y)) (under (named tail) (items_form b y)));
    first = y;
    first_is = found_child items_node head y (finds_first (under (named head) (items_form b y)) (under (named tail) (items_form b y)) ∙ ap Some items_head);
    rest = list_form b y;
    rest_is = found_child items_node tail (list_form b y) (finds_rest (under (named head) (items_form b y)) (under (named tail) (items_form b y))
        ∙ ap Some items_tail);
    others = is_list_node;
    alike = refl;
  }

  pub items_form_members : Alike (Member (items_form b y)) (SomeItems (Member y))
  unfolding list_node items_node is_items_node
  items_form_members =
      alike_then (members_alike (items_form b y) items_node refl)
      (some_items_set Member (λ i j. i ≡ j) same_alike items_node list_node is_items_node
      (both_well list_node (under (named head) (list_form b y)) (under (named tail) (list_form b y)) refl b)
      (members_alike (list_form b y) list_node refl))
