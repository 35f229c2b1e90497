-- Nodes of lists that are added, of which the second name leads to the node itself or to another such node.
use Rattle.std.proofs.Common.{◌≡◌, ℕ, ◌<◌, ◌||◌, Bool, true, false, cond, IsTrue, List, [], ◌∷◌, ◌++◌, length, slice_get, Option, Some, None, All, refl, sym, ap, subst, ◌∙◌, arith, option_and_then}
use Rattle.std.proofs.lemmas.Bool.{or_left, or_right}
use Rattle.std.proofs.lemmas.List.Elements.{All-nil, All-cons}
use Rattle.std.specs.List.{zip, list_any}
use Rattle.std.specs.Ordering.{eq_by_cmp}
use Rattle.std.specs.FinSet.{contains}
use Rattle.hm_tree.specs.Names.{Name, name_cmp}
use Rattle.hm_schema.specs.declared.node.NodeId.{NodeId}
use Rattle.hm_schema.specs.declared.node.Shape.{Shape}
use Rattle.hm_schema.specs.Values.{NodeValue, is_listed}
use Rattle.hm_schema.specs.Tidied.{has_name}
use Rattle.hm_schema.specs.WellFormed.{IsWellFormedNode, IsWellFormedShape}
use Rattle.hm_tree_parts.specs.Lists.{head, tail}
use Rattle.hm_schema_lists.specs.ListNodes.{item_names, empty_shape, item_shape}
use Rattle.hm_schema.proofs.Elements.{all_one}
use Rattle.hm_schema.proofs.Shapes.{required_has}
use Rattle.hm_types_forms.specs.Forms.{Form, Way, named, others, form}
use Rattle.hm_types_rules.specs.Typing.{list_shapes, list_form, items_form}
use Rattle.hm_types_rules.proofs.ListForms.{rises, both_well, item_well, some_shapes}
use Rattle.hm_types_table.specs.declared.kind.NodeKind.{NodeKind}
use Rattle.hm_types_table.specs.Tables.{Nodes, AreFormed, Extends, seated}
use Rattle.hm_types_table.proofs.Places.{at_last}
use Rattle.hm_types_table.proofs.Grown.{form_extends, extends_then}
use Rattle.hm_types_table.proofs.Forms.{form_is, label_is}
use Rattle.hm_types_views.proofs.ListRead.{has_head, has_tail}
use Rattle.hm_types_views.proofs.TwoAdded.{add_grows, add_length}

-- a node of an item and a rest
abbrev pub pair_node : List Shape → NodeId → NodeId → NodeValue
pair_node shapes f r = record { shapes = shapes; children = (head, f) ∷ (tail, r) ∷ []; other = None; twins = [] }

pub pair_is : (k : NodeKind) (js : List NodeId) (shapes : List Shape) (f r : NodeId) → k.shapes.items ≡ shapes → k.names.items ≡ head ∷ tail ∷ []
    → k.twins.items ≡ [] → js ≡ f ∷ r ∷ [] → seated k js None ≡ pair_node shapes f r
pair_is k js shapes f r s n t j = λ i. record { shapes = s i; children = zip (n i) (j i); other = None; twins = t i }

pair_well : (count : ℕ) (shapes : List Shape) (f r : NodeId) → f.place < count → r.place < count → 0 < length shapes
    → All (IsWellFormedShape (pair_node shapes f r)) shapes → IsWellFormedNode count (pair_node shapes f r)
pair_well count shapes f r first rest some well = record {
  ascending = rises f r;
  children = All-cons (λ (c : Name × NodeId). c.1.place < count) (head, f) ((tail, r) ∷ []) first
      (all_one (λ (c : Name × NodeId). c.1.place < count) (tail, r) rest);
  other = tt;
  shapes = well;
  some_shape = some;
  twins = All-nil (λ (t : Name × Name). IsTrue (is_listed (pair_node shapes f r) t.0) × IsTrue (is_listed (pair_node shapes f r) t.1));
}

pub list_well : (count : ℕ) (b : Bool) (f r : NodeId) → f.place < count → r.place < count → IsWellFormedNode count (pair_node (list_shapes b) f r)
list_well count b f r first rest = pair_well count (list_shapes b) f r first rest (some_shapes b)
    (both_well (pair_node (list_shapes b) f r) f r refl b)

pub some_well : (count : ℕ) (f r : NodeId) → f.place < count → r.place < count → IsWellFormedNode count (pair_node (item_shape ∷ []) f r)
some_well count f r first rest = pair_well count (item_shape ∷ []) f r first rest (omega arith)
    (all_one (IsWellFormedShape (pair_node (item_shape ∷ []) f r)) item_shape (item_well (pair_node (item_shape ∷ []) f r) f r refl))

-- the names of an item stand in the shapes of a list
stands : (b : Bool) (k : Name) → contains item_names k ≡ true → list_any (λ a. has_name a k) (list_shapes b) ≡ true
stands true k t = or_right (has_name empty_shape k) (has_name item_shape k || false)
    (or_left (has_name item_shape k) false (required_has item_shape k t))
stands false k t = or_left (has_name item_shape k) (has_name empty_shape k || false) (required_has item_shape k t)

pub both_stand : (b : Bool) (shapes : List Shape) (names : List Name) → shapes ≡ list_shapes b → names ≡ head ∷ tail ∷ []
    → All (λ k. IsTrue (list_any (λ a. has_name a k) shapes)) names
both_stand b shapes names e f =
    let P = λ (k : Name). IsTrue (list_any (λ a. has_name a k) shapes) in
    let at = λ (k : Name) (t : contains item_names k ≡ true). ap (list_any (λ (a : Shape). has_name a k)) e ∙ stands b k t in
    subst (All P) (sym f) (All-cons P head (tail ∷ []) (at head has_head) (all_one P tail (at tail has_tail)))

-- ---- what such nodes stand for

-- where the first name leads to a form and the second one to another
module _ (w : Way) (one two : Option Form) (u v : Form) (o p : Bool) where
  pub led_apart : one ≡ Some u → two ≡ Some v → option_and_then (λ (u : Form). u w) (cond o one (cond p two None)) ≡ cond o (u w) (cond p (v w) None)
  led_apart e f = ap (λ x. option_and_then (λ (u : Form). u w) (cond o x (cond p two None))) e
      ∙ ap (λ y. option_and_then (λ (u : Form). u w) (cond o (Some u) (cond p y None))) f ∙ go o p
    where
      go : (o p : Bool) → option_and_then (λ (u : Form). u w) (cond o (Some u) (cond p (Some v) None)) ≡ cond o (u w) (cond p (v w) None)
      go true p = refl
      go false true = refl
      go false false = refl

module _ (old : Nodes) (h : AreFormed old) (view : NodeId) (lt : view.place < length old) (b : Bool) (loop : NodeId) (here : loop.place ≡ length old) where
  module _ (new : Nodes) (is : new ≡ old ++ pair_node (list_shapes b) view loop ∷ []) where
    at_loop : (j : NodeId) → j.place ≡ length old → slice_get new j.place ≡ Some (pair_node (list_shapes b) view loop)
    at_loop j at = ap (slice_get new) at ∙ ap (λ nodes. slice_get nodes (length old)) is ∙ at_last old (pair_node (list_shapes b) view loop)

    grown : Extends old new
    grown = add_grows old new (pair_node (list_shapes b) view loop) is

    list_at : (w : Way) (j : NodeId) → j.place ≡ length old → form new j w ≡ list_form b (form old view) w
    list_at [] j at = label_is new j (pair_node (list_shapes b) view loop) (at_loop j at)
    list_at (named k ∷ w) j at =
        let again = list_at w loop here in
        (λ t. form_is new j (pair_node (list_shapes b) view loop) (at_loop j at) t (named k ∷ w))
        ∙ led_apart w (Some (form new view)) (Some (form new loop)) (form new view) (form new loop) (eq_by_cmp name_cmp k head) (eq_by_cmp name_cmp k tail)
        refl refl
        ∙ (λ t. cond (eq_by_cmp name_cmp k head) (form_extends old new h grown view lt t w) (cond (eq_by_cmp name_cmp k tail) (again t) None))
    list_at (others ∷ w) j at = λ t. form_is new j (pair_node (list_shapes b) view loop) (at_loop j at) t (others ∷ w)

    pub list_added : (j : NodeId) → j.place ≡ length old → form new j ≡ list_form b (form old view)
    list_added j at = λ t w. list_at w j at t

    -- ---- with an item at least

    module _ (hn : AreFormed new) (list : NodeId) (place : list.place ≡ length old) (last : Nodes)
        (more : last ≡ new ++ pair_node (item_shape ∷ []) view list ∷ []) where
      at_items : (j : NodeId) → j.place ≡ length new → slice_get last j.place ≡ Some (pair_node (item_shape ∷ []) view list)
      at_items j at = ap (slice_get last) at ∙ ap (λ nodes. slice_get nodes (length new)) more ∙ at_last new (pair_node (item_shape ∷ []) view list)

      grown_again : Extends new last
      grown_again = add_grows new last (pair_node (item_shape ∷ []) view list) more

      view_kept : form last view ≡ form old view
      view_kept = form_extends old last h (extends_then old new last grown grown_again) view lt

      list_kept : form last list ≡ list_form b (form old view)
      list_kept = form_extends new last hn grown_again list (let less = add_length old new (pair_node (list_shapes b) view loop) is in omega (arith, place))
          ∙ list_added list place

      items_at : (w : Way) (j : NodeId) → j.place ≡ length new → form last j w ≡ items_form b (form old view) w
      items_at [] j at = label_is last j (pair_node (item_shape ∷ []) view list) (at_items j at)
      items_at (named k ∷ w) j at =
          (λ t. form_is last j (pair_node (item_shape ∷ []) view list) (at_items j at) t (named k ∷ w))
          ∙ led_apart w (Some (form last view)) (Some (form last list)) (form last view) (form last list) (eq_by_cmp name_cmp k head)
          (eq_by_cmp name_cmp k tail) refl refl
          ∙ (λ t. cond (eq_by_cmp name_cmp k head) (view_kept t w) (cond (eq_by_cmp name_cmp k tail) (list_kept t w) None))
      items_at (others ∷ w) j at = λ t. form_is last j (pair_node (item_shape ∷ []) view list) (at_items j at) t (others ∷ w)

      pub items_added : (j : NodeId) → j.place ≡ length new → form last j ≡ items_form b (form old view)
      items_added j at = λ t w. items_at w j at t
