-- What the rules of typing say of a node says it of one node alone.
use Rattle.std.proofs.Common.{◌≡◌, zero, suc, Bool, true, false, List, [], ◌∷◌, Some, All, Any, refl, sym, ap, subst, ◌∙◌, arith}
use mathlib.Core.Bool.{true≢false}
use Rattle.std.specs.FinMap.{find}
use Rattle.std.specs.FinMap.Entries.{same_entries}
use Rattle.std.specs.FinSet.{contains, contains-from_list}
use Rattle.std.proofs.lemmas.List.Elements.{All-head, All-tail}
use Rattle.std.proofs.lemmas.Option.{same_Some}
use Rattle.hm_tree.specs.Names.{Name, name_cmp}
use Rattle.hm_tree.proofs.Sorted.{name_total, name_one}
use Rattle.hm_schema.specs.declared.node.Shape.{Shape}
use Rattle.hm_schema.specs.Values.{Names, NodeOver, child_of}
use Rattle.hm_types_nodes.specs.Joining.{IsJoined}
use Rattle.hm_types_nodes.specs.Merging.{IsMerged}
use Rattle.hm_types_nodes.specs.Copying.{IsCopied}
use Rattle.hm_schema_lists.specs.ListNodes.{empty_shape, item_shape}
use Rattle.hm_tree_parts.specs.Lists.{head, tail}
use Rattle.hm_types_forms.specs.Forms.{Form, Step, under, node_of}
use Rattle.hm_types_rules.specs.Typing.{IsForked, IsList, IsItems, BeginsWith}

-- two forms with the same label and the same forms under each step are one
pub same_form : (v w : Form) → v [] ≡ w [] → ((s : Step) → under s v ≡ under s w) → v ≡ w
same_form v w e f = λ i way. go way i
  where
    go : (way : List Step) → v way ≡ w way
    go [] = e
    go (s ∷ way) = ap (λ (x : Form). x way) (f s)

pub node_one : (u : Form) (n m : NodeOver Form) → node_of u ≡ Some n → node_of u ≡ Some m → n ≡ m
node_one u n m e f = same_Some n m (sym e ∙ f)

-- ---- nodes that are said by what their names lead to

module _ {I : Type 0} where
  same_node : (n m : NodeOver I) → n.shapes ≡ m.shapes → n.children ≡ m.children → n.other ≡ m.other → n.twins ≡ m.twins → n ≡ m
  same_node n m e f g h =
      ap (λ z. record { shapes = z; children = n.children; other = n.other; twins = n.twins }) e
      ∙ ap (λ z. record { shapes = m.shapes; children = z; other = n.other; twins = n.twins }) f
      ∙ ap (λ z. record { shapes = m.shapes; children = m.children; other = z; twins = n.twins }) g
      ∙ ap (λ z. record { shapes = m.shapes; children = m.children; other = m.other; twins = z }) h

  pub joined_one : (q : Name → Bool) (one two n m : NodeOver I) → IsJoined q one two n → IsJoined q one two m → n ≡ m
  joined_one q one two n m h k = same_node n m (h.shapes ∙ sym k.shapes)
      (same_entries name_cmp name_total name_one n.children m.children h.ascending k.ascending (λ x. h.children x ∙ sym (k.children x)))
      (h.other ∙ sym k.other) (h.twins ∙ sym k.twins)

  pub merged_one : (o : Name) (one two n m : NodeOver I) → IsMerged o one two n → IsMerged o one two m → n ≡ m
  merged_one o one two n m h k = same_node n m (h.shapes ∙ sym k.shapes)
      (same_entries name_cmp name_total name_one n.children m.children h.ascending k.ascending (λ x. h.children x ∙ sym (k.children x)))
      (h.other ∙ sym k.other) (h.plain ∙ sym k.plain)

  pub copied_one : (a b : Name) (w n m : NodeOver I) → IsCopied a b w n → IsCopied a b w m → n ≡ m
  copied_one a b w n m h k = same_node n m (h.shapes ∙ sym k.shapes)
      (same_entries name_cmp name_total name_one n.children m.children h.ascending k.ascending (λ x. h.children x ∙ sym (k.children x)))
      (h.other ∙ sym k.other) (h.twins ∙ sym k.twins)

-- ---- forks

same_first : (x y : Shape) (xs ys : List Shape) → x ∷ xs ≡ y ∷ ys → x ≡ y
same_first x y xs ys e = cc

pub forked_one : (P : Names) (u : Form) (n m : NodeOver Form) (a b : Shape) → IsForked P u n a → IsForked P u m b → (n ≡ m) × (a ≡ b)
forked_one P u n m a b h k =
    let e = node_one u n m h.node k.node in
    (e, same_first a b [] [] (sym h.parted.one ∙ ap (λ (n : NodeOver Form). n.shapes) e ∙ k.parted.one))

-- ---- lists

-- the two shapes of a list aren't equal
pub two_shapes : empty_shape ≡ item_shape → ⊥
unfolding name_cmp
two_shapes e = true≢false (sym (ap (λ (a : Shape). contains a.required head) e ∙ contains-from_list name_total (head ∷ tail ∷ []) head)
    ∙ contains-from_list name_total [] head)

begin_one : (xs : List Shape) (b c : Bool) → BeginsWith xs b → BeginsWith xs c → b ≡ c
begin_one xs true true h k = refl
begin_one xs false false h k = refl
begin_one xs true false h k = absurd (two_shapes (same_first empty_shape item_shape h.0 k.0 (sym h.1 ∙ k.1)))
begin_one xs false true h k = absurd (two_shapes (same_first empty_shape item_shape k.0 h.0 (sym k.1 ∙ h.1)))

pub list_one : (u x y : Form) (b c : Bool) → IsList u x b → IsList u y c → (x ≡ y) × (b ≡ c)
list_one u x y b c h k = (sym h.first_is ∙ same_Some h.list.first k.list.first first ∙ k.first_is, begin_one k.node.shapes b c order k.order)
  where
    e : h.node ≡ k.node
    e = node_one u h.node k.node h.is_node k.is_node

    first : Some h.list.first ≡ Some k.list.first
    first = sym h.list.first_is ∙ ap (λ (n : NodeOver Form). child_of n head) e ∙ k.list.first_is

    order : BeginsWith k.node.shapes b
    order = subst (λ (n : NodeOver Form). BeginsWith n.shapes b) e h.order

any_all : {X : Type 0} (x y : X) (xs : List X) → Any (λ a. a ≡ x) xs → All (λ a. a ≡ y) xs → x ≡ y
any_all x y [] (k, a, lt, is, e) h = absurd (omega arith)
any_all x y (z ∷ xs) (zero, a, lt, is, e) h = sym e ∙ sym is ∙ All-head (λ a. a ≡ y) z xs h
any_all x y (z ∷ xs) (suc k, a, lt, is, e) h = any_all x y xs (k, a, omega arith, is, e) (All-tail (λ a. a ≡ y) z xs h)

-- a form isn't both
pub list_or_items : (u x y : Form) (b c : Bool) → IsList u x b → IsItems u y c → ⊥
list_or_items u x y b c h k = two_shapes (any_all empty_shape item_shape k.node.shapes
    (subst (λ (n : NodeOver Form). Any (λ a. a ≡ empty_shape) n.shapes) (node_one u h.node k.node h.is_node k.is_node) h.list.empty) k.shapes)

pub items_one : (u x y : Form) (b c : Bool) → IsItems u x b → IsItems u y c → (x ≡ y) × (b ≡ c)
items_one u x y b c h k = (
  same_Some x y (sym h.first_is ∙ ap (λ (n : NodeOver Form). find name_cmp head n.children) e ∙ k.first_is),
  (list_one k.rest h.item k.item b c (subst (λ r. IsList r h.item b) rest h.list) k.list).1,
)
  where
    e : h.node ≡ k.node
    e = node_one u h.node k.node h.is_node k.is_node

    rest : h.rest ≡ k.rest
    rest = same_Some h.rest k.rest (sym h.rest_is ∙ ap (λ (n : NodeOver Form). find name_cmp tail n.children) e ∙ k.rest_is)
