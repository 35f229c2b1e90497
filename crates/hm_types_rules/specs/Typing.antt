-- When a lens goes from a source to a view (TOPLAS 2007, the types of each lens).
use Rattle.std.specs.Prelude.{◌≡◌, ◌<◌, Bool, true, false, cond, IsTrue, IsSome, List, [], ◌∷◌, map, length, Option, Some, None, All, option_and_then}
use Rattle.std.specs.FinMap.{find}
use Rattle.std.specs.FinSet.{contains}
use Rattle.std.specs.Ordering.{eq_by_cmp}
use Rattle.hm_tree.specs.Names.{Name, name_cmp}
use Rattle.hm_tree.specs.Nodes.{Tree, edges, below}
use Rattle.hm_schema.specs.declared.node.Shape.{Shape}
use Rattle.hm_schema.specs.Values.{Names, NodeOver, is_listed}
use Rattle.hm_schema.specs.Permitted.{names_of}
use Rattle.hm_terms.specs.Lenses.{Lens, Lenses, identity, sequence, constant, hoist, plunge, fork, each, among, items, copy, merge, on_concrete, on_view, text, call, lens_at}
use Rattle.hm_tree_parts.specs.Lists.{head, tail}
use Rattle.hm_tree.specs.declared.class.Class.{Class}
use Rattle.hm_types_nodes.specs.Parting.{IsParted, part_node, shape_in, shape_out}
use Rattle.hm_types_nodes.specs.Joining.{CanJoin, IsJoined}
use Rattle.hm_types_nodes.specs.Branching.{node_with, node_without, shapes_with, shapes_without}
use Rattle.hm_types_nodes.specs.Merging.{CanMerge, IsMerged}
use Rattle.hm_types_nodes.specs.Copying.{CanCopy, IsCopied, CanHide, hidden_node}
use Rattle.hm_schema_lists.specs.ListNodes.{IsListNode, empty_shape, item_shape}
use Rattle.hm_schema_lists.specs.Plain.{exact_shape, edge_node}
use Rattle.hm_schema_lists.specs.Values.{IsValueNode, IsEmptyNode, with_class}
use Rattle.hm_schema.specs.OneName.{alone}
use Rattle.hm_types_forms.specs.Forms.{Form, Label, Step, named, others, under, node_of, formed, can_be}
use Rattle.hm_types_forms.specs.Members.{Member}
use Rattle.hm_types_forms.specs.SameForms.{IsSame}

-- ---- the views of single lenses

-- nodes that have exactly a tree: at each place one shape, which requires the names there
abbrev pub exactly : Tree → Form
exactly t [] = Some (record { shapes = exact_shape (names_of t) ∷ []; children = map (λ e. (e.0, tt)) (edges t); other = None; twins = [] })
exactly t (named k ∷ w) = option_and_then (λ x. exactly x w) (below k t)
exactly t (others ∷ w) = None

-- each shape of a node requires a name alone
pub record IsAlone (m : Name) (n : NodeOver Form) : Type 0 where
  pub shapes : All (λ a. a ≡ exact_shape (alone m)) n.shapes
  pub plain : n.twins ≡ []

-- ---- lists

-- the two shapes of a list, in the order in which a node has them
abbrev pub list_shapes : Bool → List Shape
list_shapes true = empty_shape ∷ item_shape ∷ []
list_shapes false = item_shape ∷ empty_shape ∷ []

abbrev pub BeginsWith : List Shape → Bool → Type 0
BeginsWith shapes empty_first = (more : List Shape) × (shapes ≡ cond empty_first empty_shape item_shape ∷ more)

abbrev pub list_label : List Shape → Label
list_label shapes = record { shapes = shapes; children = (head, tt) ∷ (tail, tt) ∷ []; other = None; twins = [] }

-- lists of a form
abbrev pub list_form : Bool → Form → Form
list_form empty_first u [] = Some (list_label (list_shapes empty_first))
list_form empty_first u (named k ∷ w) = cond (eq_by_cmp name_cmp k head) (u w) (cond (eq_by_cmp name_cmp k tail) (list_form empty_first u w) None)
list_form empty_first u (others ∷ w) = None

-- lists of a form with an item at least
abbrev pub items_form : Bool → Form → Form
items_form empty_first u [] = Some (list_label (item_shape ∷ []))
items_form empty_first u (named k ∷ w) = cond (eq_by_cmp name_cmp k head) (u w) (cond (eq_by_cmp name_cmp k tail) (list_form empty_first u w) None)
items_form empty_first u (others ∷ w) = None

-- the source of a lens on items is a list: the form of its items, and the order of its shapes
pub record IsList (u : Form) (first : Form) (empty_first : Bool) : Type 0 where
  pub node : NodeOver Form
  pub is_node : node_of u ≡ Some node
  pub list : IsListNode IsSame u node
  pub first_is : list.first ≡ first
  pub order : BeginsWith node.shapes empty_first

-- or it has an item at least, with a list behind it whose items and rests are the same as its own
pub record IsItems (u : Form) (first : Form) (empty_first : Bool) : Type 0 where
  pub node : NodeOver Form
  pub is_node : node_of u ≡ Some node
  pub plain : node.twins ≡ []
  pub some : 0 < length node.shapes
  pub shapes : All (λ a. a ≡ item_shape) node.shapes
  pub first_is : find name_cmp head node.children ≡ Some first
  pub rest : Form
  pub rest_is : find name_cmp tail node.children ≡ Some rest
  pub item : Form
  pub list : IsList rest item empty_first
  pub same_items : IsSame item first

-- ---- forks

-- the one shape of the source, by which it is parted
pub record IsForked (P : Names) (u : Form) (n : NodeOver Form) (a : Shape) : Type 0 where
  pub node : node_of u ≡ Some n
  pub parted : IsParted (contains P) n a

-- what the two lenses are checked at
abbrev pub inside_form : Names → NodeOver Form → Shape → Form
inside_form P n a = formed (part_node n (shape_in (contains P) a))

abbrev pub outside_form : Names → NodeOver Form → Shape → Form
outside_form P n a = formed (part_node n (shape_out (contains P) a))

-- the two views, and whether they can be joined
pub record AreJoinable (Q : Names) (x y : Form) (one two : NodeOver Form) : Type 0 where
  pub node_one : node_of x ≡ Some one
  pub node_two : node_of y ≡ Some two
  pub can : CanJoin (contains Q) one two

-- ---- conditionals

-- a node without twins lists a name, and some shapes of it may have the name and some needn't
pub record IsBranched (m : Name) (u : Form) (n : NodeOver Form) : Type 0 where
  pub node : node_of u ≡ Some n
  pub listed : IsTrue (is_listed n m)
  pub plain : n.twins ≡ []
  pub with_it : 0 < length (shapes_with m n.shapes)
  pub without_it : 0 < length (shapes_without m n.shapes)

pub record AreMergeable (m : Name) (x y : Form) (one two : NodeOver Form) : Type 0 where
  pub node_one : node_of x ≡ Some one
  pub node_two : node_of y ≡ Some two
  pub can : CanMerge IsSame m one two

-- ---- lenses on children

-- the label of a source without twins
pub record IsPlain (u : Form) (a : Label) : Type 0 where
  pub is : u [] ≡ Some a
  pub plain : a.twins ≡ []

-- each named lens is for a name that is listed
abbrev pub AreListed : Label → Lenses → Type 0
AreListed a ls = (k : Name) → IsSome (lens_at k ls) → IsTrue (is_listed a k)

-- ---- texts

-- all members of a source are values of a class: its node is one of values, and what is below them permits no names
pub record AreValues (c : Class) (u : Form) (n : NodeOver Form) : Type 0 where
  pub node : node_of u ≡ Some n
  pub value : Form
  pub values : IsValueNode c value n
  pub below : NodeOver Form
  pub is_below : node_of value ≡ Some below
  pub empty : IsEmptyNode below

-- ---- all lenses

-- the class that each text lens reads and the one that it shows, by its name
abbrev pub Classes : Type 0
Classes = Name → Option (Class × Class)

-- these, and the source and the view that each definition is declared with
pub record Types : Type 0 where
  pub texts : Classes
  pub declared : Name → Option (Form × Form)

pub data Goes (T : Types) : Lens → Form → Form → Type 0 where
  goes_identity : {u : Form} → Goes T identity u u
  goes_sequence : {l k : Lens} {u m v : Form} → Goes T l u m → Goes T k m v → Goes T (sequence l k) u v
  -- the tree that is put where there is none from before is a member of the source
  goes_constant : {t d : Tree} {u v : Form} → Member u d → v ≡ exactly t → Goes T (constant t d) u v
  goes_hoist : {m : Name} {u v : Form} {n : NodeOver Form} → node_of u ≡ Some n → IsAlone m n → find name_cmp m n.children ≡ Some v
      → Goes T (hoist m) u v
  goes_plunge : {m : Name} {u v : Form} → v ≡ formed (edge_node m u) → Goes T (plunge m) u v
  goes_fork : {P Q : Names} {l k : Lens} {u x y v : Form} {n one two w : NodeOver Form} {a : Shape} → IsForked P u n a
      → Goes T l (inside_form P n a) x → Goes T k (outside_form P n a) y → AreJoinable Q x y one two → IsJoined (contains Q) one two w
      → v ≡ formed w → Goes T (fork P Q l k) u v
  -- the lens inside goes on each step that something there may have; on the others nothing changes
  goes_each : {l : Lens} {u v : Form} {a : Label} → IsPlain u a → v [] ≡ Some a
      → ((s : Step) → can_be a s ≡ true → Goes T l (under s u) (under s v))
      → ((s : Step) → can_be a s ≡ false → under s v ≡ under s u) → Goes T (each l) u v
  -- each named lens goes on its name; on all other steps nothing changes
  goes_among : {ls : Lenses} {u v : Form} {a : Label} → IsPlain u a → AreListed a ls → v [] ≡ Some a
      → ((k : Name) (l : Lens) → lens_at k ls ≡ Some l → Goes T l (under (named k) u) (under (named k) v))
      → ((k : Name) → lens_at k ls ≡ None → under (named k) v ≡ under (named k) u) → under others v ≡ under others u
      → Goes T (among ls) u v
  goes_list : {l : Lens} {u v x y : Form} {empty_first : Bool} → IsList u x empty_first → Goes T l x y → v ≡ list_form empty_first y
      → Goes T (items l) u v
  goes_items : {l : Lens} {u v x y : Form} {empty_first : Bool} → IsItems u x empty_first → Goes T l x y → v ≡ items_form empty_first y
      → Goes T (items l) u v
  goes_copy : {m o : Name} {u v : Form} {n w : NodeOver Form} → node_of u ≡ Some n → CanCopy m o n → IsCopied m o n w → v ≡ formed w
      → Goes T (copy m o) u v
  goes_merge : {m o : Name} {u v : Form} {n : NodeOver Form} → node_of u ≡ Some n → CanHide IsSame m o n → v ≡ formed (hidden_node o n)
      → Goes T (merge m o) u v
  goes_concrete : {m : Name} {l k : Lens} {u v y : Form} {n : NodeOver Form} → IsBranched m u n → Goes T l (formed (node_with m n)) v
      → Goes T k (formed (node_without m n)) y → IsSame v y → Goes T (on_concrete m l k) u v
  goes_view : {m o : Name} {l k : Lens} {u v x y : Form} {n one two w : NodeOver Form} → IsBranched m u n
      → Goes T l (formed (node_with m n)) x → Goes T k (formed (node_without m n)) y → AreMergeable o x y one two
      → IsMerged o one two w → v ≡ formed w → Goes T (on_view m o l k) u v
  -- values of the class that a text lens reads become such of the class that it shows
  goes_text : {x : Name} {c d : Class} {u v : Form} {n : NodeOver Form} → T.texts x ≡ Some (c, d) → AreValues c u n → v ≡ formed (with_class d n)
      → Goes T (text x) u v
  -- a definition is called where the source is the same as its own
  goes_call : {n : Name} {u v x : Form} → T.declared n ≡ Some (x, v) → IsSame u x → Goes T (call n) u v
