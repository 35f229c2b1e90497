-- The node of just one tree, over those of its children.
use Rattle.std.proofs.Common.{◌≡◌, ◌<◌, IsTrue, List, [], ◌∷◌, ◌++◌, length, map, Option, Some, None, All, refl, sym, ap, ◌∙◌, arith, option_and_then}
use Rattle.std.proofs.lemmas.List.{length-map, map-append}
use Rattle.std.proofs.lemmas.List.Elements.{All-nil, All-weaker, All-append, All-head, All-tail}
use Rattle.std.specs.List.{zip}
use Rattle.std.specs.Option.{option_map}
use Rattle.std.specs.FinSet.{contains, contains-from_list}
use Rattle.hm_tree.specs.Names.{Name}
use Rattle.hm_tree.specs.Nodes.{Tree, edges, below}
use Rattle.hm_tree.specs.NodeLaws.{edges_sorted}
use Rattle.hm_tree.proofs.Sorted.{name_total}
use Rattle.hm_schema.specs.declared.node.NodeId.{NodeId}
use Rattle.hm_schema.specs.Values.{NodeOver, NodeValue, is_listed}
use Rattle.hm_schema.specs.Permitted.{names_of}
use Rattle.hm_schema.specs.WellFormed.{IsWellFormedNode, IsWellFormedShape}
use Rattle.hm_schema_lists.specs.Plain.{exact_shape}
use Rattle.hm_schema.proofs.Elements.{all_one}
use Rattle.hm_types_forms.specs.Forms.{Form, Way, named, others, over, form, formed}
use Rattle.hm_types_rules.specs.Typing.{exactly}
use Rattle.hm_types_rules.proofs.ListForms.{shape_well}
use Rattle.hm_types_table.specs.declared.kind.NodeKind.{NodeKind}
use Rattle.hm_types_table.specs.Tables.{Nodes, AreFormed, Extends, keys, seated}
use Rattle.hm_types_table.proofs.BesideNames.{listed_beside}
use Rattle.hm_types_table.proofs.Grown.{extends_self, extends_then, extends_length, form_extends}
use Rattle.hm_types_table.proofs.Keys.{keys_size, all_zip, rising, zip_sorted}
use Rattle.hm_types_table.proofs.Forms.{label_over, next_over, form_added}

-- ---- the nodes of the first edges of a tree, as a table grows by them

pub record AreShown (old nodes : Nodes) (es : List (Name × Tree)) (js : List NodeId) : Type 0 where
  pub grown : Extends old nodes
  pub formed : AreFormed nodes
  pub in_range : All (λ j. j.place < length nodes) js
  pub shown : map (form nodes) js ≡ map (λ e. exactly e.1) es

pub none_shown : (nodes : Nodes) → AreFormed nodes → AreShown nodes nodes [] []
none_shown nodes h = record { grown = extends_self nodes; formed = h; in_range = All-nil (λ (j : NodeId). j.place < length nodes); shown = refl }

-- one more
module _ (old nodes new : Nodes) (es : List (Name × Tree)) (js : List NodeId) (s : AreShown old nodes es js) (more : Extends nodes new) (h : AreFormed new)
    (e : Name × Tree) (j : NodeId) (lt : j.place < length new) (is : form new j ≡ exactly e.1) where
  still : (js : List NodeId) → All (λ j. j.place < length nodes) js → map (form new) js ≡ map (form nodes) js
  still [] all = refl
  still (i ∷ js) all =
      let one = form_extends nodes new s.formed more i (All-head (λ (j : NodeId). j.place < length nodes) i js all) in
      let rest = still js (All-tail (λ (j : NodeId). j.place < length nodes) i js all) in
      λ t. one t ∷ rest t

  pub more_shown : AreShown old new (es ++ e ∷ []) (js ++ j ∷ [])
  more_shown = record {
    grown = extends_then old nodes new s.grown more;
    formed = h;
    in_range = All-append (λ (j : NodeId). j.place < length new) js (j ∷ [])
        (All-weaker (λ (j : NodeId). j.place < length nodes) (λ (j : NodeId). j.place < length new)
        (λ i less. let le = extends_length nodes new more in omega (arith, le, less)) js s.in_range)
        (all_one (λ (j : NodeId). j.place < length new) j lt);
    shown = map-append (form new) js (j ∷ []) ∙ (λ t. (still js s.in_range ∙ s.shown) t ++ is t ∷ []) ∙ sym (map-append (λ (e : Name × Tree). exactly e.1) es (e ∷ []));
  }

-- ---- the node

module _ (t : Tree) (js : List NodeId) where
  abbrev pub tree_node : NodeValue
  tree_node = record { shapes = exact_shape (names_of t) ∷ []; children = zip (keys (edges t)) js; other = None; twins = [] }

  pub tree_seated : (k : NodeKind) → k.shapes.items ≡ exact_shape (names_of t) ∷ [] → k.names.items ≡ keys (edges t) → k.twins.items ≡ []
      → seated k js None ≡ tree_node
  tree_seated k s n w = λ i. record { shapes = s i; children = zip (n i) js; other = None; twins = w i }

  module _ (old nodes : Nodes) (s : AreShown old nodes (edges t) js) where
    pub shown_size : length js ≡ length (keys (edges t))
    shown_size = sym (length-map js (form nodes)) ∙ ap length s.shown ∙ length-map (edges t) (λ (e : Name × Tree). exactly e.1) ∙ sym (keys_size (edges t))

    lists : (k : Name) → IsTrue (contains (names_of t) k) → IsTrue (is_listed tree_node k)
    lists k h = listed_beside (keys (edges t)) js k shown_size ∙ sym (contains-from_list name_total (keys (edges t)) k) ∙ h

    pub tree_well : IsWellFormedNode (length nodes) tree_node
    tree_well = record {
      ascending = zip_sorted (keys (edges t)) js (rising (edges t) (edges_sorted t)) shown_size;
      children = all_zip (λ j. j.place < length nodes) (keys (edges t)) js s.in_range;
      other = tt;
      shapes = all_one (IsWellFormedShape tree_node) (exact_shape (names_of t)) (shape_well tree_node (names_of t) lists);
      some_shape = omega arith;
      twins = All-nil (λ (w : Name × Name). IsTrue (is_listed tree_node w.0) × IsTrue (is_listed tree_node w.1));
    }

    -- its children stand for the forms of the tree's children
    led : (es : List (Name × Tree)) (js : List NodeId) → map (form nodes) js ≡ map (λ e. exactly e.1) es
        → map {B = Name × Form} (λ c. (c.0, form nodes c.1)) (zip (keys es) js) ≡ map {B = Name × Form} (λ e. (e.0, exactly e.1)) es
    led [] [] e = refl
    led [] (j ∷ js) e = refl
    led (c ∷ es) [] e = let f : ⊥ = cc in absurd f
    led (c ∷ es) (j ∷ js) e =
        let here : form nodes j ≡ exactly c.1 = cc in
        let rest = led es js (let more : map (form nodes) js ≡ map (λ e. exactly e.1) es = cc in more) in
        λ i. (c.0, here i) ∷ rest i

    -- a tree as a node over its children
    over_trees : NodeOver Tree
    over_trees = record { shapes = exact_shape (names_of t) ∷ []; children = edges t; other = None; twins = [] }

    formed_exactly : (w : Way) → formed (over (λ s x. exactly x) over_trees) w ≡ exactly t w
    unfolding over_trees
    formed_exactly [] = ap Some (label_over (λ s x. exactly x) over_trees)
    formed_exactly (named k ∷ w) = ap (option_and_then (λ (u : Form). u w)) (next_over (λ s x. exactly x) over_trees (named k)) ∙ go (below k t)
      where
        go : (x : Option Tree) → option_and_then (λ (u : Form). u w) (option_map exactly x) ≡ option_and_then (λ x. exactly x w) x
        go None = refl
        go (Some x) = refl
    formed_exactly (others ∷ w) = refl

    pub tree_form : (new : Nodes) → new ≡ nodes ++ tree_node ∷ [] → (j : NodeId) → j.place ≡ length nodes → form new j ≡ exactly t
    unfolding over_trees
    tree_form new is j at =
        form_added nodes new s.formed tree_node tree_well is j at
        ∙ (λ i. formed (record { shapes = exact_shape (names_of t) ∷ []; children = led (edges t) js s.shown i; other = None; twins = [] }))
        ∙ (λ i w. formed_exactly w i)
