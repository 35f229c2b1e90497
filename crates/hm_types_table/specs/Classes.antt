-- What a table keeps beside its nodes, by which it knows which of them are the same.
use Rattle.std.specs.Prelude.{◌≡◌, ◌↔◌, ℕ, Bool, ◌||◌, cond, List, [], ◌∷◌, ◌++◌, map, length, Option, Some, None, slice_get}
use Rattle.std.specs.Option.{option_map}
use Rattle.hm_tree.specs.declared.class.Class.{Class}
use Rattle.hm_graph.specs.declared.sameness.Vertex.{Vertex}
use Rattle.hm_graph_classes.specs.Reduced.{IsReduced, HasVertex, Grows, class_at}
use Rattle.hm_schema.specs.declared.node.NodeId.{NodeId}
use Rattle.hm_schema.specs.Values.{NodeOver, NodeValue}
use Rattle.hm_schema.specs.Tidied.{tidied, lets_some_in, stands}
use Rattle.hm_schema.specs.Numbering.{IsNumbering, KeepsNumbers}
use Rattle.hm_schema.specs.Labels.{Numbers, HasNumber, label_cmp}
use Rattle.hm_types_forms.specs.Forms.{Label, label_of, form}
use Rattle.hm_types_forms.specs.SameForms.{IsSame}
use Rattle.hm_types_table.specs.declared.kind.NodeKind.{NodeKind}
use Rattle.hm_types_table.specs.declared.outline.Outline.{Outline}
use Rattle.hm_types_table.specs.declared.annotations.Annotations.{Annotations}
use Rattle.hm_types_table.specs.Tables.{Nodes, AreFormed}

-- nodes have equal classes exactly where what they stand for is the same
pub record HaveClasses (nodes : Nodes) (classes : List ℕ) : Type 0 where
  pub size : length classes ≡ length nodes
  pub same : (i j : NodeId) (a b : ℕ) → slice_get classes i.place ≡ Some a → slice_get classes j.place ≡ Some b
      → (a ≡ b) ↔ IsSame (form nodes i) (form nodes j)

-- ---- outlines

-- the label of nodes of a kind with a class of all other names
abbrev pub kind_label : NodeKind → Option Class → Label
kind_label k class = record {
  shapes = k.shapes.items;
  children = map (λ m. (m, tt)) k.names.items;
  other = option_map (λ c. (c, tt)) class;
  twins = k.twins.items;
}

-- an outline tells of nodes with a label
pub record IsOutline (known : Numbers) (l : Label) (o : Outline) : Type 0 where
  pub number : HasNumber known (tidied l) o.label
  pub lets_in : o.lets_in ≡ lets_some_in l
  pub standing : o.standing.items ≡ map (λ c. stands l c.0) l.children

-- ---- where edges lead

abbrev pub other_ends : {I : Type 0} → Option (Class × I) → List I
other_ends None = []
other_ends (Some o) = o.1 ∷ []

abbrev pub ends : {I : Type 0} → NodeOver I → List I
ends n = map (λ c. c.1) n.children ++ other_ends n.other

-- what is left of a list: all of it, or what stands
abbrev pub left : {X : Type 0} → Bool → List Bool → List X → List X
left all [] xs = []
left all (b ∷ bs) [] = []
left all (b ∷ bs) (x ∷ xs) = cond (all || b) (x ∷ left all bs xs) (left all bs xs)

-- the edges that are left of a node when it is tidied
abbrev pub ends_left : Outline → List NodeId → Option (Class × NodeId) → List NodeId
ends_left o next other = left o.lets_in o.standing.items next ++ other_ends (cond o.lets_in other None)

-- the classes of nodes
abbrev pub classes_of : List ℕ → List NodeId → List ℕ
classes_of classes js = map (λ j. class_at classes j.place) js

-- ---- the graph of nodes

-- each item of a list passes, with its place
abbrev pub EachAt : {X : Type 0} → (ℕ → X → Type 0) → List X → Type 0
EachAt {X} P xs = (i : ℕ) (x : X) → slice_get xs i ≡ Some x → P i x

-- each node has its outline
abbrev pub AreOutlines : Numbers → Nodes → List Outline → Type 0
AreOutlines known nodes outlines = EachAt (λ i o. (n : NodeValue) → slice_get nodes i ≡ Some n → IsOutline known (label_of n) o) outlines

-- outlines tell of as many names as nodes list
abbrev pub HaveSizes : Nodes → List Outline → Type 0
HaveSizes nodes outlines = EachAt (λ i o. (n : NodeValue) → slice_get nodes i ≡ Some n → length o.standing.items ≡ length n.children) outlines

-- a vertex has the number of the label of a node, and the edges that are left of it
pub record IsVertexOf (n : NodeValue) (o : Outline) (v : Vertex) : Type 0 where
  pub label : v.label ≡ o.label
  pub next : v.next.items ≡ map (λ j. j.place) (ends_left o (map (λ c. c.1) n.children) n.other)

abbrev pub AreVertices : Nodes → List Outline → List Vertex → Type 0
AreVertices nodes outlines graph =
    EachAt (λ i v. (n : NodeValue) (o : Outline) → slice_get nodes i ≡ Some n → slice_get outlines i ≡ Some o → IsVertexOf n o v) graph

-- ---- classes

-- a place has the outline of a label
pub record HasOutline (s : Annotations) (seen : ℕ) (l : Label) : Type 0 where
  pub outline : Outline
  pub is : slice_get s.outlines.items seen ≡ Some outline
  pub told : IsOutline s.numbers l outline

-- the class of a node is a vertex with the number of its label, tidied, whose edges lead to the classes that its edges lead to
pub record IsClassed (s : Annotations) (i : ℕ) (n : NodeValue) : Type 0 where
  pub seen : ℕ
  pub is_seen : slice_get s.seen.items i ≡ Some seen
  pub outline : Outline
  pub is_outline : slice_get s.outlines.items seen ≡ Some outline
  pub outlined : IsOutline s.numbers (label_of n) outline
  pub vertex : HasVertex s.reduced (class_at s.classes.items i) outline.label (classes_of s.classes.items (ends (tidied n)))

pub record AreClassed (nodes : Nodes) (s : Annotations) : Type 0 where
  pub formed : AreFormed nodes
  pub numbering : IsNumbering label_cmp s.numbers
  pub reduced : IsReduced s.reduced
  pub seen_size : length s.seen.items ≡ length nodes
  pub classes_size : length s.classes.items ≡ length nodes
  pub each : (i : ℕ) (n : NodeValue) → slice_get nodes i ≡ Some n → IsClassed s i n

-- what is kept beside nodes is kept, and there may be more numbers, outlines and vertices
pub record Keeps (old new : Annotations) : Type 0 where
  pub numbering : IsNumbering label_cmp old.numbers → IsNumbering label_cmp new.numbers
  pub stays : KeepsNumbers label_cmp old.numbers new.numbers
  pub outlines : (i : ℕ) (o : Outline) → slice_get old.outlines.items i ≡ Some o → slice_get new.outlines.items i ≡ Some o
  pub reduced : IsReduced old.reduced → IsReduced new.reduced
  pub grows : Grows old.reduced new.reduced
  pub seen : new.seen.items ≡ old.seen.items
  pub classes : new.classes.items ≡ old.classes.items

-- a class for a node with an outline, whose names lead there, if it is the next one
pub record IsClassFor (s : Annotations) (seen class : ℕ) (next : List NodeId) (other : Option (Class × NodeId)) : Type 0 where
  pub outline : Outline
  pub is_outline : slice_get s.outlines.items seen ≡ Some outline
  pub vertex : HasVertex s.reduced class outline.label (classes_of (s.classes.items ++ class ∷ []) (ends_left outline next other))
