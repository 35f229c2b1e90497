-- Partitions of the vertices of a graph, and how one is refined.
use Rattle.std.specs.Prelude.{◌≡◌, ℕ, ◌<◌, ◌≤◌, List, ◌∷◌, length, map, Some, slice_get}
use Rattle.std.specs.BTreeMap.{BTreeMap, get}
use Rattle.hm_graph.specs.Same.{Graph, label_at, next_at, AreAlike}
use Rattle.hm_graph.specs.declared.sameness.Vertex.{Vertex}
use Rattle.hm_graph_classes.specs.Reduced.{HasVertex, class_at}
use Rattle.hm_graph_classes.specs.Indexed.{Key, key_cmp}

-- the classes that the edges of a vertex lead to
abbrev pub classes_below : Graph → List ℕ → ℕ → List ℕ
classes_below g classes i = map (class_at classes) (next_at g i)

-- a key of a vertex: its label, its class, and the classes that its edges lead to
pub record IsKey (g : Graph) (classes : List ℕ) (i : ℕ) (q : Key) : Type 0 where
  pub label : label_at g i ≡ Some q.0
  pub numbers : q.1.items ≡ class_at classes i ∷ classes_below g classes i

-- two vertices have one key
pub record HaveOneKey (g : Graph) (classes : List ℕ) (i j : ℕ) : Type 0 where
  pub class : class_at classes i ≡ class_at classes j
  pub label : label_at g i ≡ label_at g j
  pub below : classes_below g classes i ≡ classes_below g classes j

-- r is the first vertex with the key of i
pub record IsFirst (g : Graph) (classes : List ℕ) (i r : ℕ) : Type 0 where
  pub low : r ≤ i
  pub alike : HaveOneKey g classes r i
  pub none : (j : ℕ) → j < r → ¬ (HaveOneKey g classes j i)

-- each new class is the first vertex with one key
pub record IsRefined (g : Graph) (old new : List ℕ) : Type 0 where
  pub size : length new ≡ length g
  pub first : (i : ℕ) → i < length g → IsFirst g old i (class_at new i)

-- the vertices before one have been gone over: a map has the first vertex of each of their keys
pub record IsRefining (g : Graph) (old new : List ℕ) (bound : ℕ) (known : BTreeMap Key ℕ) : Type 0 where
  pub size : length new ≡ bound
  pub first : (i : ℕ) → i < bound → IsFirst g old i (class_at new i)
  pub there : (q : Key) (r : ℕ) → get key_cmp known q ≡ Some r → (r < bound) × IsKey g old r q
  pub has : (q : Key) (i : ℕ) → i < bound → IsKey g old i q → get key_cmp known q ≡ Some (class_at new i)

-- each vertex is in the class of the first one in it, those of a class have one key, and alike ones are in one class
pub record IsStable (g : Graph) (classes : List ℕ) : Type 0 where
  pub size : length classes ≡ length g
  pub low : (i : ℕ) → i < length g → class_at classes i ≤ i
  pub key : (i : ℕ) → i < length g → HaveOneKey g classes (class_at classes i) i
  pub alike : (i j : ℕ) → i < length g → j < length g → AreAlike g i j → class_at classes i ≡ class_at classes j

-- the first vertices of the classes in their order, and for each vertex the place of the first of its class
pub record AreNumbers (firsts heads numbers : List ℕ) (bound : ℕ) : Type 0 where
  pub size : length numbers ≡ bound
  pub there : (i : ℕ) → i < bound → slice_get heads (class_at numbers i) ≡ Some (class_at firsts i)
  pub back : (c h : ℕ) → slice_get heads c ≡ Some h → (h < bound) × (class_at firsts h ≡ h) × (class_at numbers h ≡ c)

-- the vertices of the first classes: each has the label of the first of its class, and edges to what those of this lead to
pub record IsQuotient (g : Graph) (heads numbers : List ℕ) (vertices : Graph) (bound : ℕ) : Type 0 where
  pub size : length vertices ≡ bound
  pub each : (c h : ℕ) (v : Vertex) → c < bound → slice_get heads c ≡ Some h → slice_get g h ≡ Some v
      → HasVertex vertices c v.label (map (class_at numbers) v.next.items)
