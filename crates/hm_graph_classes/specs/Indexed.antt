-- Maps by which the vertices of a graph are found.
use Rattle.std.specs.Prelude.{◌≡◌, ◌↔◌, ℕ, ◌<◌, [], ◌∷◌, length, Some, Vec}
use Rattle.std.specs.declared.alloc.Global.{Global}
use Rattle.std.specs.declared.cmp.Ordering.{Ordering}
use Rattle.std.specs.Ordering.{ordering_then, nat_cmp}
use Rattle.std.specs.Cmp.Lexicographic.{slice_cmp}
use Rattle.std.specs.BTreeMap.{BTreeMap, get}
use Rattle.hm_graph.specs.Same.{Graph}
use Rattle.hm_graph_classes.specs.Reduced.{IsReduced, HasVertex}

-- a label, and where edges lead
abbrev pub Key : Type 0
Key = ℕ × Vec ℕ Global

abbrev pub key_cmp : Key → Key → Ordering
key_cmp a b = ordering_then (nat_cmp a.0 b.0) (slice_cmp nat_cmp a.1.items b.1.items)

-- a label, and where the first edge leads
abbrev pub Loop : Type 0
Loop = ℕ × ℕ

abbrev pub loop_cmp : Loop → Loop → Ordering
loop_cmp a b = ordering_then (nat_cmp a.0 b.0) (nat_cmp a.1 b.1)

-- a map has the vertices below a bound, each under the keys that it has
pub record Finds {K : Type 0} (cmp : K → K → Ordering) (has : K → ℕ → Type 0) (bound : ℕ) (known : BTreeMap K ℕ) : Type 0 where
  pub each : (q : K) (c : ℕ) → (get cmp known q ≡ Some c) ↔ ((c < bound) × has q c)

-- a vertex has the label and the edges of a key
abbrev pub IsUnder : Graph → Key → ℕ → Type 0
IsUnder g q c = HasVertex g c q.0 q.1.items

-- a vertex has two edges, of which the second leads to itself
abbrev pub IsLoop : Graph → Loop → ℕ → Type 0
IsLoop g q c = HasVertex g c q.0 (q.1 ∷ c ∷ [])

abbrev pub AreKnown : Graph → ℕ → BTreeMap Key ℕ → Type 0
AreKnown g bound known = Finds key_cmp (IsUnder g) bound known

abbrev pub AreLoops : Graph → ℕ → BTreeMap Loop ℕ → Type 0
AreLoops g bound loops = Finds loop_cmp (IsLoop g) bound loops

pub record IsIndexed (g : Graph) (known : BTreeMap Key ℕ) (loops : BTreeMap Loop ℕ) : Type 0 where
  pub reduced : IsReduced g
  pub vertices : AreKnown g (length g) known
  pub to_itself : AreLoops g (length g) loops
