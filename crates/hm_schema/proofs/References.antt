-- Nodes of a well formed schema are well formed, and refer to nodes that are there.
use Rattle.std.proofs.Common.{◌≡◌, ◌<◌, ◌≤◌, ◌+◌, ℕ, T, All, List, length, map, get_or, slice_get, drop, Option, Some, None, IfSome, IsSome, IsSomeAnd, IsTrue, is_some, false, refl, sym, ap, subst, ◌∙◌, arith, option_and_then}
use Rattle.std.specs.Option.{option_or, option_map}
use Rattle.std.specs.FinMap.{find, is_sorted}
use Rattle.std.specs.FinSet.{contains}
use Rattle.std.proofs.lemmas.List.{length-map, drop_all}
use Rattle.std.proofs.lemmas.Option.{same_Some, none-some, slice_get-map, slice_get-get_or, slice_get_read}
use Rattle.hm_tree.specs.declared.class.Class.{Class}
use Rattle.hm_tree.specs.Classes.{IsInClass}
use Rattle.hm_tree.specs.Names.{Name, name_cmp}
use Rattle.hm_tree.specs.States.{Path}
use Rattle.hm_tree.proofs.Paths.{front_is}
use Rattle.hm_schema.specs.declared.node.NodeId.{NodeId}
use Rattle.hm_schema.specs.declared.node.Node.{Node}
use Rattle.hm_schema.specs.Values.{Names, NodeValue, SchemaValue, node_value, schema_value, node_at, child_of, child_at, reached}
use Rattle.hm_schema.specs.declared.index.ShapeIndex.{ShapeIndex}
use Rattle.hm_schema.specs.Indexes.{IsIndexOf, IsKept}
use Rattle.hm_schema.specs.Permitted.{Permits, PermitsAt, Takes}
use Rattle.hm_schema.specs.WellFormed.{IsWellFormed, IsWellFormedNode}
use Rattle.hm_schema.proofs.NamesOf.{found_value}
use Rattle.hm_schema.proofs.Lists.{all_read}

pub well_formed_at : (s : SchemaValue) (i : NodeId) (n : NodeValue) → IsWellFormed s → node_at s i ≡ Some n → IsWellFormedNode (length s.nodes) n
well_formed_at s i n h e = all_read (IsWellFormedNode (length s.nodes)) s.nodes i.place n e h.nodes

pub child_in_range : (count : ℕ) (n : NodeValue) (k : Name) (j : NodeId) → IsWellFormedNode count n → child_of n k ≡ Some j → j.place < count
child_in_range count n k j h is = listed (find name_cmp k n.children) refl (other n.other h.other) is
  where
    other : (o : Option (Class × NodeId)) → IfSome o (λ o. o.1.place < count) → option_map (λ (o : Class × NodeId). o.1) o ≡ Some j → j.place < count
    other None h e = absurd (none-some j e)
    other (Some o) h e = subst (λ (j : NodeId). j.place < count) (same_Some o.1 j e) h

    listed : (x : Option NodeId) → find name_cmp k n.children ≡ x
        → (option_map (λ (o : Class × NodeId). o.1) n.other ≡ Some j → j.place < count)
        → option_or x (option_map (λ (o : Class × NodeId). o.1) n.other) ≡ Some j → j.place < count
    listed None e rest is = rest is
    listed (Some i) e rest is = subst (λ (j : NodeId). j.place < count) (same_Some i j is)
        (found_value (λ (k : Name) (j : NodeId). j.place < count) n.children h.children k i e)

-- a name that is permitted has a node
pub child_there : (n : NodeValue) (names : Names) (k : Name) → Permits n names → IsTrue (contains names k) → IsSome (child_of n k)
child_there n names k (i, s, lt, at, fits) there = go (find name_cmp k n.children) (λ off. fits.others k there off)
  where
    other : (o : Option (Class × NodeId)) → IsSomeAnd o (λ o. IsInClass o.0 k) → IsSome (option_map (λ (o : Class × NodeId). o.1) o)
    other None h = absurd h
    other (Some o) h = refl

    go : (x : Option NodeId) → (is_some x ≡ false → Takes n k) → IsSome (option_or x (option_map (λ (o : Class × NodeId). o.1) n.other))
    go None h = other n.other (h refl)
    go (Some i) h = refl

module _ (s : SchemaValue) (i : NodeId) (n : NodeValue) (here : node_at s i ≡ Some n) where
  pub permits_here : (names : Names) → PermitsAt s i names → Permits n names
  permits_here names p = subst (λ m. Permits m names) (same_Some p.node n (sym p.is ∙ here)) p.permitted

  pub child_here : (k : Name) → child_of n k ≡ child_at s i k
  child_here k = rw here refl

-- ---- where a path leads, of which i names were passed

module _ (s : SchemaValue) where
  pub led_down : (i j : NodeId) (p : Path) (n : ℕ) (k : Name) → n < length p → k ≡ get_or p n k → child_at s i k ≡ Some j
      → reached s i (drop n p) ≡ reached s j (drop (n + 1) p)
  led_down i j p n k lt e is = ap (reached s i) (front_is p n k lt e) ∙ ap (option_and_then (λ j. reached s j (drop (n + 1) p))) is

  pub leads_on : (i : NodeId) (p : Path) (n : ℕ) (k : Name) → n < length p → k ≡ get_or p n k → IsSome (reached s i (drop n p))
      → IsSome (child_at s i k)
  leads_on i p n k lt e some = go (child_at s i k) (subst IsSome (ap (reached s i) (front_is p n k lt e)) some)
    where
      go : (x : Option NodeId) → IsSome (option_and_then (λ j. reached s j (drop (n + 1) p)) x) → IsSome x
      go None h = h
      go (Some j) h = refl

  pub led_to : (i : NodeId) (p : Path) (n : ℕ) → length p ≤ n → reached s i (drop n p) ≡ Some i
  led_to i p n le = ap (reached s i) (drop_all n p le)

-- ---- the node that is kept at a place

pub node_kept : (nodes : List Node) (root : NodeId) (s : SchemaValue) (i : NodeId) (n : Node) → schema_value nodes root ≡ s
    → i.place < length s.nodes → n ≡ get_or nodes i.place n → node_at s i ≡ Some (node_value n)
node_kept nodes root s i n e lt at =
    let within : i.place < length nodes = omega (arith, ap (λ (s : SchemaValue). length s.nodes) e, length-map nodes node_value) in
    sym (ap (λ s. node_at s i) e) ∙ slice_get-map node_value nodes i.place
    ∙ ap (option_map node_value) (slice_get_read nodes (length nodes) i.place n refl within at)

-- ---- the index that is kept at a place

pub index_kept : (nodes : List Node) (root : NodeId) (indexes : List (Option ShapeIndex)) (s : SchemaValue) (i : NodeId) (o : Option ShapeIndex)
    (x : ShapeIndex) → IsKept nodes root indexes → schema_value nodes root ≡ s → i.place < length indexes → o ≡ get_or indexes i.place o → o ≡ Some x
    → (n : NodeValue) → node_at s i ≡ Some n → IsIndexOf x n
index_kept nodes root indexes s i o x kept e lt at is n here =
    go (slice_get nodes i.place) refl (sym (slice_get-map node_value nodes i.place) ∙ ap (λ s. node_at s i) e ∙ here)
  where
    go : (m : Option Node) → slice_get nodes i.place ≡ m → option_map node_value m ≡ Some n → IsIndexOf x n
    go None r same = absurd (none-some n same)
    go (Some m) r same =
        subst (IsIndexOf x) (same_Some (node_value m) n same)
        (kept.indexed i.place m x r (slice_get_read indexes (length indexes) i.place o refl lt at ∙ ap Some is))

-- the listed names of each node rise
pub each_sorted : (nodes : List Node) (root : NodeId) → IsWellFormed (schema_value nodes root) → All (λ n. T (is_sorted name_cmp n.children.items)) nodes
each_sorted nodes root formed k d lt =
    let at : slice_get (map node_value nodes) k ≡ Some (node_value (get_or nodes k d)) =
    slice_get-map node_value nodes k ∙ ap (option_map node_value) (slice_get-get_or nodes k d lt) in
    (all_read (IsWellFormedNode (length (map node_value nodes))) (map node_value nodes) k (node_value (get_or nodes k d)) at formed.nodes).ascending
