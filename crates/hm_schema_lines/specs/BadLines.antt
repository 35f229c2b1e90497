-- Which lines of nodes are bad.
use Rattle.std.specs.Prelude.{◌≡◌, ◌⊎◌, ℕ, ◌<◌, ◌≤◌, suc, Bool, true, false, cond, List, [], ◌∷◌, ◌++◌, take, drop, reverse, slice_get, codes, count_by, Option, Some, None}
use Rattle.std.specs.List.{Contains}
use Rattle.hm_tree.specs.Names.{Name}
use Rattle.hm_tree.specs.declared.class.Class.{Class}
use Rattle.hm_schema_lines.specs.declared.count.Count.{Count}
use Rattle.hm_schema_lines.specs.NodeLines.{NodeLineValue, ShapeValue, is_inside, node, edge, other, shape}
use Rattle.hm_schema_lines.specs.Entries.{EntryValue, skipped, says}

-- ---- kinds of lines

abbrev pub is_counted : EntryValue → Bool
is_counted skipped = false
is_counted e = true

-- whether a line begins a node
abbrev pub begins_node : EntryValue → Bool
begins_node (says (node w)) = true
begins_node e = false

abbrev pub is_shape : EntryValue → Bool
is_shape (says (shape s)) = true
is_shape e = false

-- the node that a line names
abbrev pub named : NodeLineValue → Option Name
named (edge k w) = Some w
named (other c w) = Some w
named (node w) = None
named (shape s) = None

-- ---- the lines of a node

-- the lines up to the next that begins a node
abbrev pub up_to_node : List EntryValue → List EntryValue
up_to_node [] = []
up_to_node (e ∷ es) = cond (begins_node e) [] (e ∷ up_to_node es)

-- the lines behind the last that begins a node
abbrev pub since_node : List EntryValue → List EntryValue
since_node es = reverse (up_to_node (reverse es))

-- the lines before a line in its node, and all lines of its node
abbrev pub earlier : List EntryValue → ℕ → List EntryValue
earlier es i = since_node (take i es)

abbrev pub around : List EntryValue → ℕ → List EntryValue
around es i = earlier es i ++ up_to_node (drop i es)

-- the lines of the node that a line begins
abbrev pub behind : List EntryValue → ℕ → List EntryValue
behind es i = up_to_node (drop (suc i) es)

-- ---- what lines say

abbrev pub Says : List EntryValue → ℕ → NodeLineValue → Type 0
Says es i x = slice_get es i ≡ Some (says x)

abbrev pub Declares : List EntryValue → Name → Type 0
Declares es w = Contains es (says (node w))

abbrev pub Lists : List EntryValue → Name → Type 0
Lists es k = (w : Name) × Contains es (says (edge k w))

abbrev pub SpeaksOfOthers : List EntryValue → Type 0
SpeaksOfOthers es = (c : Class) × (w : Name) × Contains es (says (other c w))

abbrev pub HasShape : List EntryValue → Type 0
HasShape es = (s : ShapeValue) × Contains es (says (shape s))

-- a node that may be named: a declared one, or the node `Empty`
abbrev pub IsNode : List EntryValue → Name → Type 0
IsNode es w = Declares es w ⊎ (w ≡ codes "Empty")

abbrev pub names_of_shape : ShapeValue → List Name
names_of_shape s = s.required ++ s.optional

-- a name stands in a list twice
abbrev pub HasDouble : List Name → Type 0
HasDouble ks = (i j : ℕ) × (k : Name) × (i < j) × (slice_get ks i ≡ Some k) × (slice_get ks j ≡ Some k)

abbrev pub IsNoneCounted : Count → Type 0
IsNoneCounted c = (c.least ≡ 0) × (c.most ≡ Some 0)

-- lines that aren't skipped
abbrev pub lines_before : List EntryValue → ℕ → ℕ
lines_before es i = count_by is_counted (take i es)

abbrev pub nodes_before : List EntryValue → ℕ → ℕ
nodes_before es i = count_by begins_node (take i es)

-- ---- bad lines

pub data IsBadNodeLine (es : List EntryValue) (i : ℕ) : Type 0 where
  -- it stands before all nodes
  in_no_node : {x : NodeLineValue} → Says es i x → is_inside x ≡ true → nodes_before es i ≡ 0 → IsBadNodeLine es i
  -- it declares a node a second time, or as `Empty`, or names one that isn't there
  declared_twice : {w : Name} → Says es i (node w) → Declares (take i es) w → IsBadNodeLine es i
  declares_empty : Says es i (node (codes "Empty")) → IsBadNodeLine es i
  names_no_node : {x : NodeLineValue} {w : Name} → Says es i x → named x ≡ Some w → ¬ (IsNode es w) → IsBadNodeLine es i
  -- a second time in its node
  listed_twice : {k w : Name} → Says es i (edge k w) → Lists (earlier es i) k → IsBadNodeLine es i
  others_twice : {c : Class} {w : Name} → Says es i (other c w) → SpeaksOfOthers (earlier es i) → IsBadNodeLine es i
  -- a shape
  unlisted_name : {s : ShapeValue} {k : Name} → Says es i (shape s) → Contains (names_of_shape s) k → ¬ (Lists (around es i) k) → IsBadNodeLine es i
  name_twice : {s : ShapeValue} → Says es i (shape s) → HasDouble (names_of_shape s) → IsBadNodeLine es i
  least_above_most : {s : ShapeValue} {most : ℕ} → Says es i (shape s) → s.count.most ≡ Some most → most < s.count.least → IsBadNodeLine es i
  no_others_to_count : {s : ShapeValue} → Says es i (shape s) → ¬ (IsNoneCounted s.count) → ¬ (SpeaksOfOthers (around es i)) → IsBadNodeLine es i
  -- a node without a shape
  no_shape : {w : Name} → Says es i (node w) → ¬ (HasShape (behind es i)) → IsBadNodeLine es i
  -- limits
  too_many_nodes : {w : Name} → Says es i (node w) → 1000 ≤ nodes_before es i → IsBadNodeLine es i
  too_many_shapes : {s : ShapeValue} → Says es i (shape s) → 256 ≤ count_by is_shape (earlier es i) → IsBadNodeLine es i
