-- The view of a fork, of the views of its two lenses.
use Rattle.std.specs.Prelude.{◌≡◌, ◌+◌, ◌*◌, ◌≤◌, ℕ, Bool, cond, not, List, [], ◌∷◌, ◌++◌, map, length, T, Option, Some, None, All}
use Rattle.std.specs.Option.{option_or}
use Rattle.std.specs.FinMap.{find, is_sorted}
use Rattle.std.specs.FinSet.{union}
use Rattle.hm_tree.specs.Names.{Name, name_cmp}
use Rattle.hm_schema.specs.declared.node.Shape.{Shape}
use Rattle.hm_schema.specs.Values.{NodeOver}
use Rattle.hm_schema.specs.Shapes.{IsShut, HasOnly}
use Rattle.hm_types_nodes.specs.Parting.{Parts}

-- two bounds added together
abbrev pub added : Option ℕ → Option ℕ → Option ℕ
added None y = None
added (Some x) None = None
added (Some x) (Some y) = Some (x + y)

-- the required names, the optional names and the counts of two shapes added together
abbrev pub joined_shape : Shape → Shape → Shape
joined_shape a b = record {
  required = union a.required b.required;
  optional = union a.optional b.optional;
  least = a.least + b.least;
  most = added a.most b.most;
}

-- a shape for each pair, in the order of the first shapes and for each of these in the order of the second
abbrev pub joined_shapes : List Shape → List Shape → List Shape
joined_shapes [] bs = []
joined_shapes (a ∷ ones) bs = map (joined_shape a) bs ++ joined_shapes ones bs

-- the first view lets no unlisted name in and has only names that pass; the second has only others, and where it lets an
-- unlisted name in, it lists all that pass
pub record CanJoin {I : Type 0} (q : Name → Bool) (one two : NodeOver I) : Type 0 where
  pub shut : All IsShut one.shapes
  pub inside : All (HasOnly q) one.shapes
  pub outside : All (HasOnly (λ k. not (q k))) two.shapes
  pub parts : All (λ b. Parts two b q) two.shapes
  pub few : length one.shapes * length two.shapes ≤ 256

-- names that pass and that the first view lists have its children, all other listed names those of the second
pub record IsJoined {I : Type 0} (q : Name → Bool) (one two n : NodeOver I) : Type 0 where
  pub shapes : n.shapes ≡ joined_shapes one.shapes two.shapes
  pub ascending : T (is_sorted name_cmp n.children)
  pub children : (k : Name) → find name_cmp k n.children ≡ option_or (cond (q k) (find name_cmp k one.children) None) (find name_cmp k two.children)
  pub other : n.other ≡ two.other
  pub twins : n.twins ≡ one.twins ++ two.twins
