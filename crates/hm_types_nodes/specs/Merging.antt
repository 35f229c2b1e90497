-- The view of a conditional whose two views are told apart by a name: the shapes of both, merged on that name.
use Rattle.std.specs.Prelude.{◌≡◌, ◌&&◌, ◌⊎◌, ◌==◌, ◌≤◌, ℕ, Bool, true, false, cond, not, IsTrue, T, List, [], ◌∷◌, ◌++◌, map, filter, length, Option, Some, None, All}
use Rattle.std.specs.Option.{option_or}
use Rattle.std.specs.List.{list_any}
use Rattle.std.specs.Ordering.{eq_by_cmp}
use Rattle.std.specs.FinMap.{find, is_sorted}
use Rattle.std.specs.FinSet.{insert, remove}
use Rattle.hm_tree.specs.declared.class.Class.{Class}
use Rattle.hm_tree.specs.Names.{Name, name_cmp}
use Rattle.hm_tree.specs.Sets.{ascending}
use Rattle.hm_schema.specs.declared.node.Shape.{Shape}
use Rattle.hm_schema.specs.Values.{Names, NodeOver, is_listed}
use Rattle.hm_schema.specs.Tidied.{has_name}
use Rattle.hm_schema.specs.Shapes.{IsShut, Requires}

-- ---- whether two shapes are equal

abbrev pub same_names : List Name → List Name → Bool
same_names [] [] = true
same_names [] (m ∷ ms) = false
same_names (k ∷ ks) [] = false
same_names (k ∷ ks) (m ∷ ms) = eq_by_cmp name_cmp k m && same_names ks ms

abbrev pub same_set : Names → Names → Bool
same_set a b = same_names (ascending a) (ascending b)

abbrev pub same_bound : Option ℕ → Option ℕ → Bool
same_bound None None = true
same_bound None (Some n) = false
same_bound (Some m) None = false
same_bound (Some m) (Some n) = m == n

abbrev pub same_shape : Shape → Shape → Bool
same_shape a b = same_set a.required b.required && (same_set a.optional b.optional && ((a.least == b.least) && same_bound a.most b.most))

-- ---- merging

-- a shape that doesn't require a name, and one that may have it
abbrev pub unrequired : Name → Shape → Shape
unrequired m a = record { required = remove a.required m; optional = a.optional; least = a.least; most = a.most }

abbrev pub loosened : Name → Shape → Shape
loosened m a = record { required = remove a.required m; optional = insert a.optional m; least = a.least; most = a.most }

-- two shapes differ in that the first requires a name, and in nothing else
abbrev pub differs_in : Name → Shape → Shape → Bool
differs_in m a b = same_shape (unrequired m a) b

-- the first shapes, each with the name made optional where it differs so from one of the second; and of the second those
-- from which none of the first differs so
abbrev pub merged_first : Name → List Shape → List Shape → List Shape
merged_first m xs ys = map (λ a. cond (list_any (differs_in m a) ys) (loosened m a) a) xs

abbrev pub merged_rest : Name → List Shape → List Shape → List Shape
merged_rest m xs ys = filter (λ b. not (list_any (λ a. differs_in m a b) xs)) ys

abbrev pub merged_shapes : Name → List Shape → List Shape → List Shape
merged_shapes m xs ys = merged_first m xs ys ++ merged_rest m xs ys

-- ---- the two views

-- what the two nodes list agrees: what a name that both list leads to, what all other names lead to where both have such,
-- and, where either lets an unlisted name in, which names are listed
pub record AgreeBelow {I : Type 0} (R : I → I → Type 0) (one two : NodeOver I) : Type 0 where
  pub children : (k : Name) (x y : I) → find name_cmp k one.children ≡ Some x → find name_cmp k two.children ≡ Some y → R x y
  pub others : (x y : Class × I) → one.other ≡ Some x → two.other ≡ Some y → (x.0 ≡ y.0) × R x.1 y.1
  pub listed : (All IsShut one.shapes × All IsShut two.shapes) ⊎ ((k : Name) → is_listed one k ≡ is_listed two k)

-- two views are told apart by a name: each shape of the first requires it, none of the second has it, and where an unlisted
-- name is let in there, it is listed
pub record CanMerge {I : Type 0} (R : I → I → Type 0) (m : Name) (one two : NodeOver I) : Type 0 where
  pub required : All (Requires m) one.shapes
  pub absent : All (λ b. has_name b m ≡ false) two.shapes
  pub lists : All (λ b. IsShut b ⊎ IsTrue (is_listed two m)) two.shapes
  pub agree : AgreeBelow R one two
  pub plain_one : one.twins ≡ []
  pub plain_two : two.twins ≡ []
  pub few : length (merged_shapes m one.shapes two.shapes) ≤ 256

pub record IsMerged {I : Type 0} (m : Name) (one two n : NodeOver I) : Type 0 where
  pub shapes : n.shapes ≡ merged_shapes m one.shapes two.shapes
  pub ascending : T (is_sorted name_cmp n.children)
  pub children : (k : Name) → find name_cmp k n.children ≡ option_or (find name_cmp k one.children) (find name_cmp k two.children)
  pub other : n.other ≡ option_or one.other two.other
  pub plain : n.twins ≡ []
