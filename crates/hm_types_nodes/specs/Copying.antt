-- The views of a lens that copies a child under another name, and of one that hides such a copy.
use Rattle.std.specs.Prelude.{◌≡◌, ◌≢◌, ◌⊎◌, false, cond, IsTrue, T, [], ◌∷◌, map, Some, All}
use Rattle.std.specs.Ordering.{eq_by_cmp}
use Rattle.std.specs.FinMap.{find, is_sorted}
use Rattle.std.specs.FinSet.{insert}
use Rattle.hm_tree.specs.Names.{Name, name_cmp}
use Rattle.hm_schema.specs.declared.node.Shape.{Shape}
use Rattle.hm_schema.specs.Values.{NodeOver, is_listed}
use Rattle.hm_schema.specs.Tidied.{has_name}
use Rattle.hm_schema.specs.Shapes.{IsShut, Requires, shaped}
use Rattle.hm_types_nodes.specs.Merging.{unrequired}

-- ---- copying m under n

abbrev pub with_required : Name → Shape → Shape
with_required n a = record { required = insert a.required n; optional = a.optional; least = a.least; most = a.most }

-- m is required in every shape; n is in none, and is listed where an unlisted name is let in
pub record CanCopy {I : Type 0} (m n : Name) (w : NodeOver I) : Type 0 where
  pub required : All (Requires m) w.shapes
  pub absent : All (λ a. has_name a n ≡ false) w.shapes
  pub lists : All (λ a. IsShut a ⊎ IsTrue (is_listed w n)) w.shapes
  pub plain : w.twins ≡ []

pub record IsCopied {I : Type 0} (m n : Name) (w v : NodeOver I) : Type 0 where
  pub shapes : v.shapes ≡ map (with_required n) w.shapes
  pub ascending : T (is_sorted name_cmp v.children)
  pub children : (k : Name) → find name_cmp k v.children ≡ cond (eq_by_cmp name_cmp k n) (find name_cmp m w.children) (find name_cmp k w.children)
  pub other : v.other ≡ w.other
  pub twins : v.twins ≡ (m, n) ∷ []

-- ---- hiding n, which is as m is

-- the two are different names, required in every shape, and lead to the same; there is no other twin
pub record CanHide {I : Type 0} (R : I → I → Type 0) (m n : Name) (w : NodeOver I) : Type 0 where
  pub apart : m ≢ n
  pub first : All (Requires m) w.shapes
  pub second : All (Requires n) w.shapes
  pub alike : (x y : I) → find name_cmp m w.children ≡ Some x → find name_cmp n w.children ≡ Some y → R x y
  pub twins : All (λ twin. twin ≡ (m, n)) w.twins

abbrev pub hidden_node : {I : Type 0} → Name → NodeOver I → NodeOver I
hidden_node n w = shaped w (map (unrequired n) w.shapes) []
