-- The forms that a checker meets: those of well formed nodes, in which the names of a twin are required wherever it stands.
use Rattle.std.specs.Prelude.{◌≡◌, ◌<◌, T, All, Some, length}
use Rattle.std.specs.FinMap.{is_sorted}
use Rattle.hm_tree.specs.Names.{name_cmp}
use Rattle.hm_schema.specs.Values.{NodeOver}
use Rattle.hm_schema.specs.WellFormed.{IsWellFormedShape}
use Rattle.hm_schema.specs.Shapes.{RequiresTwins}
use Rattle.hm_types_forms.specs.Forms.{Form, Label, Way}

-- listed names rise, a node has a shape, its shapes are well formed, and each requires both names of each twin
pub record IsSoundNode {I : Type 0} (n : NodeOver I) : Type 0 where
  pub ascending : T (is_sorted name_cmp n.children)
  pub some : 0 < length n.shapes
  pub well : All (IsWellFormedShape n) n.shapes
  pub own : RequiresTwins n

-- so is each node that is found on a way down
pub record IsSound (u : Form) : Type 0 where
  pub on_each : (w : Way) (l : Label) → u w ≡ Some l → IsSoundNode l
