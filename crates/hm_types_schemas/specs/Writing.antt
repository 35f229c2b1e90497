-- A node of a table as it is written into a schema.
use Rattle.std.specs.Prelude.{◌≡◌, []}
use Rattle.hm_schema.specs.declared.node.NodeId.{NodeId}
use Rattle.hm_schema.specs.Values.{NodeValue}
use Rattle.hm_schema.specs.Tidied.{tidied}
use Rattle.hm_types_forms.specs.Forms.{over}
use Rattle.hm_types_rules.specs.Numbering.{IsDistinct}

-- tidied, without repeated shapes, and over the numbers of what its edges lead to
pub record IsWritten (number : NodeId → NodeId) (n v : NodeValue) : Type 0 where
  pub shapes : IsDistinct [] n.shapes v.shapes
  pub children : v.children ≡ (over (λ s j. number j) (tidied n)).children
  pub other : v.other ≡ (over (λ s j. number j) (tidied n)).other
  pub twins : v.twins ≡ n.twins
