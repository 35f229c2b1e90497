-- What the two lenses of a fork and of a conditional are checked at, and the view of a fork and of a conditional that its view
-- tells apart.
use Rattle.std.specs.Prelude.{◌≡◌}
use Rattle.std.specs.FinSet.{contains}
use Rattle.hm_tree.specs.Names.{Name}
use Rattle.hm_schema.specs.declared.node.Shape.{Shape}
use Rattle.hm_schema.specs.Values.{Names, NodeOver}
use Rattle.hm_types_nodes.specs.Branching.{node_with, node_without}
use Rattle.hm_types_nodes.specs.Joining.{IsJoined}
use Rattle.hm_types_nodes.specs.Merging.{IsMerged}
use Rattle.hm_types_forms.specs.Forms.{Form, formed}
use Rattle.hm_types_rules.specs.Typing.{IsForked, inside_form, outside_form, IsBranched, AreJoinable, AreMergeable}

pub record ForkSource (P : Names) (u p q : Form) : Type 0 where
  pub node : NodeOver Form
  pub shape : Shape
  pub forked : IsForked P u node shape
  pub first : p ≡ inside_form P node shape
  pub second : q ≡ outside_form P node shape

pub record BranchSource (m : Name) (u p q : Form) : Type 0 where
  pub node : NodeOver Form
  pub branched : IsBranched m u node
  pub first : p ≡ formed (node_with m node)
  pub second : q ≡ formed (node_without m node)

-- the view of a fork, of the views of its two lenses
pub record ForkView (Q : Names) (x y v : Form) : Type 0 where
  pub one : NodeOver Form
  pub two : NodeOver Form
  pub joinable : AreJoinable Q x y one two
  pub node : NodeOver Form
  pub joined : IsJoined (contains Q) one two node
  pub is : v ≡ formed node

-- the view of a conditional that is told apart by a name, of the views of its two lenses
pub record MergeView (o : Name) (x y v : Form) : Type 0 where
  pub one : NodeOver Form
  pub two : NodeOver Form
  pub mergeable : AreMergeable o x y one two
  pub node : NodeOver Form
  pub merged : IsMerged o one two node
  pub is : v ≡ formed node
