-- An archive and two sides, and what they have at each path.
use Rattle.std.specs.Prelude.{◌++◌, Option, Some, None}
use Rattle.hm_tree.specs.Nodes.{Tree}
use Rattle.hm_tree.specs.Archives.{Archive, recorded}
use Rattle.hm_tree.specs.States.{Path, state}
use Rattle.hm_safety.specs.Views.{Views, Agree}
use Rattle.hm_safety.specs.Safety.{IsSafe}
use Rattle.hm_schema.specs.Values.{SchemaValue}
use Rattle.hm_schema.specs.declared.node.NodeId.{NodeId}
use Rattle.hm_schema.specs.Membership.{IsMember}

-- each of the three may be missing, since what stands below a name is such a trio too
pub record Trio : Type 0 where
  pub archive : Archive
  pub left : Option Tree
  pub right : Option Tree

-- an archive and two replicas
abbrev pub given : Archive → Tree → Tree → Trio
given o a b = record { archive = o; left = Some a; right = Some b }

abbrev pub views : Trio → Views
views t = record { archive = state t.archive; left = state t.left; right = state t.right }

-- what an archive holds of a side that it records
abbrev pub recorded_side : Option Tree → Archive
recorded_side None = None
recorded_side (Some t) = Some (recorded t)

-- the two sides don't agree at a path or below it
abbrev pub Differ : Views → Path → Type 0
Differ v p = (r : Path) × ¬ (Agree (v.left (p ++ r)) (v.right (p ++ r)))

-- both sides are members at a node of a schema
pub record AreMembers (s : SchemaValue) (i : NodeId) (v : Views) : Type 0 where
  pub left : IsMember s i v.left
  pub right : IsMember s i v.right

-- a safe result of reconciling under a schema
pub record IsSafeUnder (s : SchemaValue) (i : NodeId) (before after : Views) : Type 0 where
  pub safe : IsSafe before after
  pub members : AreMembers s i after

-- the same with its two sides exchanged
abbrev pub turned : Trio → Trio
turned t = record { archive = t.archive; left = t.right; right = t.left }
