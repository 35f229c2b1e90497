-- A tree from before, where it has a name, and where it hasn't.
use Rattle.std.specs.Prelude.{is_some, cond, Option, Some, None}
use Rattle.hm_tree.specs.Names.{Name}
use Rattle.hm_tree.specs.Nodes.{Tree, below}

abbrev pub with_name : Name → Option Tree → Option Tree
with_name n None = None
with_name n (Some b) = cond (is_some (below n b)) (Some b) None

abbrev pub without_name : Name → Option Tree → Option Tree
without_name n None = None
without_name n (Some b) = cond (is_some (below n b)) None (Some b)
