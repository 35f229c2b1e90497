-- What both views of a side have at a path.
use Rattle.std.specs.Prelude.{Bool, true, false, [], Option, Some, None}
use Rattle.hm_tree.specs.Names.{Name}
use Rattle.hm_tree.specs.Nodes.{Tree, edges, below}
use Rattle.hm_changes.specs.Taken.{Edges}
use Rattle.hm_changes_alike.specs.declared.views.Views.{Views}

-- what stands at a path in the old view and in the new one, where something does in both
abbrev pub Staying : Type 0
Staying = Option (Tree × Tree)

abbrev pub both_at : Option Tree → Option Tree → Staying
both_at None new = None
both_at (Some old) None = None
both_at (Some old) (Some new) = Some (old, new)

-- the views as they are seen
abbrev pub seen : Option Views → Staying
seen None = None
seen (Some v) = Some (v.old.now, v.new.now)

-- the edges of the old one
abbrev pub edges_shown : Staying → Edges
edges_shown None = []
edges_shown (Some t) = edges t.0

-- one of two has something, and the other nothing
abbrev pub is_turned : Option Tree → Option Tree → Bool
is_turned None None = false
is_turned None (Some new) = true
is_turned (Some old) None = true
is_turned (Some old) (Some new) = false

-- whether a name comes or goes below
abbrev pub turns_at : Staying → Name → Bool
turns_at None k = false
turns_at (Some t) k = is_turned (below k t.0) (below k t.1)
