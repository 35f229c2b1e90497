-- Taking the least name off two lists of edges.
use Rattle.std.specs.Prelude.{◌≡◌, ◌≢◌, ◌⊎◌, T, List, [], ◌∷◌, Option, Some, None}
use Rattle.hm_tree.specs.Names.{Name}
use Rattle.hm_tree.specs.Nodes.{Tree, below_all}

abbrev pub Edges : Type 0
Edges = List (Name × Tree)

-- an edge more in front, if anything stands under the name
abbrev pub in_front : Name → Option Tree → Edges → Edges
in_front k None es = es
in_front k (Some t) es = (k, t) ∷ es

-- the least name of two lists, what stands under it in each, and the edges that are left, whose names are greater
pub record IsTaken (olds news : Edges) (k : Name) (old new : Option Tree) (olds_left news_left : Edges) : Type 0 where
  pub are_olds : olds ≡ in_front k old olds_left
  pub are_news : news ≡ in_front k new news_left
  pub before_olds : T (below_all k olds_left)
  pub before_news : T (below_all k news_left)
  pub there : (old ≢ None) ⊎ (new ≢ None)

-- no edge is left
pub record AreOver (olds news : Edges) : Type 0 where
  pub no_olds : olds ≡ []
  pub no_news : news ≡ []
