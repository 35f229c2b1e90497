-- Two lists of edges in one order.
use Rattle.std.specs.Prelude.{◌≡◌, ◌⊎◌, Bool, true, false, T, List, [], ◌∷◌, ◌++◌, None}
use Rattle.std.specs.Option.{option_or}
use Rattle.std.specs.Ordering.{is_lt}
use Rattle.std.specs.FinMap.{find}
use Rattle.hm_tree.specs.Names.{Name, name_cmp}
use Rattle.hm_tree.specs.Nodes.{Tree, below_all, are_edges}

abbrev pub Edges : Type 0
Edges = List (Name × Tree)

-- no name is that of an edge of both
abbrev pub HaveNoCommon : Edges → Edges → Type 0
HaveNoCommon ones twos = (k : Name) → (find name_cmp k ones ≡ None) ⊎ (find name_cmp k twos ≡ None)

-- whether the least name of two lists stands in front of the first one
abbrev pub leads : Edges → Edges → Bool
leads [] twos = false
leads (e ∷ ones) [] = true
leads (e ∷ ones) (d ∷ twos) = is_lt (name_cmp e.0 d.0)

pub record AreOver (ones twos : Edges) : Type 0 where
  pub first : ones ≡ []
  pub second : twos ≡ []

-- the edge with the least name was taken out of two lists, and the edges that are left
pub data IsLeast (ones twos left_ones left_twos : Edges) (e : Name × Tree) : Type 0 where
  of_first : ones ≡ e ∷ left_ones → left_twos ≡ twos → T (below_all e.0 twos) → IsLeast ones twos left_ones left_twos e
  of_second : twos ≡ e ∷ left_twos → left_ones ≡ ones → T (below_all e.0 ones) → IsLeast ones twos left_ones left_twos e

-- edges are those of two lists
pub record AreMerged (ones twos edges : Edges) : Type 0 where
  pub sound : T (are_edges edges)
  pub all : (k : Name) → find name_cmp k edges ≡ option_or (find name_cmp k ones) (find name_cmp k twos)

-- what was merged so far, and the edges that are left of two lists
pub record AreMerging (ones twos edges left_ones left_twos : Edges) : Type 0 where
  pub before_ones : T (are_edges (edges ++ left_ones))
  pub before_twos : T (are_edges (edges ++ left_twos))
  pub apart : HaveNoCommon left_ones left_twos
  pub all : (k : Name) → option_or (find name_cmp k edges) (option_or (find name_cmp k left_ones) (find name_cmp k left_twos))
      ≡ option_or (find name_cmp k ones) (find name_cmp k twos)
