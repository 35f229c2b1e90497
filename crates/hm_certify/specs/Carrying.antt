-- Whether a name is in a set just where a side is to have it.
use Rattle.std.specs.Prelude.{◌≡◌, ◌↔◌, [], ◌∷◌, IsTrue, List, Some}
use Rattle.std.specs.FinSet.{contains}
use Rattle.std.specs.List.{All}
use Rattle.hm_tree.specs.Names.{Name}
use Rattle.hm_tree.specs.Nodes.{Tree, below}
use Rattle.hm_tree.specs.Archives.{Archive}
use Rattle.hm_tree.specs.States.{state}
use Rattle.hm_schema.specs.Values.{Names}
use Rattle.hm_outcome.specs.Carried.{IsCarried}

abbrev pub IsJudged : Archive → Tree → Tree → Names → Name → Type 0
IsJudged o mine other names k = IsTrue (contains names k) ↔ IsCarried (state o) (state (Some mine)) (state (Some other)) (k ∷ [])

-- the same of each name of a side
abbrev pub EachJudged : Archive → Tree → Tree → Names → Tree → Type 0
EachJudged o mine other names side = (k : Name) (c : Tree) → below k side ≡ Some c → IsJudged o mine other names k

-- the same of each name of a list
abbrev pub AllJudged : Archive → Tree → Tree → Names → List Name → Type 0
AllJudged o mine other names list = All (IsJudged o mine other names) list
