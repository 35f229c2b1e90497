-- How edges are kept, and where a name stands among them.
use Rattle.std.specs.Prelude.{◌≡◌, ℕ, suc, ◌<◌, ◌≤◌, Bool, T, cond, List, [], ◌∷◌, length, Some, None}
use Rattle.std.specs.Ordering.{is_lt}
use Rattle.std.specs.FinMap.{find}
use Rattle.std.specs.List.{HoldsAt}
use Rattle.hm_tree.specs.Names.{Name, name_cmp}
use Rattle.hm_tree.specs.Nodes.{Node, are_edges, deepest}

-- how many names stand before k
abbrev pub rank : {X : Type 0} → Name → List (Name × X) → ℕ
rank k [] = 0
rank k (e ∷ es) = cond (is_lt (name_cmp e.0 k)) (suc (rank k es)) 0

-- a name stands at place i
pub record IsPlaceOf {X : Type 0} (k : Name) (es : List (Name × X)) (i : ℕ) : Type 0 where
  pub place : i ≡ rank k es
  pub in_range : i < length es
  pub found : HoldsAt (λ e. find name_cmp k es ≡ Some e.1) es i

-- a name that is missing would go to place i
pub record IsGapFor {X : Type 0} (k : Name) (es : List (Name × X)) (i : ℕ) : Type 0 where
  pub place : i ≡ rank k es
  pub in_range : i ≤ length es
  pub absent : find name_cmp k es ≡ None

-- names rise and are UTF-8, and the depth is the one kept
pub record IsKeptTree {m : Bool} (es : List (Name × Node m)) (d : ℕ) : Type 0 where
  pub edges : T (are_edges es)
  pub deep : d ≡ deepest es
