-- What an archive, a tree or a missing side has at a path (JCSS 2007, section 2).
use Rattle.std.specs.Prelude.{◌≡◌, ◌≢◌, Bool, cond, List, [], ◌∷◌, ◌++◌, Option, Some, None}
use Rattle.hm_tree.specs.declared.archive.State.{State}
use Rattle.hm_tree.specs.declared.archive.State.TheVariants.{Missing, Present, Marked}
use Rattle.hm_tree.specs.Names.{Name}
use Rattle.hm_tree.specs.Nodes.{Node, Tree, below, is_marked}
use Rattle.hm_tree.specs.Archives.{Archive}

-- names from the root down
abbrev pub Path : Type 0
Path = List Name

-- what an archive, a tree or a missing side has at each path
abbrev pub View : Type 0
View = Path → State

abbrev pub Has : View → Path → Type 0
Has a p = a p ≡ Present

abbrev pub Lacks : View → Path → Type 0
Lacks a p = a p ≡ Missing

-- what a view has from a path on
abbrev pub down : Path → View → View
down q a = λ p. a (q ++ p)

-- every path below a mark is marked
abbrev pub state : {m : Bool} → Option (Node m) → Path → State
state None p = Missing
state (Some t) [] = cond (is_marked t) Marked Present
state (Some t) (k ∷ p) = cond (is_marked t) Marked (state (below k t) p)

-- what stands at a path, if anything does; a mark stands at each path below it
abbrev pub at_path : {m : Bool} → Option (Node m) → Path → Option (Node m)
at_path t [] = t
at_path None (k ∷ p) = None
at_path (Some t) (k ∷ p) = cond (is_marked t) (Some t) (at_path (below k t) p)

-- wherever a side is present, the archive is present; a missing side is present nowhere
abbrev pub IsWithin : Option Tree → Archive → Type 0
IsWithin t o = (p : Path) → state t p ≡ Present → state o p ≡ Present

-- no mark stands above a path
abbrev pub HasNoMarkAbove : {m : Bool} → Option (Node m) → Path → Type 0
HasNoMarkAbove t p = (q r : Path) → p ≡ q ++ r → r ≢ [] → state t q ≢ Marked
