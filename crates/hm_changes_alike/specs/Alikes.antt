-- Names below one parent that are probably one thing under several, of which one at least comes or goes.
use Rattle.std.specs.Prelude.{◌≡◌, ◌≤◌, ◌⊎◌, ◌↔◌, IsTrue, List, [], ◌∷◌, ◌++◌, length}
use Rattle.std.specs.List.{Contains}
use Rattle.std.specs.List.Sorted.{IsStrictlySortedBy}
use Rattle.std.specs.Ordering.{ordering_then}
use Rattle.std.specs.declared.cmp.Ordering.{Ordering}
use Rattle.std.specs.FinSet.{contains}
use Rattle.hm_tree.specs.Names.{Name, name_cmp}
use Rattle.hm_tree.specs.Sets.{ascending}
use Rattle.hm_tree.specs.States.{Path, View, Has}
use Rattle.hm_tree.specs.PathOrder.{path_cmp}
use Rattle.hm_changes.specs.declared.change.Turn.{Turn}
use Rattle.hm_changes.specs.Changes.{IsTopmost}
use Rattle.hm_alike.specs.Alike.{folded, first_name}
use Rattle.hm_changes_alike.specs.declared.alikes.AlikeNames.{AlikeNames}

-- the old view of a side, and its new one
pub record Renewal : Type 0 where
  pub old : View
  pub new : View

-- the old view of a side has a name below a path that its new view has too
abbrev pub Shows : Renewal → Path → Name → Type 0
Shows v p k = Has v.old (p ++ k ∷ []) × Has v.new p

-- the name comes or goes there, and nothing above it does
abbrev pub Turns : Renewal → Path → Name → Type 0
Turns v p k = (t : Turn) × IsTopmost v.old v.new (record { turn = t; path = p ++ k ∷ [] })

-- one of two sides shows the name
abbrev pub IsShown : Renewal → Renewal → Path → Name → Type 0
IsShown a b p k = Shows a p k ⊎ Shows b p k

-- it comes or goes on one of them
abbrev pub IsTold : Renewal → Renewal → Path → Name → Type 0
IsTold a b p k = Turns a p k ⊎ Turns b p k

-- the names that are shown below a path with one folded name: two at least, of which one comes or goes on a side
pub record AreAlike (a b : Renewal) (s : AlikeNames) : Type 0 where
  pub folded_name : Name
  pub each : (k : Name) → IsTrue (contains s.names k) ↔ (IsShown a b s.parent k × (folded k ≡ folded_name))
  pub two : 2 ≤ length (ascending s.names)
  pub told : (k : Name) × IsTrue (contains s.names k) × IsTold a b s.parent k

-- the order of parents, and below one parent of first names
abbrev pub set_cmp : AlikeNames → AlikeNames → Ordering
set_cmp s t = ordering_then (path_cmp s.parent t.parent) (name_cmp (first_name (ascending s.names)) (first_name (ascending t.names)))

-- all sets of alike names and no other, in the order of their parents, and below one parent of their first names
pub record AreAlikes (a b : Renewal) (sets : List AlikeNames) : Type 0 where
  pub rise : IsStrictlySortedBy set_cmp sets
  pub each : (s : AlikeNames) → Contains sets s ↔ AreAlike a b s
