-- Which paths come and go from one view to another.
use Rattle.std.specs.Prelude.{◌≡◌, ◌≢◌, ◌↔◌, List, [], ◌++◌, map, Option}
use Rattle.std.specs.List.{Contains}
use Rattle.std.specs.List.Sorted.{IsStrictlySortedBy}
use Rattle.hm_tree.specs.Nodes.{Tree}
use Rattle.hm_tree.specs.States.{Path, View, Has, Lacks, state}
use Rattle.hm_tree.specs.PathOrder.{path_cmp}
use Rattle.hm_changes.specs.declared.change.Change.{Change}
use Rattle.hm_changes.specs.declared.change.Turn.{Turn}
use Rattle.hm_changes.specs.declared.change.Turn.TheVariants.{Added, Deleted}

-- a path that the new view has and the old one lacks, or the other way round
abbrev pub IsTurned : Turn → View → View → Path → Type 0
IsTurned Added old new p = Lacks old p × Has new p
IsTurned Deleted old new p = Has old p × Lacks new p

-- such a path with none above it: at each of those both views have the same
pub record IsTopmost (old new : View) (c : Change) : Type 0 where
  pub turned : IsTurned c.turn old new c.path
  pub topmost : (q r : Path) → c.path ≡ q ++ r → r ≢ [] → new q ≡ old q

-- all topmost paths that come or go and no other, in the order of paths
pub record AreChanges (old new : View) (changes : List Change) : Type 0 where
  pub ascending : IsStrictlySortedBy path_cmp (map (λ c. c.path) changes)
  pub each : (c : Change) → Contains changes c ↔ IsTopmost old new c

-- ---- what stands at a path, from the root on

abbrev pub from : Path → Change → Change
from here c = record { turn = c.turn; path = here ++ c.path }

-- the changes of what stands at a path are put behind others
pub record AddsChanges (old new : Option Tree) (here : Path) (before after : List Change) : Type 0 where
  pub changes : List Change
  pub added : after ≡ before ++ map (from here) changes
  pub are : AreChanges (state old) (state new) changes
