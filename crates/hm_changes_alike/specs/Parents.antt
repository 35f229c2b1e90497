-- The parents of paths that come and go.
use Rattle.std.specs.Prelude.{◌↔◌, ◌-◌, List, map, length, take}
use Rattle.std.specs.Borrow.{Bor}
use Rattle.std.specs.List.{Contains}
use Rattle.std.specs.List.Sorted.{IsStrictlySortedBy}
use Rattle.hm_tree.specs.States.{Path}
use Rattle.hm_tree.specs.PathOrder.{path_cmp}
use Rattle.hm_changes.specs.declared.change.Change.{Change}

-- a path without its last name; the root is its own parent here
abbrev pub parent : Path → Path
parent p = take (length p - 1) p

abbrev pub parents_in : List Change → List Path
parents_in changes = map (λ c. parent c.path) changes

-- paths that are lent
abbrev pub lent_paths : List (Bor Path) → List Path
lent_paths paths = map (λ p. p.now) paths

-- the same paths in their order and each once
pub record AreOnceEach (paths sorted : List Path) : Type 0 where
  pub rise : IsStrictlySortedBy path_cmp sorted
  pub each : (p : Path) → Contains sorted p ↔ Contains paths p
