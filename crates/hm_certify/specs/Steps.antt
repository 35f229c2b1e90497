-- What stands below a name, or at a path, in an archive and two sides.
use Rattle.std.specs.Prelude.{[], ◌∷◌}
use Rattle.hm_tree.specs.Names.{Name}
use Rattle.hm_tree.specs.States.{Path, at_path}
use Rattle.hm_outcome.specs.Trios.{Trio}

-- a mark stands at each path below a mark
abbrev pub along : Path → Trio → Trio
along p t = record { archive = at_path t.archive p; left = at_path t.left p; right = at_path t.right p }

abbrev pub step : Name → Trio → Trio
step k t = along (k ∷ []) t
