-- The order of paths: a path stands before its extensions, and siblings in the order of their names.
use Rattle.std.specs.Prelude.{◌≢◌}
use Rattle.std.specs.Cmp.Lexicographic.{slice_cmp}
use Rattle.std.specs.declared.cmp.Ordering.{Ordering}
use Rattle.std.specs.declared.cmp.Ordering.TheVariants.{Less}
use Rattle.hm_tree.specs.Names.{name_cmp}
use Rattle.hm_tree.specs.States.{Path}

abbrev pub path_cmp : Path → Path → Ordering
path_cmp = slice_cmp name_cmp

-- the first path with a property
pub record IsFirst (P : Path → Type 0) (p : Path) : Type 0 where
  pub here : P p
  pub none_before : (q : Path) → P q → path_cmp q p ≢ Less
