-- The set of one name.
use Rattle.std.specs.Prelude.{Bool, [], ◌∷◌}
use Rattle.std.specs.FinSet.{from_list}
use Rattle.std.specs.Ordering.{eq_by_cmp}
use Rattle.hm_tree.specs.Names.{Name, name_cmp}
use Rattle.hm_schema.specs.Values.{Names}

abbrev pub alone : Name → Names
alone m = from_list (m ∷ [])

abbrev pub is : Name → Name → Bool
is m k = eq_by_cmp name_cmp k m
