-- The lenses that stand for others.
use Rattle.std.specs.Prelude.{[], ◌∷◌}
use Rattle.std.specs.FinSet.{from_list}
use Rattle.hm_tree.specs.Names.{Name}
use Rattle.hm_tree.specs.Nodes.{Tree, node, empty}
use Rattle.hm_schema.specs.Values.{Names}
use Rattle.hm_terms.specs.Lenses.{Lens, identity, sequence, constant, hoist, plunge, fork}

-- the set without names, the set of one name, and the tree with one edge
abbrev pub no_names_set : Names
no_names_set = from_list []

abbrev pub only : Name → Names
only n = from_list (n ∷ [])

abbrev pub under_name : Name → Tree → Tree
under_name n t = node ((n, t) ∷ [])

-- shows the names of a set alone; without a tree from before, d is put beside them
abbrev pub filter_lens : Names → Tree → Lens
filter_lens P d = fork P P identity (constant empty d)

-- shows all but the child n; without a tree from before, d is put there
abbrev pub prune_lens : Name → Tree → Lens
prune_lens n d = fork (only n) no_names_set (constant empty (under_name n d)) identity

-- shows the child n alone
abbrev pub focus_lens : Name → Tree → Lens
focus_lens n d = sequence (filter_lens (only n) d) (hoist n)

-- shows t as a further child n
abbrev pub add_lens : Name → Tree → Lens
add_lens n t = fork no_names_set (only n) (sequence (constant t empty) (plunge n)) identity

-- shows the child m under the name n
abbrev pub rename_lens : Name → Name → Lens
rename_lens m n = fork (only m) (only n) (sequence (hoist m) (plunge n)) identity
