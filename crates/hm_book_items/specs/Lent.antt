-- Lists of items that are lent, each with its key.
use Rattle.std.specs.Prelude.{List, map, Vec}
use Rattle.std.specs.declared.alloc.Global.{Global}
use Rattle.std.specs.Borrow.{Bor}
use Rattle.hm_tree.specs.Names.{Name}
use Rattle.hm_tree.specs.Nodes.{Tree}
use Rattle.hm_tree_parts.specs.Lent.{lent}

abbrev pub LentList : Type 0
LentList = Bor Name × Vec (Bor Tree) Global

abbrev pub lent_list : LentList → Name × List Tree
lent_list l = (l.0.now, lent l.1.items)

abbrev pub lent_lists : List LentList → List (Name × List Tree)
lent_lists ls = map lent_list ls
