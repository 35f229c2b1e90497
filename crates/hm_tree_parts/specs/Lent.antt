-- Trees that are lent.
use Rattle.std.specs.Prelude.{List, map}
use Rattle.std.specs.Borrow.{Bor}
use Rattle.hm_tree.specs.Nodes.{Tree}

abbrev pub lent : List (Bor Tree) → List Tree
lent ts = map (λ t. t.now) ts
