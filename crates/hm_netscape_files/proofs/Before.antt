-- Links and folders of a tree, one behind the other, and what stands behind them.
use Rattle.std.proofs.Common.{◌≡◌, List, [], ◌∷◌, ◌++◌, refl, ap}
use Rattle.hm_marks.specs.Contents.{nothing}
use Rattle.hm_marks_trees.specs.Nodes.{Plain, PlainItem, in_front, contents_of}

abbrev pub before : List PlainItem → Plain → Plain
before [] p = p
before (i ∷ is) p = in_front i (before is p)

pub before_nothing : (is : List PlainItem) → before is nothing ≡ contents_of is
before_nothing [] = refl
before_nothing (i ∷ is) = ap (in_front i) (before_nothing is)

pub before_append : (is js : List PlainItem) (p : Plain) → before (is ++ js) p ≡ before is (before js p)
before_append [] js p = refl
before_append (i ∷ is) js p = ap (in_front i) (before_append is js p)
