-- The words of yes and no.
use Rattle.std.specs.Prelude.{List, [], ◌∷◌, codes}
use Rattle.hm_tree.specs.Names.{Name}

abbrev pub yes_and_no : List (Name × Name)
yes_and_no = (codes "Y", codes "yes") ∷ (codes "N", codes "no") ∷ []
