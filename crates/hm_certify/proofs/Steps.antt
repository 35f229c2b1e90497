-- One step down from what stands at a path.
use Rattle.std.proofs.Common.{◌≡◌, [], ◌∷◌, Option, Some, None, Bor, MatchOption, IsTrue, is_some, option_copied, refl, sym, ◌∙◌}
use Rattle.hm_tree.specs.Names.{Name}
use Rattle.hm_tree.specs.Nodes.{Tree, below}
use Rattle.hm_tree.specs.NodeLaws.{tree_unmarked}
use Rattle.hm_tree.specs.Archives.{Archive}
use Rattle.hm_tree.specs.States.{at_path}
use Rattle.hm_certify.specs.Standing.{archive_or_none}

pub tree_step : (t : Tree) (k : Name) → at_path (Some t) (k ∷ []) ≡ below k t
tree_step t k = rw (tree_unmarked t) refl

pub tree_child : (t : Tree) (k : Name) (c : Option Tree) → c ≡ below k t → c ≡ at_path (Some t) (k ∷ [])
tree_child t k c e = e ∙ sym (tree_step t k)

-- what Archive::child found
pub child_found : (r : Option (Bor Archive)) (x : Archive) → MatchOption r (x ≡ None) (λ c. (c.now ≡ x) × IsTrue (is_some c.now))
    → archive_or_none (option_copied r) ≡ x
child_found None x e = sym e
child_found (Some c) x e = e.0
