-- What is in the set of one name.
use Rattle.std.proofs.Common.{◌≡◌, Bool, true, false, ◌||◌, [], ◌∷◌, refl, ◌∙◌}
use Rattle.std.specs.FinSet.{contains, contains-from_list}
use Rattle.hm_tree.specs.Names.{Name}
use Rattle.hm_tree.proofs.Sorted.{name_total}
use Rattle.hm_schema.specs.OneName.{alone, is}

pub in_alone : (m k : Name) → contains (alone m) k ≡ is m k
in_alone m k = contains-from_list name_total (m ∷ []) k ∙ go (is m k)
  where
    go : (b : Bool) → (b || false) ≡ b
    go true = refl
    go false = refl
