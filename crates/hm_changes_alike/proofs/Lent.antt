-- Names that are lent.
use Rattle.std.proofs.Common.{◌≡◌, Bool, ◌||◌, List, [], ◌∷◌, Bor, refl, ap}
use Rattle.std.specs.List.{list_any}
use Rattle.hm_tree.specs.Names.{Name}
use Rattle.hm_alike.specs.Groups.{lent}

pub any_lent : (p : Name → Bool) (names : List (Bor Name)) → list_any (λ n. p n.now) names ≡ list_any p (lent names)
any_lent p [] = refl
any_lent p (n ∷ names) = ap (λ b. p n.now || b) (any_lent p names)
