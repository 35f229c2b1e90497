-- The order of names is total, and names that tie are equal.
use Rattle.std.specs.Prelude.{◌≡◌}
use Rattle.std.specs.Cmp.{IsTotalOrder}
use Rattle.std.specs.FinMap.{slice_cmp-IsAntisymmetric, nat_cmp-IsAntisymmetric}
use Rattle.std.specs.declared.cmp.Ordering.TheVariants.{Equal}
use Rattle.std.proofs.lemmas.Cmp.{nat_list_cmp_total}
use Rattle.hm_tree.specs.Names.{Name, name_cmp}

pub name_total : IsTotalOrder name_cmp
unfolding name_cmp
name_total = nat_list_cmp_total

pub name_one : (a b : Name) → name_cmp a b ≡ Equal → a ≡ b
unfolding name_cmp
name_one = slice_cmp-IsAntisymmetric nat_cmp-IsAntisymmetric
