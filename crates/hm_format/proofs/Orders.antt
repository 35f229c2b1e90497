-- Texts are in the order of names.
use Rattle.std.proofs.Common.{◌≡◌, ℕ, List, refl}
use Rattle.std.specs.Ordering.{nat_cmp}
use Rattle.std.specs.Cmp.Lexicographic.{slice_cmp}
use Rattle.hm_tree.specs.Names.{name_cmp}

pub text_order : (a b : List ℕ) → slice_cmp nat_cmp a b ≡ name_cmp a b
unfolding name_cmp
text_order a b = refl
