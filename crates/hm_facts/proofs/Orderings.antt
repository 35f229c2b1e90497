-- Facts on orderings.
use Rattle.std.proofs.Common.{◌≡◌, true, refl}
use Rattle.std.specs.declared.cmp.Ordering.{Ordering}
use Rattle.std.specs.declared.cmp.Ordering.TheVariants.{Less, Equal, Greater}
use Rattle.std.specs.Ordering.{is_eq}

pub equal : (o : Ordering) → is_eq o ≡ true → o ≡ Equal
equal Less e = let no : ⊥ = cc in absurd no
equal Equal e = refl
equal Greater e = let no : ⊥ = cc in absurd no
