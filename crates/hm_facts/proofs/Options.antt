-- Facts on options.
use Rattle.std.proofs.Common.{◌≡◌, true, Option, Some, None, is_some, refl, sym}
use Rattle.std.proofs.lemmas.Bool.{true≢false}
use Rattle.std.specs.Option.{option_or}

pub is_there : {A : Type 0} (x : Option A) → is_some x ≡ true → (a : A) × (x ≡ Some a)
is_there None h = absurd (true≢false (sym h))
is_there (Some a) h = (a, refl)

pub or_none : {A : Type 0} (x : Option A) → x ≡ option_or x None
or_none None = refl
or_none (Some a) = refl
