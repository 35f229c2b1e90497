-- Keys that are lent, each with a number.
use Rattle.std.specs.Prelude.{ℕ, List, map}
use Rattle.std.specs.Borrow.{Bor}
use Rattle.hm_tree.specs.Names.{Name}

abbrev pub lent_counts : List (Bor Name × ℕ) → List (Name × ℕ)
lent_counts es = map (λ (e : Bor Name × ℕ). (e.0.now, e.1)) es
