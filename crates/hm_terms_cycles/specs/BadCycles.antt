-- The first definition of a program that is in a bad cycle.
use Rattle.std.specs.Prelude.{◌≡◌, ℕ, ◌<◌, map, slice_get, Some}
use Rattle.hm_tree.specs.Names.{Name}
use Rattle.hm_terms.specs.Programs.{ProgramValue}
use Rattle.hm_terms.specs.Calls.{IsInBadCycle}

-- no definition is in a bad cycle
abbrev pub HasNoBadCycle : ProgramValue → Type 0
HasNoBadCycle p = (n : Name) → ¬ (IsInBadCycle p.definitions n)

-- the definition at a place is in a bad cycle, and none before it is
pub record IsFirstInBadCycle (p : ProgramValue) (i : ℕ) : Type 0 where
  pub name : Name
  pub there : slice_get (map (λ d. d.0) p.definitions) i ≡ Some name
  pub bad : IsInBadCycle p.definitions name
  pub first : (j : ℕ) (n : Name) → j < i → slice_get (map (λ d. d.0) p.definitions) j ≡ Some n → ¬ (IsInBadCycle p.definitions n)
