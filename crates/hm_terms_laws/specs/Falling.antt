-- When calls of definitions come to an end: each falls in one of three numbers, of which two belong to definitions.
use Rattle.std.specs.Prelude.{◌≡◌, ℕ, ◌<◌, ◌≤◌, ◌||◌, Bool, true, false}
use Rattle.hm_tree.specs.Names.{Name}
use Rattle.hm_terms.specs.Lenses.{Lens}
use Rattle.hm_terms.specs.Calls.{Calls}

-- of a definition that is called by one of these steps and this rank: inside a sequence it has less steps; inside a lens on
-- children or items it has no more, and goes to a tree that is less deep; else it has no more steps, and a lesser rank
abbrev pub Falls : (Name → ℕ) → (Name → ℕ) → ℕ → ℕ → Bool → Bool → Name → Type 0
Falls steps rank a r true children n = steps n < a
Falls steps rank a r false true n = steps n ≤ a
Falls steps rank a r false false n = (steps n ≤ a) × (rank n < r)

-- each call of a lens falls, where the lens itself stands so
pub record AllFall (steps rank : Name → ℕ) (a r : ℕ) (sequence children : Bool) (l : Lens) : Type 0 where
  pub each : (s c : Bool) (n : Name) → Calls l s c n → Falls steps rank a r (sequence || s) (children || c) n

-- the depths that a call is asked for, from one depth: any inside a sequence, a lesser one inside a lens on children or items,
-- else the same
abbrev pub IsAsked : Bool → Bool → ℕ → ℕ → Type 0
IsAsked true children d m = Unit {0}
IsAsked false true d m = m < d
IsAsked false false d m = m ≡ d
