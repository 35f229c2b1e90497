-- Calls of a kind, numbered from 1 on, of which some are to fail.
use Rattle.std.specs.Prelude.{ℕ, ◌+◌, min, Bool, cond, List, [], ◌∷◌, Option, Some, None}
use Rattle.std.specs.Bool.{◌==◌}
use Rattle.hm_outside.specs.declared.numbered.Numbered.{Numbered}

-- how many there were, and of those that are to fail whether they do what they were to do all the same; what was said last
-- stands first
pub record Calls : Type 0 where
  pub count : ℕ
  pub named : List (ℕ × Bool)

abbrev pub numbered : Numbered → Calls
numbered n = record { count = n.count; named = n.named.items }

-- no call, of which none is to fail
abbrev pub no_calls : Calls
no_calls = record { count = 0; named = [] }

-- what was said last of the call of a number
abbrev pub naming : ℕ → List (ℕ × Bool) → Option Bool
naming number [] = None
naming number (x ∷ xs) = cond (x.0 == number) (Some x.1) (naming number xs)

-- the number of the next call; it stands still at the greatest
abbrev pub next_number : Calls → ℕ
next_number calls = min (calls.count + 1) 18446744073709551615

-- what was said of it; none where it isn't to fail
abbrev pub next_naming : Calls → Option Bool
next_naming calls = naming (next_number calls) calls.named

-- the same calls, and one more
abbrev pub counted : Calls → Calls
counted calls = record { count = next_number calls; named = calls.named }

-- the same calls, of which that of a number is to fail
abbrev pub failing : ℕ → Bool → Calls → Calls
failing number done calls = record { count = calls.count; named = (number, done) ∷ calls.named }
