-- Cleaning byte by byte: a CR is an LF at once, and an LF behind a CR is dropped.
use Rattle.std.specs.Prelude.{ℕ, Bool, cond, ◌&&◌, List, [], ◌∷◌}
use Rattle.std.specs.Bool.{◌==◌}

-- what is left of a byte, by whether it stands behind a CR
abbrev pub line_end : Bool → ℕ → List ℕ
line_end behind_return b = cond (b == 13) (10 ∷ []) (cond (behind_return && (b == 10)) [] (b ∷ []))
