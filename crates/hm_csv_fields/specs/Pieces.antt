-- The pieces of a field of many texts: `|` stands between them, and in a piece `\|` and `\\` stand for `|` and `\`.
use Rattle.std.specs.Prelude.{ℕ, Bool, true, false, cond, ◌||◌, List, [], ◌∷◌, ◌++◌}
use Rattle.std.specs.Bool.{◌==◌}
use Rattle.std.specs.List.{flat_map}

abbrev pub stroke : ℕ
stroke = 124

abbrev pub backslash : ℕ
backslash = 92

abbrev pub is_special : ℕ → Bool
is_special b = (b == stroke) || (b == backslash)

-- some bytes in front of the first piece
abbrev pub led : List ℕ → List (List ℕ) → List (List ℕ)
led bytes [] = bytes ∷ []
led bytes (p ∷ ps) = (bytes ++ p) ∷ ps

-- the pieces of some bytes, where a `\` that isn't read yet stands before them or none does. A `\` stands for itself before
-- another byte, and at the end
abbrev pub pieces_behind : Bool → List ℕ → List (List ℕ)
pieces_behind false [] = [] ∷ []
pieces_behind true [] = (backslash ∷ []) ∷ []
pieces_behind false (b ∷ rest) =
    cond (b == stroke) ([] ∷ pieces_behind false rest)
    (cond (b == backslash) (pieces_behind true rest) (led (b ∷ []) (pieces_behind false rest)))
pieces_behind true (b ∷ rest) =
    cond (is_special b) (led (b ∷ []) (pieces_behind false rest)) (led (backslash ∷ b ∷ []) (pieces_behind false rest))

-- an empty field has no piece
abbrev pub pieces : List ℕ → List (List ℕ)
pieces [] = []
pieces (b ∷ rest) = pieces_behind false (b ∷ rest)

-- ---- writing

abbrev pub spelled_byte : ℕ → List ℕ
spelled_byte b = cond (is_special b) (backslash ∷ b ∷ []) (b ∷ [])

abbrev pub spelled : List ℕ → List ℕ
spelled piece = flat_map spelled_byte piece

-- pieces with strokes between them
abbrev pub written : List (List ℕ) → List ℕ
written [] = []
written (p ∷ []) = spelled p
written (p ∷ q ∷ ps) = spelled p ++ stroke ∷ written (q ∷ ps)
