-- Unfolding, and the lines of what is unfolded (RFC 5545, section 3.1; RFC 6350, section 3.2).
use Rattle.std.specs.Prelude.{◌≡◌, ℕ, ◌<◌, ◌≤◌, Bool, true, false, cond, ◌&&◌, ◌||◌, List, [], ◌∷◌, length, take, drop, map, Option}
use Rattle.std.specs.Bool.{◌==◌}
use Rattle.std.specs.List.{onto_first}
use Rattle.memchr.specs.Find.{IsFirst}
use Rattle.hm_lines.specs.declared.unfolding.FirstLine.{FirstLine}

abbrev pub feed : ℕ
feed = 10

abbrev pub return : ℕ
return = 13

-- a space or a tab
abbrev pub is_blank : ℕ → Bool
is_blank b = (b == 32) || (b == 9)

abbrev pub begins_with_blank : List ℕ → Bool
begins_with_blank [] = false
begins_with_blank (b ∷ rest) = is_blank b

-- a line feed, and a space or a tab
abbrev pub begins_with_fold : List ℕ → Bool
begins_with_fold [] = false
begins_with_fold (b ∷ rest) = (b == feed) && begins_with_blank rest

-- a fold begins at a place of bytes
abbrev pub IsFold : List ℕ → ℕ → Type 0
IsFold bytes at = begins_with_fold (drop at bytes) ≡ true

-- the first place at which a fold begins, if there is one
abbrev pub IsFirstFold : List ℕ → Option ℕ → Type 0
IsFirstFold bytes found = IsFirst (IsFold bytes) 0 (length bytes) found

-- ---- unfolding

-- a byte that stands behind a line feed, or not, and before a rest is of a fold: it is the line feed, or the blank behind it,
-- or a carriage return just before it
abbrev pub is_of_fold : Bool → ℕ → List ℕ → Bool
is_of_fold behind b rest = (begins_with_fold (b ∷ rest) || (behind && is_blank b)) || ((b == return) && begins_with_fold rest)

-- what is left of bytes that stand behind a line feed, or not, without their folds
abbrev pub unfolded_behind : Bool → List ℕ → List ℕ
unfolded_behind behind [] = []
unfolded_behind behind (b ∷ rest) = cond (is_of_fold behind b rest) (unfolded_behind (b == feed) rest) (b ∷ unfolded_behind (b == feed) rest)

abbrev pub unfolded : List ℕ → List ℕ
unfolded bytes = unfolded_behind false bytes

-- ---- lines

-- the pieces of bytes that are cut at line feeds; nothing behind the last one is no piece
abbrev pub cut : List ℕ → List (List ℕ)
cut [] = []
cut (b ∷ rest) = cond (b == feed) ([] ∷ cut rest) (onto_first b (cut rest))

-- without one carriage return at the end
abbrev pub without_return : List ℕ → List ℕ
without_return [] = []
without_return (b ∷ []) = cond (b == return) [] (b ∷ [])
without_return (b ∷ c ∷ rest) = b ∷ without_return (c ∷ rest)

abbrev pub lines : List ℕ → List (List ℕ)
lines bytes = map without_return (cut bytes)

-- bytes have a first line that ends at a place, and the others in what is left from another place on
pub record IsFirstLine (bytes : List ℕ) (line : FirstLine) : Type 0 where
  pub lines : lines bytes ≡ take line.to bytes ∷ lines (drop line.next bytes)
  pub ends : line.to ≤ line.next
  pub some : 0 < line.next
  pub within : line.next ≤ length bytes
