-- How the spelling of a name goes on that has begun.
use Rattle.std.specs.Prelude.{◌≡◌, ℕ, suc, ◌≤◌, cond, List, [], ◌∷◌, ◌++◌, length, Option, Some, None, IsUtf8}
use Rattle.std.specs.Bool.{◌==◌}
use Rattle.hm_tree.specs.Names.{Name}
use Rattle.hm_tree_spelling.specs.Spelling.{escaped, spelled_byte}
use Rattle.hm_tree_text.specs.declared.character.Character.{Character}
use Rattle.hm_tree_text.specs.Characters.{Completes, IsOpen, GoesOn}
use Rattle.hm_tree_text.specs.Reading.{IsAfter}

-- the rest of a name's spelling, to its quote: its character has begun, and it comes behind what is left of the last name
pub record IsNameRest (c : Character) (last : Option Name) (bytes : List ℕ) : Type 0 where
  pub name : Name
  pub completes : Completes c name
  pub after : IsAfter last name
  pub is : bytes ≡ escaped name ++ 34 ∷ []

-- a byte isn't less than the first of these
abbrev pub IsLeast : List ℕ → ℕ → Type 0
IsLeast [] b = Unit {0}
IsLeast (a ∷ left) b = a ≤ b

-- what is left of these behind a byte: nothing, unless it is their first
abbrev pub left_behind : List ℕ → ℕ → List ℕ
left_behind [] b = []
left_behind (a ∷ left) b = cond (a == b) left []

-- a byte with which a character goes on and that isn't less
pub record IsNext (c : Character) (left : List ℕ) (b : ℕ) : Type 0 where
  pub completion : List ℕ
  pub completes : Completes c (b ∷ completion)
  pub least : IsLeast left b

-- how many of the first bytes are equal
abbrev pub shared : List ℕ → List ℕ → ℕ
shared [] ys = 0
shared (x ∷ xs) [] = 0
shared (x ∷ xs) (y ∷ ys) = cond (x == y) (suc (shared xs ys)) 0

-- the most bytes at the front that are those of a next byte's spelling
pub record IsMostShared (c : Character) (left bytes : List ℕ) (n : ℕ) : Type 0 where
  pub each : (b : ℕ) → IsNext c left b → shared bytes (spelled_byte b) ≤ n
  pub one : (n ≡ 0 → ⊥) → (b : ℕ) × IsNext c left b × (n ≡ shared bytes (spelled_byte b))

-- the byte whose spelling stands at the front, and the length of that spelling
abbrev pub IsByteAt : List ℕ → Option (ℕ × ℕ) → Type 0
IsByteAt bytes None = (b : ℕ) (rest : List ℕ) → ¬ (bytes ≡ spelled_byte b ++ rest)
IsByteAt bytes (Some found) = (rest : List ℕ) × (found.1 ≡ length (spelled_byte found.0)) × (bytes ≡ spelled_byte found.0 ++ rest)

-- the same where it is a next byte, with the character behind it
pub record IsStep (c : Character) (left bytes : List ℕ) (b n : ℕ) (next : Character) : Type 0 where
  pub least : IsLeast left b
  pub opened : IsOpen next
  pub goes_on : GoesOn c b next
  pub size : n ≡ length (spelled_byte b)
  pub rest : List ℕ
  pub is : bytes ≡ spelled_byte b ++ rest

-- what is left of the last name at its start: all of it, which is a text
abbrev pub IsLeftOf : Option Name → List ℕ → Type 0
IsLeftOf None left = left ≡ []
IsLeftOf (Some name) left = (left ≡ name) × IsUtf8 name
