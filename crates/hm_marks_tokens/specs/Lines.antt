-- Bookmark files as they are written: lines, each behind the spaces of its folder.
use Rattle.std.specs.Prelude.{◌≡◌, ◌⊎◌, ℕ, ◌+◌, ◌-◌, ◌*◌, true, false, List, [], ◌∷◌, ◌++◌, replicate, codes}
use Rattle.std.specs.List.{flat_map, AllZip}
use Rattle.hm_marks_tokens.specs.Bytes.{greater, has_less, is_white, begins_white}
use Rattle.hm_marks_tokens.specs.Tokens.{is_inside}
use Rattle.hm_marks_tokens.specs.Symbols.{Symbol, list, list_end, entry, link, link_end, heading, heading_end, note, rule, words_of, HasSymbols}

-- a line; the bytes of a tag between its name and its `>`, and those of a title or a note
pub data Line : Type 0 where
  opens : Line  -- the list of a folder begins
  closes : Line  -- it ends
  links : (attributes title : List ℕ) → Line  -- a link
  heads : (attributes title : List ℕ) → Line  -- the heading of a folder
  notes : (bytes : List ℕ) → Line  -- the note of an entry
  rules : (attributes : List ℕ) → Line  -- a rule

-- ---- the symbols of a line

-- the symbols of a line
abbrev pub symbols_in : Line → List Symbol
symbols_in opens = list ∷ []
symbols_in closes = list_end ∷ []
symbols_in (links attributes title) = entry ∷ link attributes ∷ (words_of title ++ link_end ∷ [])
symbols_in (heads attributes title) = entry ∷ heading attributes ∷ (words_of title ++ heading_end ∷ [])
symbols_in (notes bytes) = note ∷ words_of bytes
symbols_in (rules attributes) = rule attributes ∷ []

-- those of some lines
abbrev pub symbols_of : List Line → List Symbol
symbols_of lines = flat_map symbols_in lines

-- ---- the bytes of a line

-- a line without the spaces before it and the line feed behind it
abbrev pub core : Line → List ℕ
core opens = codes "<DL><p>"
core closes = codes "</DL><p>"
core (links attributes title) = codes "<DT><A" ++ (attributes ++ greater ∷ (title ++ codes "</A>"))
core (heads attributes title) = codes "<DT><H3" ++ (attributes ++ greater ∷ (title ++ codes "</H3>"))
core (notes bytes) = codes "<DD>" ++ bytes
core (rules attributes) = codes "<HR" ++ (attributes ++ greater ∷ [])

-- within how many folders a line stands, where so many are open before it
abbrev pub depth_at : ℕ → Line → ℕ
depth_at n opens = n
depth_at n closes = n - 1
depth_at n (links attributes title) = n
depth_at n (heads attributes title) = n
depth_at n (notes bytes) = n
depth_at n (rules attributes) = n

-- how many are open behind it
abbrev pub depth_behind : ℕ → Line → ℕ
depth_behind n opens = n + 1
depth_behind n closes = n - 1
depth_behind n (links attributes title) = n
depth_behind n (heads attributes title) = n
depth_behind n (notes bytes) = n
depth_behind n (rules attributes) = n

-- the spaces before a line within so many folders: four for each
abbrev pub indent : ℕ → List ℕ
indent n = replicate (4 * n) 32

-- the bytes of lines, where so many folders are open before the first
abbrev pub laid : ℕ → List Line → List ℕ
laid n [] = []
laid n (l ∷ ls) = indent (depth_at n l) ++ (core l ++ 10 ∷ laid (depth_behind n l) ls)

-- how many are open behind lines
abbrev pub open_behind : ℕ → List Line → ℕ
open_behind n [] = n
open_behind n (l ∷ ls) = open_behind (depth_behind n l) ls

-- the bytes of lines, and of the tag that ends the list of the last folder that is open behind them
abbrev pub laid_list : ℕ → List Line → List ℕ
laid_list n ls = laid n ls ++ (indent (open_behind n ls - 1) ++ codes "</DL>")

-- ---- lines that can be written

-- bytes between the name of a tag and its `>`
pub record AreBehindName (bytes : List ℕ) : Type 0 where
  pub apart : begins_white bytes ≡ true
  pub inside : is_inside false bytes ≡ true

-- a note is empty, or isn't of white space alone
abbrev pub IsNote : List ℕ → Type 0
IsNote bytes = (has_less bytes ≡ false) × ((bytes ≡ []) ⊎ (is_white bytes ≡ false))

-- a line that can be written
abbrev pub IsLine : Line → Type 0
IsLine opens = Unit {0}
IsLine closes = Unit {0}
IsLine (links attributes title) = AreBehindName attributes × (has_less title ≡ false)
IsLine (heads attributes title) = AreBehindName attributes × (has_less title ≡ false)
IsLine (notes bytes) = IsNote bytes
IsLine (rules attributes) = AreBehindName attributes

-- ---- lines that are read again

-- a line, and where it is a note that isn't empty, with more white space at its end
abbrev pub longer : List ℕ → Line → Line
longer white opens = opens
longer white closes = closes
longer white (links attributes title) = links attributes title
longer white (heads attributes title) = heads attributes title
longer white (notes []) = notes []
longer white (notes (b ∷ bytes)) = notes ((b ∷ bytes) ++ white)
longer white (rules attributes) = rules attributes

-- the same line, but for white space at the end of a note
abbrev pub IsAlike : Line → Line → Type 0
IsAlike l m = (white : List ℕ) × ((is_white white ≡ true) × (m ≡ longer white l))

-- some lines
abbrev pub Lines : Type 0
Lines = List Line

-- bytes begin with the symbols of lines that are alike to these, and of one more that closes a list
pub record AreRead (bytes : List ℕ) (lines : List Line) (rest : List ℕ) : Type 0 where
  pub found : List Line
  pub alike : AllZip IsAlike lines found
  pub symbols : HasSymbols false bytes (symbols_of (found ++ closes ∷ [])) rest
