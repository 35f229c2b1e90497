-- What the words behind the program's name say: whether `--quiet` is one of their flags, and the other words. They follow the
-- utility syntax guidelines of POSIX (POSIX.1-2017, XBD 12.2), but that a flag may stand behind names, as GNU programs have it.
use Rattle.std.specs.Prelude.{Bool, false, not, ◌&&◌, ◌||◌, ◌==◌, nat_le, if◌then◌else◌, List, [], ◌∷◌, ◌++◌, length, codes, Option, Some, None}
use Rattle.std.specs.List.{before_first, after_first, list_any, list_all, filter}
use Rattle.std.specs.Str.{bytes_eq}
use Rattle.hm_tree.specs.Names.{Name}
use Rattle.hm_command_line.specs.declared.line.Line.{Line}

-- ---- flags

-- the word that ends the flags (guideline 10)
abbrev pub is_end : Name → Bool
is_end word = bytes_eq word (codes "--")

abbrev pub is_quiet : Name → Bool
is_quiet word = bytes_eq word (codes "--quiet")

-- a word that begins with a hyphen, 45, and isn't a hyphen alone, which is a name (guideline 13)
abbrev pub is_flag : Name → Bool
is_flag [] = false
is_flag (c ∷ []) = false
is_flag (c ∷ d ∷ cs) = c == 45

-- the words before the first `--`, or all where there is none: only these can be flags
abbrev pub front : List Name → List Name
front words = before_first is_end words

-- the words behind it
abbrev pub back : List Name → List Name
back words = after_first is_end words

-- of the words in front `--quiet` is one at the most, and no other is a flag
abbrev pub has_form : List Name → Bool
has_form words = nat_le (length (filter is_quiet (front words))) 1 && list_all (λ word. is_quiet word || not (is_flag word)) (front words)

-- ---- a command line

pub record LineValue : Type 0 where
  pub quiet : Bool
  pub words : List Name

-- whether `--quiet` is in front, and the words in front without it, with those behind
abbrev pub line_in : List Name → LineValue
line_in words = record { quiet = list_any is_quiet (front words); words = filter (λ word. not (is_quiet word)) (front words) ++ back words }

-- what the words say; nothing where they haven't the form
unfoldable pub line_of : List Name → Option LineValue
line_of words = if has_form words then Some (line_in words) else None

abbrev pub line_value : Line → LineValue
line_value line = record { quiet = line.quiet; words = line.words.items }
