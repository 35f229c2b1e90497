-- What the words of a command line ask for: a command, and the names of its files.
use Rattle.std.specs.Prelude.{ℕ, Bool, ◌&&◌, ◌==◌, nat_lt, nat_le, if◌then◌else◌, List, [], ◌∷◌, length, codes, slice_index, Option, Some, None, Vec}
use Rattle.std.specs.declared.alloc.Global.{Global}
use Rattle.std.specs.List.{list_all}
use Rattle.std.specs.Option.{option_map, option_and_then}
use Rattle.std.specs.Char.{digit_value}
use Rattle.std.specs.Str.{bytes_eq}
use Rattle.std.specs.Str.Parse.{digits_value}
use Rattle.hm_tree.specs.Names.{Name}
use Rattle.hm_command_line.specs.declared.request.Command.{Command}
use Rattle.hm_command_line.specs.declared.request.Command.TheVariants.{Sync, Plan, Check, View, Generate}
use Rattle.hm_command_line.specs.declared.request.Request.{Request}
use Rattle.hm_command_line.specs.Words.{LineValue, line_of}

-- ---- numbers of contacts

-- the greatest number of contacts that may be asked for
abbrev pub most_contacts : ℕ
most_contacts = 50000

-- one decimal digit or more, of which the first isn't 0
abbrev pub is_number : Name → Bool
is_number word = nat_lt 0 (digit_value (slice_index word 0)) && nat_lt 0 (length word) && list_all (λ c. nat_lt (digit_value c) 10) word

-- the number that a word says, of at most 50,000
abbrev pub number_of : Name → Option ℕ
number_of word = if is_number word && nat_le (digits_value 10 word) most_contacts then Some (digits_value 10 word) else None

-- ---- the table of commands

-- a command, if there are so many files
abbrev pub with_files : Command → ℕ → List Name → Option Command
with_files command number files = if length files == number then Some command else None

-- `gen`, if one word stands behind it and says a number
abbrev pub with_number : List Name → Option Command
with_number [] = None
with_number (word ∷ []) = option_map Generate (number_of word)
with_number (word ∷ more ∷ words) = None

-- the command of a name, if so many words stand behind it as it has
abbrev pub command_of : Name → List Name → Option Command
command_of word files =
    if bytes_eq word (codes "sync") then with_files Sync 6 files
    else if bytes_eq word (codes "plan") then with_files Plan 6 files
    else if bytes_eq word (codes "check") then with_files Check 1 files
    else if bytes_eq word (codes "view") then with_files View 2 files
    else if bytes_eq word (codes "gen") then with_number files
    else None

-- those of the words behind a command that name files; a number names none
abbrev pub files_of : Command → List Name → List Name
files_of (Generate n) files = []
files_of command files = files

-- a command, and the names of its files
pub record Asked : Type 0 where
  pub command : Command
  pub files : List Name

abbrev pub with_command : List Name → Command → Asked
with_command files command = record { command = command; files = files_of command files }

-- the first of the words is the name of the command
abbrev pub asked_in : List Name → Option Asked
asked_in [] = None
asked_in (word ∷ files) = option_map (with_command files) (command_of word files)

abbrev pub asked_value : Command × Vec (List ℕ) Global → Asked
asked_value p = record { command = p.0; files = p.1.items }

-- ---- requests

pub record RequestValue : Type 0 where
  pub quiet : Bool
  pub command : Command
  pub files : List Name

abbrev pub request_with : Bool → Asked → RequestValue
request_with quiet asked = record { quiet = quiet; command = asked.command; files = asked.files }

-- what a command line asks for, if it is in the table
abbrev pub request_in : LineValue → Option RequestValue
request_in line = option_map (request_with line.quiet) (asked_in line.words)

-- what the words behind the program's name ask for; nothing where they haven't the form or aren't in the table
unfoldable pub request_of : List Name → Option RequestValue
request_of words = option_and_then request_in (line_of words)

abbrev pub request_value : Request → RequestValue
request_value r = record { quiet = r.quiet; command = r.command; files = r.files.items }
