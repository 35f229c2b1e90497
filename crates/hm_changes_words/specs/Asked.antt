-- What the words behind the program's name ask for. What of them is wrong, and which values the option and the other words have,
-- is what clap's model of a parse says (`fault_of` and `matches_of`), after its documentation; `proofs/Cases` computes it of
-- words of each kind. They follow the utility syntax guidelines of POSIX (POSIX.1-2017, XBD 12.2), but that an option may stand
-- behind names, and its value behind `=` in the same word, as GNU programs have it.
use Rattle.std.specs.Prelude.{ℕ, ◌^◌, Bool, ◌&&◌, ◌==◌, nat_lt, if◌then◌else◌, List, [], ◌∷◌, length, codes, Option, Some, None, Vec}
use Rattle.std.specs.declared.alloc.Global.{Global}
use Rattle.std.specs.List.{list_all}
use Rattle.std.specs.Option.{option_map, option_and_then}
use Rattle.std.specs.Char.{digit_value}
use Rattle.std.specs.Str.Parse.{digits_value}
use Rattle.clap.specs.Walk.{Row, all_of, first_of}
use Rattle.clap.specs.Kinds.{Kinds}
use Rattle.clap.specs.Simple.{matches_of}
use Rattle.clap.specs.Faults.{fault_of}
use Rattle.hm_tree.specs.Names.{Name}
use Rattle.hm_changes_words.specs.Parse.{command}
use Rattle.hm_changes_words.specs.declared.asked.Asked.{Asked}

-- ---- numbers

-- one decimal digit or more, and nothing else
abbrev pub is_number : Name → Bool
is_number word = nat_lt 0 (length word) && list_all (λ c. nat_lt (digit_value c) 10) word

-- the number that a word says, if a usize holds it
abbrev pub number_of : Name → Option ℕ
number_of word = if is_number word && nat_lt (digits_value 10 word) (2 ^ 64) then Some (digits_value 10 word) else None

-- ---- what the rows of a parse say

-- the number of the value of `--most`, or none where it isn't there; nothing where the value is no number
abbrev pub most_said : Option Name → Option (Option ℕ)
most_said None = Some None
most_said (Some word) = option_map Some (number_of word)

-- the other words, if there are six
abbrev pub files_said : Option (List Name) → Option (List Name)
files_said None = None
files_said (Some words) = if length words == 6 then Some words else None

pub record AskedValue : Type 0 where
  pub most : Option ℕ
  pub files : List Name

abbrev pub asked_with : Option (List Name) → Option ℕ → Option AskedValue
asked_with files most = option_map (λ names. record { most = most; files = names }) files

abbrev pub asked_in : List Row → Option AskedValue
asked_in rows = option_and_then (asked_with (files_said (all_of (codes "words") rows))) (most_said (first_of (codes "most") rows))

-- ---- what words ask for

-- what is said, if nothing is wrong
abbrev pub if_right : Kinds → Option AskedValue → Option AskedValue
if_right [] asked = asked
if_right (kind ∷ kinds) asked = None

-- what the words behind the program's name ask for: a number or none, and six files; nothing where they haven't the form
unfoldable pub asked_of : List Name → Option AskedValue
asked_of words = if_right (fault_of command words) (asked_in (matches_of command words))

abbrev pub names_value : Vec (List ℕ) Global → List Name
names_value names = names.items

abbrev pub asked_value : Asked → AskedValue
asked_value a = record { most = a.most; files = a.files.items }
