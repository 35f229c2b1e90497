-- Words of each kind, and what they ask for, computed from the definitions.
use Rattle.std.proofs.Common.{◌≡◌, Bool, refl, codes, true, false, map, List, [], ◌∷◌, Some, None}
use Prim.Native.String.{String}
use Rattle.hm_command_line.specs.Words.{line_of}
use Rattle.hm_command_line.specs.Requests.{request_of}
use Rattle.hm_command_line.specs.declared.request.Command.{Command}
use Rattle.hm_command_line.specs.declared.request.Command.TheVariants.{Sync, Plan, Check, View, Generate}

abbrev AskFor : List String → Bool → Command → List String → Type 0
AskFor words quiet command files = request_of (map codes words) ≡ Some (record { quiet = quiet; command = command; files = map codes files })

abbrev AskForNothing : List String → Type 0
AskForNothing words = request_of (map codes words) ≡ None

-- ---- commands, and how many files they have

sync : AskFor ("sync" ∷ "a" ∷ "b" ∷ "c" ∷ "d" ∷ "e" ∷ "f" ∷ []) false Sync ("a" ∷ "b" ∷ "c" ∷ "d" ∷ "e" ∷ "f" ∷ [])
unfolding request_of line_of
sync = refl

plan : AskFor ("plan" ∷ "a" ∷ "b" ∷ "c" ∷ "d" ∷ "e" ∷ "f" ∷ []) false Plan ("a" ∷ "b" ∷ "c" ∷ "d" ∷ "e" ∷ "f" ∷ [])
unfolding request_of line_of
plan = refl

check : AskFor ("check" ∷ "l" ∷ []) false Check ("l" ∷ [])
unfolding request_of line_of
check = refl

view : AskFor ("view" ∷ "l" ∷ "f" ∷ []) false View ("l" ∷ "f" ∷ [])
unfolding request_of line_of
view = refl

equal_names : AskFor ("view" ∷ "l" ∷ "l" ∷ []) false View ("l" ∷ "l" ∷ [])
unfolding request_of line_of
equal_names = refl

empty_name : AskFor ("check" ∷ "" ∷ []) false Check ("" ∷ [])
unfolding request_of line_of
empty_name = refl

no_word : AskForNothing []
unfolding request_of line_of
no_word = refl

only_end : AskForNothing ("--" ∷ [])
unfolding request_of line_of
only_end = refl

only_quiet : AskForNothing ("--quiet" ∷ [])
unfolding request_of line_of
only_quiet = refl

five_files : AskForNothing ("sync" ∷ "a" ∷ "b" ∷ "c" ∷ "d" ∷ "e" ∷ [])
unfolding request_of line_of
five_files = refl

seven_files : AskForNothing ("plan" ∷ "a" ∷ "b" ∷ "c" ∷ "d" ∷ "e" ∷ "f" ∷ "g" ∷ [])
unfolding request_of line_of
seven_files = refl

no_lens : AskForNothing ("check" ∷ [])
unfolding request_of line_of
no_lens = refl

two_lenses : AskForNothing ("check" ∷ "l" ∷ "k" ∷ [])
unfolding request_of line_of
two_lenses = refl

no_file : AskForNothing ("view" ∷ "l" ∷ [])
unfolding request_of line_of
no_file = refl

another_command : AskForNothing ("Sync" ∷ "a" ∷ "b" ∷ "c" ∷ "d" ∷ "e" ∷ "f" ∷ [])
unfolding request_of line_of
another_command = refl

help_word : AskForNothing ("help" ∷ [])
unfolding request_of line_of
help_word = refl

-- ---- `--quiet`

quiet_first : AskFor ("--quiet" ∷ "check" ∷ "l" ∷ []) true Check ("l" ∷ [])
unfolding request_of line_of
quiet_first = refl

quiet_between : AskFor ("plan" ∷ "a" ∷ "b" ∷ "c" ∷ "d" ∷ "e" ∷ "--quiet" ∷ "f" ∷ []) true Plan ("a" ∷ "b" ∷ "c" ∷ "d" ∷ "e" ∷ "f" ∷ [])
unfolding request_of line_of
quiet_between = refl

quiet_last : AskFor ("check" ∷ "l" ∷ "--quiet" ∷ []) true Check ("l" ∷ [])
unfolding request_of line_of
quiet_last = refl

quiet_twice : AskForNothing ("--quiet" ∷ "--quiet" ∷ "check" ∷ "l" ∷ [])
unfolding request_of line_of
quiet_twice = refl

quiet_with_value : AskForNothing ("check" ∷ "l" ∷ "--quiet=x" ∷ [])
unfolding request_of line_of
quiet_with_value = refl

quiet_with_empty_value : AskForNothing ("check" ∷ "l" ∷ "--quiet=" ∷ [])
unfolding request_of line_of
quiet_with_empty_value = refl

quiet_cut_short : AskForNothing ("check" ∷ "l" ∷ "--qui" ∷ [])
unfolding request_of line_of
quiet_cut_short = refl

-- ---- other flags

short_flag : AskForNothing ("-q" ∷ "check" ∷ "l" ∷ [])
unfolding request_of line_of
short_flag = refl

short_flag_behind : AskForNothing ("check" ∷ "l" ∷ "-q" ∷ [])
unfolding request_of line_of
short_flag_behind = refl

help : AskForNothing ("--help" ∷ [])
unfolding request_of line_of
help = refl

short_help : AskForNothing ("check" ∷ "-h" ∷ [])
unfolding request_of line_of
short_help = refl

help_of_command : AskForNothing ("check" ∷ "l" ∷ "--quiet" ∷ "--help" ∷ [])
unfolding request_of line_of
help_of_command = refl

version : AskForNothing ("--version" ∷ [])
unfolding request_of line_of
version = refl

negative_number : AskForNothing ("check" ∷ "-5" ∷ [])
unfolding request_of line_of
negative_number = refl

flag_without_name : AskForNothing ("check" ∷ "--=x" ∷ [])
unfolding request_of line_of
flag_without_name = refl

-- ---- `-` and `--`

-- a hyphen alone is a name
hyphen : AskFor ("view" ∷ "l" ∷ "-" ∷ []) false View ("l" ∷ "-" ∷ [])
unfolding request_of line_of
hyphen = refl

hyphen_twice : AskFor ("view" ∷ "-" ∷ "-" ∷ []) false View ("-" ∷ "-" ∷ [])
unfolding request_of line_of
hyphen_twice = refl

hyphen_too_many : AskForNothing ("view" ∷ "l" ∷ "-" ∷ "-" ∷ [])
unfolding request_of line_of
hyphen_too_many = refl

end_first : AskFor ("--" ∷ "sync" ∷ "a" ∷ "b" ∷ "c" ∷ "d" ∷ "e" ∷ "f" ∷ []) false Sync ("a" ∷ "b" ∷ "c" ∷ "d" ∷ "e" ∷ "f" ∷ [])
unfolding request_of line_of
end_first = refl

end_last : AskFor ("check" ∷ "l" ∷ "--quiet" ∷ "--" ∷ []) true Check ("l" ∷ [])
unfolding request_of line_of
end_last = refl

-- behind `--` all words are names, also `--quiet` and another `--`
end_then_quiet : AskFor ("view" ∷ "--" ∷ "--quiet" ∷ "--" ∷ []) false View ("--quiet" ∷ "--" ∷ [])
unfolding request_of line_of
end_then_quiet = refl

end_twice : AskFor ("check" ∷ "--" ∷ "--" ∷ []) false Check ("--" ∷ [])
unfolding request_of line_of
end_twice = refl

quiet_on_both_sides : AskFor ("check" ∷ "--quiet" ∷ "--" ∷ "--quiet" ∷ []) true Check ("--quiet" ∷ [])
unfolding request_of line_of
quiet_on_both_sides = refl

short_flag_behind_end : AskFor ("--quiet" ∷ "check" ∷ "--" ∷ "-q" ∷ []) true Check ("-q" ∷ [])
unfolding request_of line_of
short_flag_behind_end = refl

help_behind_end : AskFor ("--" ∷ "check" ∷ "--help" ∷ []) false Check ("--help" ∷ [])
unfolding request_of line_of
help_behind_end = refl

end_too_late : AskForNothing ("check" ∷ "-q" ∷ "--" ∷ [])
unfolding request_of line_of
end_too_late = refl

-- ---- numbers

one : AskFor ("gen" ∷ "1" ∷ []) false (Generate 1) []
unfolding request_of line_of
one = refl

twenty : AskFor ("gen" ∷ "20" ∷ []) false (Generate 20) []
unfolding request_of line_of
twenty = refl

most : AskFor ("gen" ∷ "50000" ∷ []) false (Generate 50000) []
unfolding request_of line_of
most = refl

number_behind_end : AskFor ("gen" ∷ "--quiet" ∷ "--" ∷ "7" ∷ []) true (Generate 7) []
unfolding request_of line_of
number_behind_end = refl

nought : AskForNothing ("gen" ∷ "0" ∷ [])
unfolding request_of line_of
nought = refl

begins_with_nought : AskForNothing ("gen" ∷ "020" ∷ [])
unfolding request_of line_of
begins_with_nought = refl

too_many : AskForNothing ("gen" ∷ "50001" ∷ [])
unfolding request_of line_of
too_many = refl

-- a number of more than 64 bits
too_long : AskForNothing ("gen" ∷ "18446744073709551617" ∷ [])
unfolding request_of line_of
too_long = refl

plus : AskForNothing ("gen" ∷ "+5" ∷ [])
unfolding request_of line_of
plus = refl

space : AskForNothing ("gen" ∷ "5 " ∷ [])
unfolding request_of line_of
space = refl

letter : AskForNothing ("gen" ∷ "x" ∷ [])
unfolding request_of line_of
letter = refl

empty_number : AskForNothing ("gen" ∷ "" ∷ [])
unfolding request_of line_of
empty_number = refl

no_number : AskForNothing ("gen" ∷ [])
unfolding request_of line_of
no_number = refl

two_numbers : AskForNothing ("gen" ∷ "1" ∷ "2" ∷ [])
unfolding request_of line_of
two_numbers = refl
