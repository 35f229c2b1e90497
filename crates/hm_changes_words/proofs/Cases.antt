-- Words of each kind, and what they ask for, computed from the definition.
use Rattle.std.proofs.Common.{◌≡◌, ℕ, refl, codes, map, List, [], ◌∷◌, Option, Some, None}
use Prim.Native.String.{String}
use Rattle.std.specs.Str.{encode_utf8_all}
use Rattle.clap.proofs.OnLiterals.{clap_on_literals}
use Rattle.hm_tree.specs.Names.{Name}
use Rattle.hm_changes_words.specs.Asked.{asked_of}

-- the bytes of words
abbrev bytes : List String → List Name
bytes = map (λ word. encode_utf8_all (codes word))

abbrev AskFor : List String → Option ℕ → List String → Type 0
AskFor words most files = asked_of (bytes words) ≡ Some (record { most = most; files = bytes files })

abbrev AskForNothing : List String → Type 0
AskForNothing words = asked_of (bytes words) ≡ None

-- ---- six names

six_names : AskFor ("s" ∷ "l" ∷ "m" ∷ "r" ∷ "a" ∷ "b" ∷ []) None ("s" ∷ "l" ∷ "m" ∷ "r" ∷ "a" ∷ "b" ∷ [])
unfolding asked_of clap_on_literals
six_names = refl

equal_names : AskFor ("s" ∷ "l" ∷ "l" ∷ "r" ∷ "a" ∷ "a" ∷ []) None ("s" ∷ "l" ∷ "l" ∷ "r" ∷ "a" ∷ "a" ∷ [])
unfolding asked_of clap_on_literals
equal_names = refl

empty_name : AskFor ("s" ∷ "l" ∷ "m" ∷ "" ∷ "a" ∷ "b" ∷ []) None ("s" ∷ "l" ∷ "m" ∷ "" ∷ "a" ∷ "b" ∷ [])
unfolding asked_of clap_on_literals
empty_name = refl

names_of_many_letters : AskFor ("schéma" ∷ "ключ" ∷ "鍵" ∷ "r" ∷ "Å" ∷ "😀" ∷ []) None ("schéma" ∷ "ключ" ∷ "鍵" ∷ "r" ∷ "Å" ∷ "😀" ∷ [])
unfolding asked_of clap_on_literals
names_of_many_letters = refl

names_with_equals_sign : AskFor ("s" ∷ "l" ∷ "m" ∷ "r" ∷ "a=5" ∷ "=b" ∷ []) None ("s" ∷ "l" ∷ "m" ∷ "r" ∷ "a=5" ∷ "=b" ∷ [])
unfolding asked_of clap_on_literals
names_with_equals_sign = refl

no_word : AskForNothing []
unfolding asked_of clap_on_literals
no_word = refl

five_names : AskForNothing ("s" ∷ "l" ∷ "m" ∷ "r" ∷ "a" ∷ [])
unfolding asked_of clap_on_literals
five_names = refl

seven_names : AskForNothing ("s" ∷ "l" ∷ "m" ∷ "r" ∷ "a" ∷ "b" ∷ "c" ∷ [])
unfolding asked_of clap_on_literals
seven_names = refl

only_most : AskForNothing ("--most" ∷ "5" ∷ [])
unfolding asked_of clap_on_literals
only_most = refl

five_names_and_most : AskForNothing ("--most" ∷ "5" ∷ "s" ∷ "l" ∷ "m" ∷ "r" ∷ "a" ∷ [])
unfolding asked_of clap_on_literals
five_names_and_most = refl

seven_names_and_most : AskForNothing ("--most" ∷ "5" ∷ "s" ∷ "l" ∷ "m" ∷ "r" ∷ "a" ∷ "b" ∷ "c" ∷ [])
unfolding asked_of clap_on_literals
seven_names_and_most = refl

-- ---- `--most`

most_in_front : AskFor ("--most" ∷ "5" ∷ "s" ∷ "l" ∷ "m" ∷ "r" ∷ "a" ∷ "b" ∷ []) (Some 5) ("s" ∷ "l" ∷ "m" ∷ "r" ∷ "a" ∷ "b" ∷ [])
unfolding asked_of clap_on_literals
most_in_front = refl

most_between : AskFor ("s" ∷ "l" ∷ "m" ∷ "--most" ∷ "5" ∷ "r" ∷ "a" ∷ "b" ∷ []) (Some 5) ("s" ∷ "l" ∷ "m" ∷ "r" ∷ "a" ∷ "b" ∷ [])
unfolding asked_of clap_on_literals
most_between = refl

most_behind : AskFor ("s" ∷ "l" ∷ "m" ∷ "r" ∷ "a" ∷ "b" ∷ "--most" ∷ "5" ∷ []) (Some 5) ("s" ∷ "l" ∷ "m" ∷ "r" ∷ "a" ∷ "b" ∷ [])
unfolding asked_of clap_on_literals
most_behind = refl

most_with_equals_sign : AskFor ("--most=5" ∷ "s" ∷ "l" ∷ "m" ∷ "r" ∷ "a" ∷ "b" ∷ []) (Some 5) ("s" ∷ "l" ∷ "m" ∷ "r" ∷ "a" ∷ "b" ∷ [])
unfolding asked_of clap_on_literals
most_with_equals_sign = refl

most_with_equals_sign_between : AskFor ("s" ∷ "--most=5" ∷ "l" ∷ "m" ∷ "r" ∷ "a" ∷ "b" ∷ []) (Some 5) ("s" ∷ "l" ∷ "m" ∷ "r" ∷ "a" ∷ "b" ∷ [])
unfolding asked_of clap_on_literals
most_with_equals_sign_between = refl

most_with_equals_sign_behind : AskFor ("s" ∷ "l" ∷ "m" ∷ "r" ∷ "a" ∷ "b" ∷ "--most=5" ∷ []) (Some 5) ("s" ∷ "l" ∷ "m" ∷ "r" ∷ "a" ∷ "b" ∷ [])
unfolding asked_of clap_on_literals
most_with_equals_sign_behind = refl

nought : AskFor ("--most" ∷ "0" ∷ "s" ∷ "l" ∷ "m" ∷ "r" ∷ "a" ∷ "b" ∷ []) (Some 0) ("s" ∷ "l" ∷ "m" ∷ "r" ∷ "a" ∷ "b" ∷ [])
unfolding asked_of clap_on_literals
nought = refl

noughts_in_front : AskFor ("--most" ∷ "007" ∷ "s" ∷ "l" ∷ "m" ∷ "r" ∷ "a" ∷ "b" ∷ []) (Some 7) ("s" ∷ "l" ∷ "m" ∷ "r" ∷ "a" ∷ "b" ∷ [])
unfolding asked_of clap_on_literals
noughts_in_front = refl

greatest : AskFor ("--most" ∷ "18446744073709551615" ∷ "s" ∷ "l" ∷ "m" ∷ "r" ∷ "a" ∷ "b" ∷ []) (Some 18446744073709551615) ("s" ∷ "l" ∷ "m" ∷ "r" ∷ "a" ∷ "b" ∷ [])
unfolding asked_of clap_on_literals
greatest = refl

-- more than a usize holds
too_great : AskForNothing ("--most" ∷ "18446744073709551616" ∷ "s" ∷ "l" ∷ "m" ∷ "r" ∷ "a" ∷ "b" ∷ [])
unfolding asked_of clap_on_literals
too_great = refl

no_value : AskForNothing ("s" ∷ "l" ∷ "m" ∷ "r" ∷ "a" ∷ "b" ∷ "--most" ∷ [])
unfolding asked_of clap_on_literals
no_value = refl

empty_value : AskForNothing ("--most" ∷ "" ∷ "s" ∷ "l" ∷ "m" ∷ "r" ∷ "a" ∷ "b" ∷ [])
unfolding asked_of clap_on_literals
empty_value = refl

empty_value_with_equals_sign : AskForNothing ("--most=" ∷ "s" ∷ "l" ∷ "m" ∷ "r" ∷ "a" ∷ "b" ∷ [])
unfolding asked_of clap_on_literals
empty_value_with_equals_sign = refl

two_equals_signs : AskForNothing ("--most==5" ∷ "s" ∷ "l" ∷ "m" ∷ "r" ∷ "a" ∷ "b" ∷ [])
unfolding asked_of clap_on_literals
two_equals_signs = refl

most_twice : AskForNothing ("--most" ∷ "5" ∷ "--most" ∷ "5" ∷ "s" ∷ "l" ∷ "m" ∷ "r" ∷ "a" ∷ "b" ∷ [])
unfolding asked_of clap_on_literals
most_twice = refl

most_twice_with_equals_sign : AskForNothing ("--most=5" ∷ "s" ∷ "l" ∷ "m" ∷ "r" ∷ "a" ∷ "b" ∷ "--most=6" ∷ [])
unfolding asked_of clap_on_literals
most_twice_with_equals_sign = refl

most_twice_in_two_ways : AskForNothing ("--most" ∷ "5" ∷ "s" ∷ "l" ∷ "m" ∷ "r" ∷ "a" ∷ "b" ∷ "--most=5" ∷ [])
unfolding asked_of clap_on_literals
most_twice_in_two_ways = refl

most_as_value : AskForNothing ("--most" ∷ "--most" ∷ "5" ∷ "s" ∷ "l" ∷ "m" ∷ "r" ∷ "a" ∷ "b" ∷ [])
unfolding asked_of clap_on_literals
most_as_value = refl

-- a word that begins with `-` is no value, unless it is `-` alone
negative_number : AskForNothing ("--most" ∷ "-5" ∷ "s" ∷ "l" ∷ "m" ∷ "r" ∷ "a" ∷ "b" ∷ [])
unfolding asked_of clap_on_literals
negative_number = refl

negative_number_with_equals_sign : AskForNothing ("--most=-5" ∷ "s" ∷ "l" ∷ "m" ∷ "r" ∷ "a" ∷ "b" ∷ [])
unfolding asked_of clap_on_literals
negative_number_with_equals_sign = refl

hyphen_as_value : AskForNothing ("--most" ∷ "-" ∷ "s" ∷ "l" ∷ "m" ∷ "r" ∷ "a" ∷ "b" ∷ [])
unfolding asked_of clap_on_literals
hyphen_as_value = refl

plus : AskForNothing ("--most" ∷ "+5" ∷ "s" ∷ "l" ∷ "m" ∷ "r" ∷ "a" ∷ "b" ∷ [])
unfolding asked_of clap_on_literals
plus = refl

plus_with_equals_sign : AskForNothing ("--most=+5" ∷ "s" ∷ "l" ∷ "m" ∷ "r" ∷ "a" ∷ "b" ∷ [])
unfolding asked_of clap_on_literals
plus_with_equals_sign = refl

plus_alone : AskForNothing ("--most" ∷ "+" ∷ "s" ∷ "l" ∷ "m" ∷ "r" ∷ "a" ∷ "b" ∷ [])
unfolding asked_of clap_on_literals
plus_alone = refl

space : AskForNothing ("--most" ∷ "5 " ∷ "s" ∷ "l" ∷ "m" ∷ "r" ∷ "a" ∷ "b" ∷ [])
unfolding asked_of clap_on_literals
space = refl

point : AskForNothing ("--most" ∷ "5.0" ∷ "s" ∷ "l" ∷ "m" ∷ "r" ∷ "a" ∷ "b" ∷ [])
unfolding asked_of clap_on_literals
point = refl

letter : AskForNothing ("--most" ∷ "x" ∷ "s" ∷ "l" ∷ "m" ∷ "r" ∷ "a" ∷ "b" ∷ [])
unfolding asked_of clap_on_literals
letter = refl

letter_behind_digit : AskForNothing ("--most" ∷ "5a" ∷ "s" ∷ "l" ∷ "m" ∷ "r" ∷ "a" ∷ "b" ∷ [])
unfolding asked_of clap_on_literals
letter_behind_digit = refl

digit_of_another_script : AskForNothing ("--most" ∷ "५" ∷ "s" ∷ "l" ∷ "m" ∷ "r" ∷ "a" ∷ "b" ∷ [])
unfolding asked_of clap_on_literals
digit_of_another_script = refl

-- ---- other options

longer : AskForNothing ("--mostly" ∷ "5" ∷ "s" ∷ "l" ∷ "m" ∷ "r" ∷ "a" ∷ "b" ∷ [])
unfolding asked_of clap_on_literals
longer = refl

cut_short : AskForNothing ("--mos" ∷ "5" ∷ "s" ∷ "l" ∷ "m" ∷ "r" ∷ "a" ∷ "b" ∷ [])
unfolding asked_of clap_on_literals
cut_short = refl

without_gap : AskForNothing ("--most5" ∷ "s" ∷ "l" ∷ "m" ∷ "r" ∷ "a" ∷ "b" ∷ [])
unfolding asked_of clap_on_literals
without_gap = refl

capital : AskForNothing ("--Most" ∷ "5" ∷ "s" ∷ "l" ∷ "m" ∷ "r" ∷ "a" ∷ "b" ∷ [])
unfolding asked_of clap_on_literals
capital = refl

one_hyphen : AskForNothing ("-most" ∷ "5" ∷ "s" ∷ "l" ∷ "m" ∷ "r" ∷ "a" ∷ "b" ∷ [])
unfolding asked_of clap_on_literals
one_hyphen = refl

short_option : AskForNothing ("-m" ∷ "5" ∷ "s" ∷ "l" ∷ "m" ∷ "r" ∷ "a" ∷ "b" ∷ [])
unfolding asked_of clap_on_literals
short_option = refl

short_option_behind : AskForNothing ("s" ∷ "l" ∷ "m" ∷ "r" ∷ "a" ∷ "b" ∷ "-m" ∷ [])
unfolding asked_of clap_on_literals
short_option_behind = refl

help : AskForNothing ("--help" ∷ [])
unfolding asked_of clap_on_literals
help = refl

help_behind : AskForNothing ("s" ∷ "l" ∷ "m" ∷ "r" ∷ "a" ∷ "b" ∷ "--help" ∷ [])
unfolding asked_of clap_on_literals
help_behind = refl

short_help : AskForNothing ("-h" ∷ [])
unfolding asked_of clap_on_literals
short_help = refl

version : AskForNothing ("--version" ∷ [])
unfolding asked_of clap_on_literals
version = refl

short_version : AskForNothing ("s" ∷ "l" ∷ "m" ∷ "r" ∷ "a" ∷ "b" ∷ "-V" ∷ [])
unfolding asked_of clap_on_literals
short_version = refl

quiet : AskForNothing ("--quiet" ∷ "s" ∷ "l" ∷ "m" ∷ "r" ∷ "a" ∷ "b" ∷ [])
unfolding asked_of clap_on_literals
quiet = refl

option_without_name : AskForNothing ("--=5" ∷ "s" ∷ "l" ∷ "m" ∷ "r" ∷ "a" ∷ "b" ∷ [])
unfolding asked_of clap_on_literals
option_without_name = refl

-- ---- `-` and `--`

-- a hyphen alone is a name
hyphen : AskFor ("s" ∷ "l" ∷ "m" ∷ "r" ∷ "a" ∷ "-" ∷ []) None ("s" ∷ "l" ∷ "m" ∷ "r" ∷ "a" ∷ "-" ∷ [])
unfolding asked_of clap_on_literals
hyphen = refl

hyphens : AskFor ("-" ∷ "-" ∷ "-" ∷ "-" ∷ "-" ∷ "-" ∷ []) None ("-" ∷ "-" ∷ "-" ∷ "-" ∷ "-" ∷ "-" ∷ [])
unfolding asked_of clap_on_literals
hyphens = refl

end_first : AskFor ("--" ∷ "s" ∷ "l" ∷ "m" ∷ "r" ∷ "a" ∷ "b" ∷ []) None ("s" ∷ "l" ∷ "m" ∷ "r" ∷ "a" ∷ "b" ∷ [])
unfolding asked_of clap_on_literals
end_first = refl

end_between : AskFor ("s" ∷ "l" ∷ "--" ∷ "m" ∷ "r" ∷ "a" ∷ "b" ∷ []) None ("s" ∷ "l" ∷ "m" ∷ "r" ∷ "a" ∷ "b" ∷ [])
unfolding asked_of clap_on_literals
end_between = refl

end_last : AskFor ("--most" ∷ "5" ∷ "s" ∷ "l" ∷ "m" ∷ "r" ∷ "a" ∷ "b" ∷ "--" ∷ []) (Some 5) ("s" ∷ "l" ∷ "m" ∷ "r" ∷ "a" ∷ "b" ∷ [])
unfolding asked_of clap_on_literals
end_last = refl

only_end : AskForNothing ("--" ∷ [])
unfolding asked_of clap_on_literals
only_end = refl

-- behind `--` all words are names, however they begin
names_behind_end : AskFor ("--" ∷ "-s" ∷ "--" ∷ "--most" ∷ "--most=5" ∷ "--help" ∷ "-" ∷ []) None ("-s" ∷ "--" ∷ "--most" ∷ "--most=5" ∷ "--help" ∷ "-" ∷ [])
unfolding asked_of clap_on_literals
names_behind_end = refl

most_on_both_sides : AskFor ("--most" ∷ "5" ∷ "--" ∷ "s" ∷ "l" ∷ "m" ∷ "r" ∷ "a" ∷ "--most" ∷ []) (Some 5) ("s" ∷ "l" ∷ "m" ∷ "r" ∷ "a" ∷ "--most" ∷ [])
unfolding asked_of clap_on_literals
most_on_both_sides = refl

most_and_number_behind_end : AskFor ("s" ∷ "l" ∷ "m" ∷ "r" ∷ "--" ∷ "--most" ∷ "5" ∷ []) None ("s" ∷ "l" ∷ "m" ∷ "r" ∷ "--most" ∷ "5" ∷ [])
unfolding asked_of clap_on_literals
most_and_number_behind_end = refl

most_too_late : AskForNothing ("s" ∷ "l" ∷ "m" ∷ "r" ∷ "a" ∷ "b" ∷ "--" ∷ "--most" ∷ "5" ∷ [])
unfolding asked_of clap_on_literals
most_too_late = refl

end_as_value : AskForNothing ("--most" ∷ "--" ∷ "s" ∷ "l" ∷ "m" ∷ "r" ∷ "a" ∷ "b" ∷ [])
unfolding asked_of clap_on_literals
end_as_value = refl

end_as_value_of_number : AskForNothing ("--most" ∷ "--" ∷ "5" ∷ "s" ∷ "l" ∷ "m" ∷ "r" ∷ "a" ∷ "b" ∷ [])
unfolding asked_of clap_on_literals
end_as_value_of_number = refl

end_too_late : AskForNothing ("-m" ∷ "--" ∷ "s" ∷ "l" ∷ "m" ∷ "r" ∷ "a" ∷ "b" ∷ [])
unfolding asked_of clap_on_literals
end_too_late = refl
