-- What a command line asks for, by its first word and the others.
use Rattle.std.proofs.Common.{◌≡◌, ◌∙◌, ◌<◌, sym, ap, arith, List, [], ◌∷◌, length, get_or, Option, Some, None}
use Rattle.std.specs.Option.{option_map, option_and_then}
use Rattle.std.specs.List.{remove}
use Rattle.hm_tree.specs.Names.{Name}
use Rattle.hm_command_line.specs.Words.{LineValue, line_of}
use Rattle.hm_command_line.specs.Requests.{Asked, request_in, request_with, asked_in, request_of}

pub first_off : (words : List Name) (word : Name) → 0 < length words → word ≡ get_or words 0 word → words ≡ word ∷ remove words 0
first_off [] word some is = absurd (omega arith)
first_off (w ∷ ws) word some is = ap (λ x. x ∷ ws) (sym is)

pub asks : (words : List Name) (line : LineValue) (asked : Option Asked) → Some line ≡ line_of words → asked ≡ asked_in line.words
    → option_map (request_with line.quiet) asked ≡ request_of words
unfolding request_of
asks words line asked read is = ap (option_map (request_with line.quiet)) is ∙ ap (option_and_then request_in) read

pub asks_nothing : (words : List Name) → None ≡ line_of words → None ≡ request_of words
unfolding request_of
asks_nothing words none = ap (option_and_then request_in) none
