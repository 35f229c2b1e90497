-- The command by which clap reads the words.
use Rattle.std.specs.Prelude.{true, codes, Some}
use Rattle.clap.specs.Walk.{Rule}
use Rattle.clap.specs.Simple.{App, new_app, new_rule, on_top, with_rule}
use Rattle.clap.specs.declared.builder.action.ArgAction.TheVariants.{Append, Set}

-- an option that has one value
abbrev pub most_arg : Rule
most_arg = record (new_rule (codes "most")) { long = Some (codes "most"); action = Some Set }

abbrev pub words_arg : Rule
words_arg = record (new_rule (codes "words")) { action = Some Append }

-- all words are read, and clap adds no flag for help
abbrev pub bare_command : App
bare_command = on_top (λ s. record s { no_binary_name = true; disable_help_flag = true }) (new_app (codes "harmony-changes"))

-- one option and any number of words
abbrev pub command : App
command = with_rule (with_rule bare_command most_arg) words_arg
