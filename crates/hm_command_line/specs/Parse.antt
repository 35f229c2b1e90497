-- The command by which clap reads the words, and what its matches say of them.
use Rattle.std.specs.Prelude.{◌≡◌, Bool, true, false, List, [], ◌∷◌, Some, codes, unwrap_or, IsUtf8}
use Rattle.clap.specs.Walk.{Row, Rule, Text, all_of, one_of}
use Rattle.clap.specs.Simple.{App, new_app, new_rule, on_top, with_rule}
use Rattle.clap.specs.declared.builder.action.ArgAction.TheVariants.{Append, SetTrue}
use Rattle.hm_command_line.specs.Words.{LineValue}

abbrev pub quiet_arg : Rule
quiet_arg = record (new_rule (codes "quiet")) { long = Some (codes "quiet"); action = Some SetTrue }

abbrev pub words_arg : Rule
words_arg = record (new_rule (codes "words")) { action = Some Append }

-- all words are read, and clap adds no flag for help
abbrev pub bare_command : App
bare_command = on_top (λ s. record s { no_binary_name = true; disable_help_flag = true }) (new_app (codes "harmony"))

-- one flag and any number of words
abbrev pub command : App
command = with_rule (with_rule bare_command quiet_arg) words_arg

-- each of the words is UTF-8; else clap could find no character in a flag of one hyphen, and let it pass
abbrev pub AreUtf8 : List Text → Type 0
AreUtf8 [] = Unit {0}
AreUtf8 (w ∷ ws) = IsUtf8 w × AreUtf8 ws

-- the values that the row of an id has
abbrev pub values_in : Text → List Row → List Text
values_in id rows = unwrap_or (all_of id rows) []

-- how a row spells a truth value
abbrev pub truth : Bool → Text
truth true = codes "true"
truth false = codes "false"

-- the rows say whether `--quiet` is there, and what the other words are
pub record Says (line : LineValue) (rows : List Row) : Type 0 where
  pub quiet : one_of (codes "quiet") rows ≡ Some (truth line.quiet)
  pub words : values_in (codes "words") rows ≡ line.words
