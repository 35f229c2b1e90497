-- The command that reads the words, and what building makes of it.
use Rattle.std.proofs.Common.{◌≡◌, true, refl, codes, List, [], ◌∷◌, Some}
use Rattle.clap.specs.Walk.{Rule}
use Rattle.clap.specs.Simple.{Shape, new_shape, built}
use Rattle.clap.specs.Faults.{is_simple_and_free}
use Rattle.hm_command_line.specs.Parse.{quiet_arg, words_arg, command}
use Rattle.clap.specs.declared.builder.value_parser.ValueParser.TheVariants as parser

abbrev pub quiet : Rule
quiet = record quiet_arg {
  range = Some (record { start_inclusive = 0; end_inclusive = 0 });
  defaults = codes "false" ∷ [];
  missing = codes "true" ∷ [];
  parser = Some parser.Bool;
}

abbrev pub words : Rule
words = record words_arg {
  index = Some 1;
  range = Some (record { start_inclusive = 1; end_inclusive = 1 });
  parser = Some parser.String;
}

abbrev pub rules : List Rule
rules = quiet ∷ words ∷ []

abbrev pub shape : Shape
shape = record (new_shape (codes "harmony")) {
  rules = rules;
  no_binary_name = true;
  disable_help_flag = true;
  disable_help_subcommand = true;
  is_built = true;
}

-- the rules that clap walks by are these two
pub built_so : built command ≡ record { top = shape; subs = [] }
built_so = refl

pub is_plain : is_simple_and_free command ≡ true
is_plain = refl
