use Rattle.std.proofs.Common.{◌≡◌, ◌++◌, take, map}
use Rattle.std.specs.Prelude.{flat_map}
use Rattle.hm_schema.specs.Values.{pair_value}
use Rattle.hm_focal_writer.specs.Writing.{option_text}
use Rattle.hm_focal_writer.proofs.writer.put_options.Given as goal

abbrev pub invariant-loop-option : goal.invariant-loop-option
invariant-loop-option l = l.text.items ≡ l.initial.text.items ++ flat_map option_text (map pair_value (take l.option-index l.options))
