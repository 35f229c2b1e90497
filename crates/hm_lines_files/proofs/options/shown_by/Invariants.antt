use Rattle.std.proofs.Common.{◌≡◌, filter, take}
use Rattle.std.specs.Prelude.{codes}
use Rattle.hm_schema.specs.Values.{options_value}
use Rattle.hm_format.specs.Options.{values_of, is_among}
use Rattle.hm_lines_files.proofs.options.shown_by.Given as goal

abbrev pub invariant-loop-property : goal.invariant-loop-property
invariant-loop-property l =
    l.shown.items ≡ filter (λ p. is_among (values_of (options_value l.options).pairs (codes "show")) p.0) (take l.property-index l.properties)
