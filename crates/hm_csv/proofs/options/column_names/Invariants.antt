use Rattle.std.proofs.Common.{◌≡◌, ◌∷◌, map, take}
use Rattle.hm_schema.specs.Values.{options_value}
use Rattle.hm_csv.specs.Options.{key_name}
use Rattle.hm_csv.proofs.options.column_names.Given as goal

abbrev pub invariant-loop-column : goal.invariant-loop-column
invariant-loop-column l = l.names.items ≡ key_name (options_value l.options) ∷ map (λ s. s.0) (take l.column-index l.shown)
