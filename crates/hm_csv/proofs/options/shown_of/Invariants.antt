use Rattle.std.proofs.Common.{◌≡◌, map}
use Rattle.hm_schema.specs.Values.{options_value}
use Rattle.hm_format.specs.Options.{is_among}
use Rattle.hm_csv.specs.Options.{many_names}
use Rattle.hm_csv.proofs.options.shown_of.Given as goal

abbrev pub invariant-loop-name : goal.invariant-loop-name
invariant-loop-name l = l.shown.items ≡ map (λ k. (k, is_among (many_names (options_value l.options)) k)) l.yielded
