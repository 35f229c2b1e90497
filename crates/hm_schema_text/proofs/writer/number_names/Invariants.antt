use Rattle.std.proofs.Common.{◌≡◌}
use Rattle.hm_schema_text.specs.Writing.{number_names}
use Rattle.hm_schema_text.proofs.writer.number_names.Given as goal

abbrev pub invariant-loop-number : goal.invariant-loop-number
invariant-loop-number l = l.names.items ≡ number_names l.number
