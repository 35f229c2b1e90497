use Rattle.std.proofs.Common.{◌≡◌, map, take}
use Rattle.hm_lines_files.proofs.options.names_of.Given as goal

abbrev pub invariant-loop-property : goal.invariant-loop-property
invariant-loop-property l = l.names.items ≡ map (λ p. p.0) (take l.property-index l.properties)
