use Rattle.std.specs.Prelude.{◌≡◌, flat_map, string_bytes}
use Rattle.hm_generator.specs.Generated.{contacts, card}
use Rattle.hm_generator.proofs.files.right.Given as goal

abbrev pub invariant-loop-before : goal.invariant-loop-before
invariant-loop-before l = string_bytes l.file ≡ flat_map card (contacts l.before)
