use Rattle.std.specs.Prelude.{◌≡◌, ◌++◌, flat_map, codes, string_bytes}
use Rattle.hm_generator.specs.Generated.{contacts, row}
use Rattle.hm_generator.proofs.files.left.Given as goal

abbrev pub invariant-loop-before : goal.invariant-loop-before
invariant-loop-before l = string_bytes l.file ≡ codes "Name,Phone,Email\n" ++ flat_map row (contacts l.before)
