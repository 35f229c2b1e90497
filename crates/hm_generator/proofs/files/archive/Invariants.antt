use Rattle.std.specs.Prelude.{◌≡◌, ◌++◌, codes, string_bytes}
use Rattle.std.specs.List.{join_by}
use Rattle.hm_generator.specs.Generated.{contacts, entry}
use Rattle.hm_generator.proofs.files.archive.Given as goal

abbrev pub invariant-loop-before : goal.invariant-loop-before
invariant-loop-before l = string_bytes l.file ≡ codes "{" ++ join_by entry (codes ",") (contacts l.before)
