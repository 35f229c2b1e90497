use Rattle.std.proofs.Common.{arith, ap, ◌∙◌, string_bytes, codes, rules}
use Rattle.hm_generator.specs.Generated.{entry, archive_bytes}
use Rattle.hm_generator.proofs.OneMore.{first_put, next_put}
use Rattle.hm_generator.proofs.files.archive.Goals as goal
use Rattle.hm_generator.proofs.files.archive.Goals.{then-before-gt0+in_ok-push_str-2, else-before-gt0}

pub loop-before-preserved : goal.loop-before-preserved
loop-before-preserved c = elim c.if-before-gt0.branch [
  | then-before-gt0+in_ok-push_str-2 w ↦
      next_put (codes "{") _ _ _ entry (codes ",") c.loop-before.before w.if-before-gt0.true c.loop-before.invariant (ap string_bytes w.file-is ∙ w.in_ok-push_str-2.ensures.bytes) c.in_ok-put_entry.ensures
  | else-before-gt0 w ↦
      first_put (codes "{") _ _ entry (codes ",") c.loop-before.before (omega (arith, w.if-before-gt0.false)) (ap string_bytes w.file-is ∙ c.loop-before.invariant) c.in_ok-put_entry.ensures
]

pub returns : goal.returns
unfolding archive_bytes
returns c = search rules
