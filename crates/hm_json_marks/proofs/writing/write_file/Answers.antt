use Rattle.std.proofs.Common.{Ok, sym, subst}
use Rattle.hm_json_marks.specs.Files.{JsonReads}
use Rattle.hm_json_marks.proofs.writing.write_file.Goals as goal

pub text_for-requires-clause-read : goal.text_for-requires-clause-read
text_for-requires-clause-read c =
    let old = c.requires.read.0 in
    (old, subst (λ text. JsonReads text (Ok old)) (sym c.in-Ok.ensures.cases.0) c.requires.read.1)
