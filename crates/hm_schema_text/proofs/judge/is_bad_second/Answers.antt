use Rattle.hm_schema_lines.specs.Judging.{lines_of}
use Rattle.hm_schema_lines.proofs.Laws.{turned}
use Rattle.hm_schema_text.specs.BadLines.{names_no_node}
use Rattle.hm_schema_text.proofs.Judging.{second_line}
use Rattle.hm_schema_text.proofs.judge.is_bad_second.Goals as goal

pub returns-in-Some : goal.returns-in-Some
returns-in-Some c =
    let root = rw c.in-Some.is at c.in_ok-name.ensures in
    turned _
    (λ yes bad. second_line c.args.bytes.now (lines_of c.args.line.now) c.args.line.now.place c.requires.read c.requires.second _ root bad
    (c.is_node.ensures.0 yes))
    (λ no. names_no_node c.requires.second root (λ some. no (c.is_node.ensures.1 some)))
