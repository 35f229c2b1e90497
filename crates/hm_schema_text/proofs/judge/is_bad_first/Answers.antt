use Rattle.hm_schema_lines.specs.Judging.{lines_of}
use Rattle.hm_schema_lines.proofs.Laws.{turned}
use Rattle.hm_schema_text.specs.BadLines.{no_header}
use Rattle.hm_schema_text.proofs.Judging.{first_line}
use Rattle.hm_schema_text.proofs.judge.is_bad_first.Goals as goal

pub returns : goal.returns
returns c = turned _
    (λ yes bad. first_line c.args.bytes.now (lines_of c.args.line.now) c.args.line.now.place c.requires.read c.requires.first bad
    (c.in_ok-is_header_at.ensures.0 yes))
    (λ no. no_header c.requires.first (λ header. no (c.in_ok-is_header_at.ensures.1 header)))
