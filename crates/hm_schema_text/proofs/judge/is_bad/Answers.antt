use Rattle.std.proofs.Common.{Some, ap, ◌∙◌, arith}
use Rattle.hm_schema_lines.specs.Entries.{entry_value}
use Rattle.hm_schema_lines.specs.Judging.{lines_of}
use Rattle.hm_schema_lines.proofs.Laws.{entry_at}
use Rattle.hm_schema_text.proofs.Judging.{node_told}
use Rattle.hm_schema_text.proofs.judge.is_bad.Goals as goal

pub returns-in-Says : goal.returns-in-Says
returns-in-Says c =
    let at = entry_at c.args.line.now.entries.now c.args.line.now.place c.index-line-line.result c.requires.place c.index-line-line.is in
    node_told c.args.bytes.now (lines_of c.args.line.now) c.args.line.now.place _
    (at ∙ ap (λ e. Some (entry_value e)) (c.index-line-line.is ∙ c.in-Says.is))
    (omega arith) c.is_bad_line.result c.is_bad_line.ensures
