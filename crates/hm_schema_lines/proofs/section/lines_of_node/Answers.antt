use Rattle.std.proofs.Common.{ap, ◌∙◌, take}
use Rattle.hm_schema_lines.specs.Entries.{entry_values}
use Rattle.hm_schema_lines.proofs.Sections.{inside_lines}
use Rattle.hm_schema_lines.proofs.section.lines_of_node.Goals as goal

pub returns : goal.returns
returns c = ap (λ n. entry_values (take n c.args.entries.now)) c.length_of_node.ensures ∙ inside_lines c.args.entries.now
