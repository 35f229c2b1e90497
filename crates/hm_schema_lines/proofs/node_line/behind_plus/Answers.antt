use Rattle.hm_schema_lines.proofs.NodeLines.{tail_counted, tail_none}
use Rattle.hm_schema_lines.proofs.node_line.behind_plus.Goals as goal

pub returns-in-Some : goal.returns-in-Some
returns-in-Some c = let a = c.in-Some.ensures in tail_counted c.args.rest.items _ c.read_count.result a
    (rw c.bytes.ensures.value at c.read_count.ensures)

pub returns-in-None : goal.returns-in-None
returns-in-None c = tail_none _ c.in-None.ensures
