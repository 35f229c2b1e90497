use Rattle.std.proofs.Common.{subst, sym}
use Rattle.hm_schema_lines.specs.Tokens.{Spaced}
use Rattle.hm_schema_lines.proofs.NodeLines.{indented_reads, flush_reads}
use Rattle.hm_schema_lines.proofs.node_line.read_node_line.Goals as goal

pub returns-in-Some-2 : goal.returns-in-Some-2
returns-in-Some-2 c =
    let tokens = rw c.in-Some-2.is at c.in_ok-tokens-in-Some.ensures in
    indented_reads c.args.line.now c.in-Some.text.now c.from.result.items c.indented_line.result c.in-Some.ensures.cases.0
    c.in-Some.ensures.cases.1 (subst (λ ts. Spaced ts c.in-Some.text.now) (sym c.from.ensures.0) tokens) c.indented_line.ensures

pub returns-in-Some-3 : goal.returns-in-Some-3
returns-in-Some-3 c =
    let tokens = rw c.in-Some-3.is at c.in_ok-tokens-in-None.ensures in
    flush_reads c.args.line.now c.from-in-Some-3.result.items c.flush_line.result
    (subst (λ ts. Spaced ts c.args.line.now) (sym c.from-in-Some-3.ensures.0) tokens) c.flush_line.ensures
